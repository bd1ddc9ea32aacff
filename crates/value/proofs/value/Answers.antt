-- `value::value` meets its contract. Assumes nothing.
use Rattle.value.proofs.CallLaws.{answered}
use Rattle.value.proofs.value.Goals as goal

pub returns : goal.returns
returns c = answered c.args.words.now _ c.args.var_widths.now _ c.in_ok-tree.ensures.tree _ c.in_ok-tree.ensures.width _ _ c.fold.ensures _ c.ok_or.ensures.value
