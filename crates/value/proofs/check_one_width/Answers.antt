-- `value::check_one_width` meets its contract. Assumes nothing.
use Rattle.value.proofs.CallLaws.{nodes_counted}
use Rattle.value.proofs.check_one_width.Goals as goal

pub returns : goal.returns
returns c = nodes_counted c.args.words.now _ c.args.var_widths.now _ c.in_ok-tree.ensures.tree _ c.nodes.ensures
