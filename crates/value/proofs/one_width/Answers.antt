-- `value::one_width` meets its contract. Assumes nothing.
use borrow.Author.Rules.{rules}
use Rattle.value.proofs.CallLaws.{width_no, words_no, not_uniform, read_uniform}
use Rattle.width.specs.CheckedLaws.{given_width}
use Rattle.value.proofs.one_width.Goals as goal

pub returns-in_err-supported-clause-tree : goal.returns-in_err-supported-clause-tree
returns-in_err-supported-clause-tree c =
    let stays = width_no c.args.words.now _ c.args.var_widths.now _ c.in_err-supported.ensures in
    search (rules, stays)

pub returns-in_err-tree-clause-tree : goal.returns-in_err-tree-clause-tree
returns-in_err-tree-clause-tree c =
    let stays = words_no c.args.words.now _ c.args.var_widths.now _ c.in_ok-supported.ensures _ c.in_err-tree.ensures in
    search (rules, stays)

pub returns-then-not-is_uniform-clause-tree : goal.returns-then-not-is_uniform-clause-tree
returns-then-not-is_uniform-clause-tree c =
    not_uniform c.args.words.now _ _ _ c.in_ok-supported.ensures _ c.in_ok-tree.ensures _ c.is_uniform.ensures c.if-not-is_uniform.true

pub returns-clause-tree : goal.returns-clause-tree
returns-clause-tree c = read_uniform c.args.words.now _ _ _ c.in_ok-supported.ensures _ c.in_ok-tree.ensures _ c.is_uniform.ensures c.if-not-is_uniform.false

pub returns-clause-width : goal.returns-clause-width
returns-clause-width c = given_width _ _ c.in_ok-supported.ensures
