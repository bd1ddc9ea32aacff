-- `expr::tree::Tree::right_at` meets its contract. Assumes nothing.
use Rattle.std.proofs.Common.{rules}
use Rattle.expr.proofs.ChildLaws.{right_place}
use Rattle.expr.proofs.tree.Tree.right_at.Goals as goal

ruleset laws = (rules, right_place)

pub slice_bounds-span-count : goal.slice_bounds-span-count
slice_bounds-span-count c = search laws

pub slice_bounds-span-start : goal.slice_bounds-span-start
slice_bounds-span-start c = search laws

pub overflow_add-result : goal.overflow_add-result
overflow_add-result c = search laws

pub unwrap-requires : goal.unwrap-requires
unwrap-requires c = search laws

pub returns : goal.returns
returns c = search laws
