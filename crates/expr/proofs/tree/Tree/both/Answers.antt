-- `expr::tree::Tree::both` meets its contract. Assumes nothing.
use Rattle.std.proofs.Common.{rules}
use Rattle.expr.proofs.ChildLaws.{both_parts}
use Rattle.expr.proofs.tree.Tree.both.Goals as goal

ruleset laws = (rules, both_parts)

pub slice_bounds-r-count : goal.slice_bounds-r-count
slice_bounds-r-count c = search laws

pub slice_bounds-r-start : goal.slice_bounds-r-start
slice_bounds-r-start c = search laws

pub slice_bounds-l-end : goal.slice_bounds-l-end
slice_bounds-l-end c = search laws

pub invariant_of-l : goal.invariant_of-l
invariant_of-l c = search laws

pub invariant_of-r : goal.invariant_of-r
invariant_of-r c = search laws

pub returns : goal.returns
returns c = search laws
