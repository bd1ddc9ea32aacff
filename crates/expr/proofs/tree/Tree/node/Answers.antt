-- `expr::tree::Tree::node` meets its contract. Assumes nothing.
use Rattle.std.proofs.Common.{rules}
use Rattle.expr.proofs.ChildLaws.{node_laws}
use Rattle.expr.proofs.tree.Tree.node.Goals as goal

ruleset laws = (rules, node_laws)

pub bounds-words-0 : goal.bounds-words-0
bounds-words-0 c = search laws

pub unwrap-requires : goal.unwrap-requires
unwrap-requires c = search laws

pub bounds-words-0-in-Zero : goal.bounds-words-0-in-Zero
bounds-words-0-in-Zero c = search laws

pub bounds-words-1 : goal.bounds-words-1
bounds-words-1 c = search laws

pub of-requires : goal.of-requires
of-requires c = search laws

pub slice_bounds-child-count : goal.slice_bounds-child-count
slice_bounds-child-count c = search laws

pub slice_bounds-child-start : goal.slice_bounds-child-start
slice_bounds-child-start c = search laws

pub bounds-words-0-in-One : goal.bounds-words-0-in-One
bounds-words-0-in-One c = search laws

pub bounds-words-1-in-One : goal.bounds-words-1-in-One
bounds-words-1-in-One c = search laws

pub of-requires-in-One : goal.of-requires-in-One
of-requires-in-One c = search laws

pub invariant_of-child : goal.invariant_of-child
invariant_of-child c = search laws

pub bounds-words-0-in-Two : goal.bounds-words-0-in-Two
bounds-words-0-in-Two c = search laws

pub both-requires : goal.both-requires
both-requires c = search laws

pub returns-in-Zero : goal.returns-in-Zero
returns-in-Zero c = search laws

pub returns-in-One : goal.returns-in-One
returns-in-One c = search laws

pub returns-in-Two : goal.returns-in-Two
returns-in-Two c = search laws
