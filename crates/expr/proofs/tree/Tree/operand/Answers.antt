-- `expr::tree::Tree::operand` meets its contract. Assumes nothing.
use Rattle.std.proofs.Common.{rules}
use Rattle.expr.proofs.ChildLaws.{single_operands}
use Rattle.expr.proofs.tree.Tree.operand.Goals as goal

ruleset laws = (rules, single_operands)

pub bounds-words-0 : goal.bounds-words-0
bounds-words-0 c = search laws

pub returns-then-words-number : goal.returns-then-words-number
returns-then-words-number c = search laws

pub bounds-words-1 : goal.bounds-words-1
bounds-words-1 c = search laws

pub returns-then-words-operand : goal.returns-then-words-operand
returns-then-words-operand c = search laws

pub slice_bounds-result-count : goal.slice_bounds-result-count
slice_bounds-result-count c = search laws

pub slice_bounds-result-start : goal.slice_bounds-result-start
slice_bounds-result-start c = search laws

pub invariant_of-result-clause-whole : goal.invariant_of-result-clause-whole
invariant_of-result-clause-whole c = search laws

pub invariant_of-result-clause-short : goal.invariant_of-result-clause-short
invariant_of-result-clause-short c = search laws

pub returns : goal.returns
returns c = search laws
