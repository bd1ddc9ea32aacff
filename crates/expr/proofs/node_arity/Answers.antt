-- `expr::node_arity` meets its contract. Assumes nothing.
use borrow.Author.Rules.{rules}
use Rattle.expr.proofs.NodeLaws.{unknown, operand_refused, depth_refused, within}
use Rattle.expr.proofs.node_arity.Goals as goal

ruleset laws = (rules, unknown, operand_refused, depth_refused, within)

pub returns-in_err-arity : goal.returns-in_err-arity
returns-in_err-arity c = search laws

pub returns-then-not-operand_ok : goal.returns-then-not-operand_ok
returns-then-not-operand_ok c = search (laws, c.in_ok-arity.was)

pub returns-then-levels-eq0 : goal.returns-then-levels-eq0
returns-then-levels-eq0 c = search (laws, c.in_ok-arity.was)

pub returns : goal.returns
returns c = search (laws, c.in_ok-arity.was)
