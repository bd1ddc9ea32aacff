-- `expr::is_constant_subtree` meets its contract. Assumes nothing.
use borrow.Author.Rules.{rules}
use Rattle.expr.proofs.VerdictLaws.{turned_round}
use Rattle.expr.proofs.is_constant_subtree.Goals as goal

ruleset laws = (rules, turned_round)

pub returns : goal.returns
returns c = search (laws, c.in_ok-has_var_dep.ensures)
