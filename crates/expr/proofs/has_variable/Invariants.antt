-- `expr::has_variable` meets its contract. Assumes nothing.
use Rattle.expr.proofs.VariableLaws.{Looking}
use Rattle.expr.proofs.has_variable.Given as goal

abbrev pub invariant-loop-place : goal.invariant-loop-place
invariant-loop-place l = Looking l.words l.place
