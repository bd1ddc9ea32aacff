-- `expr::check_at` meets its contract. The measure is the number of levels left. Assumes nothing.
use Rattle.expr.proofs.+check_at.Given as goal

abbrev pub decreases-check_at : goal.decreases-check_at
decreases-check_at l = l.levels
