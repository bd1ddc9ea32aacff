use Rattle.std.proofs.Common.{length}
use Rattle.expr.proofs.fold.+fold_at.Given as goal

-- proposed from what the function passes where it calls itself
abbrev pub decreases-fold_at : goal.decreases-fold_at
decreases-fold_at g l = length l.walk.words.now
