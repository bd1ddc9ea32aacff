-- `expr::span` meets its contract. The measure is what is left of the words. Assumes nothing.
use Prim.Native.Nat.{◌-◌, ◌<◌}
use Rattle.expr.proofs.DueLaws.{Going}
use Rattle.expr.proofs.span.Given as goal

abbrev pub invariant-loop-at : goal.invariant-loop-at
invariant-loop-at l = Going l.words l.due l.at × (0 < l.due)

abbrev pub decreases-loop-at : goal.decreases-loop-at
decreases-loop-at l = l.at-end - l.at
