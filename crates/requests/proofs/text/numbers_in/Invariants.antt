-- It counts no more numbers than there is room for.
use Rattle.std.proofs.Common.{length, ◌≤◌}
use Rattle.requests.proofs.text.numbers_in.Given as goal

abbrev pub invariant-loop-rest : goal.invariant-loop-rest
invariant-loop-rest g l = l.count ≤ length l.values

abbrev pub decreases-loop-rest : goal.decreases-loop-rest
decreases-loop-rest g l = length l.rest
