-- The places before the index have their marks.
use Rattle.requests.specs.Promises.{Marked}
use Rattle.requests.proofs.lent.mark_places.Given as goal

abbrev pub invariant-loop-i : goal.invariant-loop-i
invariant-loop-i g l = Marked g.T.Place.mark_at l.places l.i
