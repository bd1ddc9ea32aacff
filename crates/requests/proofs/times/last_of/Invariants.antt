-- So many calls are made.
use Rattle.std.proofs.Common.{◌≡◌, ◌-◌, ◌≤◌, List, length, max}
use Rattle.std.specs.List.{FoldsTo}
use Rattle.requests.proofs.times.last_of.Given as goal

abbrev pub invariant-loop : goal.invariant-loop
invariant-loop g l =
    (l.counter ≤ max l.times 1)
    × ((others : List g.row.C-Answer.Denot) × (length others ≡ l.counter - 1) × FoldsTo g.C.Call.gives l.fn.repeated others l.repeated)
