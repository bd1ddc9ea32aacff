-- Each call adds its answer to those of the others.
use Rattle.std.proofs.Common.{◌≡◌, ◌-◌, ◌+◌, [], ◌∷◌, ◌++◌, length, arith, length-append}
use Rattle.std.proofs.SliceLists.{chained_more}
use Rattle.requests.proofs.times.last_of.Goals as goal

pub loop-preserved : goal.loop-preserved
loop-preserved g c =
    let made = c.loop.invariant.1 in
    let r = c.call.result in
    let count : length (made.0 ++ r ∷ []) ≡ c.loop.counter + 1 - 1 = simp length-append (omega arith) in
    (omega arith, (made.0 ++ r ∷ [], count, chained_more g.C.Call.gives _ made.0 c.loop.repeated r _ made.2 c.call.ensures))

pub returns : goal.returns
returns g c =
    let made = c.loop.invariant.1 in
    (made.0, c.loop.repeated, omega arith, made.2, c.call-2.ensures)
