-- `report::Report::feed_chunk` meets its contract. Assumes nothing.
use Rattle.std.proofs.Common.{arith}
use borrow.Author.Rules.{rules}
use Rattle.report.proofs.ReadingLaws.{feeding_first, feeding_on, feeding_more, feeding_inside, feeding_last}
use Rattle.report.proofs.Report.feed_chunk.Goals as goal

ruleset laws = (rules, feeding_first, feeding_on, feeding_last)

pub loop-at-init : goal.loop-at-init
loop-at-init g c = search laws

pub overflow_add-at : goal.overflow_add-at
overflow_add-at g c =
    omega (arith, feeding_inside _ _ _ _ _ _ c.loop-at.invariant (omega arith) _ _ _ c.in_ok-at.ensures)

pub loop-at-preserved : goal.loop-at-preserved
loop-at-preserved g c = search laws

pub loop-at-smaller : goal.loop-at-smaller
loop-at-smaller g c =
    omega (arith, feeding_more _ _ _ _ _ _ c.loop-at.invariant (omega arith) _ _ _ c.in_ok-at.ensures)

pub returns : goal.returns
returns g c = search laws
