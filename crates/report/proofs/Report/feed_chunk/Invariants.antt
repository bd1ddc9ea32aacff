-- `report::Report::feed_chunk` meets its contract. The measure is what is left of the chunk. Assumes nothing.
use Rattle.std.proofs.Common.{◌-◌, length}
use Rattle.report.proofs.ReadingLaws.{Feeding}
use Rattle.report.proofs.Report.feed_chunk.Given as goal

abbrev pub invariant-loop-at : goal.invariant-loop-at
invariant-loop-at g l = Feeding l.initial.self.state l.initial.self.line l.chunk l.at l.self.state l.self.line

abbrev pub decreases-loop-at : goal.decreases-loop-at
decreases-loop-at g l = length l.chunk - l.at
