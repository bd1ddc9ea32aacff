-- `report::Report::read_some` meets its contract. Assumes nothing.
use Rattle.std.proofs.Common.{length-take, arith}
use Rattle.report.proofs.ReadingLaws.{lines_left}
use Rattle.report.proofs.Report.read_some.Goals as goal

pub feed_chunk-requires : goal.feed_chunk-requires
feed_chunk-requires g c =
    omega (arith, lines_left _ _ _ _ _ c.args.self.now.is_ready, c.in_ok-count.ensures, length-take c.in_ok-count.count c.read_chunk.new.input)
