-- `report::Report::new` meets its contract. Assumes nothing.
use Rattle.std.proofs.Common.{refl}
use Rattle.report.proofs.ReadingLaws.{start_ready}
use Rattle.report.proofs.Report.new.Goals as goal

pub invariant_of-result : goal.invariant_of-result
invariant_of-result c = record { out_length = refl; is_ready = start_ready _ c.default.ensures }
