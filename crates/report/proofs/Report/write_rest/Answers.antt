-- `report::Report::write_rest` meets its contract. Assumes nothing.
use Rattle.std.proofs.Common.{◌≤◌, length, arith}
use Rattle.report.proofs.ReadingLaws.{rest_inside}
use Rattle.report.proofs.Report.write_rest.Goals as goal

pub shared_ref_as_front-write_all : goal.shared_ref_as_front-write_all
shared_ref_as_front-write_all g c =
    let h : c.finish-put.result ≤ length c.finish-put.new.out = rest_inside _ _ _ _ _ c.args.self.now.is_ready _ _ _ _ c.finish-put.ensures in
    omega (arith, c.args.self.now.out_length, c.finish-put.auto.out)
