-- `report::Report::feed_front` meets its contract. Assumes nothing.
use Rattle.std.proofs.Common.{◌∙◌, ◌≤◌, length, arith}
use Rattle.report.proofs.ReadingLaws.{put_inside, front_read, ready_on}
use Rattle.report.proofs.Report.feed_front.Goals as goal

pub invariant_of-self : goal.invariant_of-self
invariant_of-self g c = record {
  out_length = c.feed-step.auto.out ∙ c.args.self.now.out_length;
  is_ready =
      ready_on _ _ _ _ _ c.args.self.now.is_ready _ _ _ _ _ _ c.feed-step.ensures c.feed-step.auto.line c.feed-step.auto.words c.feed-step.auto.work c.feed-step.auto.out;
}

pub shared_ref_as_front-write_all : goal.shared_ref_as_front-write_all
shared_ref_as_front-write_all g c =
    let h : c.feed-step.result.put ≤ length c.args.self.now.out = put_inside _ _ _ _ _ c.args.self.now.is_ready _ _ _ _ _ _ c.feed-step.ensures c.feed-step.auto.out in
    omega (arith, c.args.self.now.out_length)

pub returns : goal.returns
returns g c = front_read _ _ _ _ _ c.args.self.now.is_ready _ _ _ _ _ _ c.feed-step.ensures
