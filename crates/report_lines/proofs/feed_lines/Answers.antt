-- `report_lines::feed_lines` meets its contract. Assumes nothing.
use Rattle.arith.specs.NeedLaws.{basics}
use Rattle.report_lines.proofs.FeedLaws.{feeding}
use Rattle.report_lines.proofs.feed_lines.Goals as goal

ruleset laws = (basics, feeding)

pub loop-used-init : goal.loop-used-init
loop-used-init c = search laws

pub loop-used-preserved : goal.loop-used-preserved
loop-used-preserved c = search laws
