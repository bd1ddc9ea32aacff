-- `report_lines::text::percentage` meets its contract. Assumes nothing.
use Rattle.arith.specs.NeedLaws.{basics}
use Rattle.report_lines.proofs.TextLaws.{nothing_before, some_before}
use Rattle.report_lines.proofs.text.percentage.Goals as goal

ruleset laws = (basics, nothing_before, some_before)

pub returns : goal.returns
returns c = search laws
