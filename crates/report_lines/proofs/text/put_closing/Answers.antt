-- `report_lines::text::put_closing` meets its contract. Assumes nothing.
use Rattle.arith.specs.NeedLaws.{basics}
use Rattle.report_lines.proofs.TextLaws.{close_line}
use Rattle.report_lines.proofs.text.put_closing.Goals as goal

ruleset laws = (basics, close_line)

pub percentage-percent-requires : goal.percentage-percent-requires
percentage-percent-requires c = search laws

pub returns : goal.returns
returns c = search laws
