-- `report_lines::text::put_field` meets its contract. Assumes nothing.
use Rattle.arith.specs.NeedLaws.{basics}
use Rattle.report_lines.proofs.TextLaws.{one_field}
use Rattle.report_lines.proofs.text.put_field.Goals as goal

ruleset laws = (basics, one_field)

pub bounds-out-k : goal.bounds-out-k
bounds-out-k c = search laws

pub returns : goal.returns
returns c = search laws
