-- `report_lines::text::put_fields` meets its contract. Assumes nothing.
use Rattle.arith.specs.NeedLaws.{basics}
use Rattle.report_lines.proofs.TextLaws.{all_fields}
use Rattle.report_lines.proofs.text.put_fields.Goals as goal

ruleset laws = (basics, all_fields)

pub put_field-at-requires : goal.put_field-at-requires
put_field-at-requires c = search laws

pub loop-i-init : goal.loop-i-init
loop-i-init c = search laws

pub loop-i-preserved : goal.loop-i-preserved
loop-i-preserved c = search laws

pub returns : goal.returns
returns c = search laws
