-- `report_lines::line::conditions` meets its contract. Assumes nothing.
use Rattle.arith.specs.NeedLaws.{basics}
use Rattle.report_lines.proofs.ConditionsLaws.{finding}
use Rattle.report_lines.proofs.line.conditions.Goals as goal

ruleset laws = (basics, finding)

pub raised-found-requires : goal.raised-found-requires
raised-found-requires c = search laws

pub loop-node-init : goal.loop-node-init
loop-node-init c = search laws

pub loop-node-preserved : goal.loop-node-preserved
loop-node-preserved c = search laws

pub returns : goal.returns
returns c = search laws
