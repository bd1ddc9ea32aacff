-- `report_lines::line::conditions` meets its contract. Assumes nothing.
use Rattle.report_lines.proofs.ConditionsLaws.{Finding}
use Rattle.report_lines.proofs.line.conditions.Given as goal

abbrev pub invariant-loop-node : goal.invariant-loop-node
invariant-loop-node l = Finding l.words l.found l.node-index
