-- `report_lines::turn` meets its contract. Assumes nothing.
use Rattle.arith.specs.NeedLaws.{basics}
use Rattle.report_lines.proofs.StepLaws.{turning}
use Rattle.report_lines.proofs.turn.Goals as goal

ruleset laws = (basics, turning)

pub returns-then-end-chunk-clause-goes : goal.returns-then-end-chunk-clause-goes
returns-then-end-chunk-clause-goes c = search laws

pub returns-then-t-clause-goes : goal.returns-then-t-clause-goes
returns-then-t-clause-goes c = search laws

pub returns-then-t-clause-some : goal.returns-then-t-clause-some
returns-then-t-clause-some c = search laws

pub returns-else-t-clause-goes : goal.returns-else-t-clause-goes
returns-else-t-clause-goes c = search laws

pub returns-else-t-clause-some : goal.returns-else-t-clause-some
returns-else-t-clause-some c = search laws
