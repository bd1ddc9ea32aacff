-- `report_lines::line::run_chain` meets its contract. Assumes nothing.
use Rattle.arith.specs.NeedLaws.{basics}
use Rattle.report_lines.proofs.RanLaws.{running}
use Rattle.report_lines.proofs.line.run_chain.Goals as goal

ruleset laws = (basics, running)

pub returns-in-Err-OutputTooSmall : goal.returns-in-Err-OutputTooSmall
returns-in-Err-OutputTooSmall c = search laws
