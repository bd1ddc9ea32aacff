-- `report_lines::line::run_line` meets its contract. Assumes nothing.
use Rattle.arith.specs.NeedLaws.{basics}
use Rattle.report_lines.proofs.PrintedLaws.{chaining, reading}
use Rattle.report_lines.proofs.line.run_line.Goals as goal

ruleset laws = (basics, chaining, reading)

pub invariant_of-result-2 : goal.invariant_of-result-2
invariant_of-result-2 c = record { whole = search (laws, c.in_ok-end.was); short = search (laws, c.in_ok-read.ensures.answer) }
