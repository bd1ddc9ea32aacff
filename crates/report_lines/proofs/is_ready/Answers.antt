-- `report_lines::is_ready` meets its contract. Assumes nothing.
use Rattle.std.proofs.Common.{rules, arith}
use Rattle.std.proofs.lemmas.Bool.Decides.{nat_tests}
use Rattle.report_lines.specs.Steps.{ready}
use Rattle.report_lines.proofs.is_ready.Goals as goal

pub returns-then-s-line : goal.returns-then-s-line
unfolding ready
returns-then-s-line c = search rules

pub returns-else-s-line : goal.returns-else-s-line
unfolding ready
returns-else-s-line c = grind (arith, nat_tests)
