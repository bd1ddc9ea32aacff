-- `report_lines::sound_totals` meets its contract. Assumes nothing.
use Rattle.std.proofs.Common.{rules, arith}
use Rattle.std.proofs.lemmas.Bool.Decides.{nat_tests}
use Rattle.report_lines.specs.Steps.{sound_totals}
use Rattle.report_lines.proofs.sound_totals.Goals as goal

pub returns-then-t-2 : goal.returns-then-t-2
unfolding sound_totals
returns-then-t-2 c = search rules

pub returns-else-t-2 : goal.returns-else-t-2
unfolding sound_totals
returns-else-t-2 c = grind (arith, nat_tests)
