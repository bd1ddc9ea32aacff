-- `report_lines::printer::Printer::is_open` meets its contract. Assumes nothing.
use Rattle.std.proofs.Common.{rules, arith}
use Rattle.std.proofs.lemmas.Bool.Decides.{nat_tests}
use Rattle.report_lines.specs.Steps.{is_open}
use Rattle.report_lines.proofs.printer.Printer.is_open.Goals as goal

pub returns-then-self-lt-MOST_LINES : goal.returns-then-self-lt-MOST_LINES
unfolding is_open
returns-then-self-lt-MOST_LINES c = search rules

pub returns-else-self-lt-MOST_LINES : goal.returns-else-self-lt-MOST_LINES
unfolding is_open
returns-else-self-lt-MOST_LINES c = grind (arith, nat_tests)
