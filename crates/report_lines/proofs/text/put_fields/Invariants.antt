-- `report_lines::text::put_fields` meets its contract. Assumes nothing.
use Rattle.report_lines.proofs.TextLaws.{Fielding}
use Rattle.report_lines.proofs.text.put_fields.Given as goal

abbrev pub invariant-loop-i : goal.invariant-loop-i
invariant-loop-i l = Fielding l.numbers l.initial.out l.out l.at l.i
