-- `report_lines::printer::Printer::put_last` meets its contract. Assumes nothing.
use Rattle.arith.specs.NeedLaws.{basics}
use Rattle.report_lines.proofs.FeedLaws.{ending, last_empty, last_full}
use Rattle.report_lines.proofs.printer.Printer.put_last.Goals as goal
use Rattle.report_lines.proofs.printer.Printer.put_last.Goals.{then-is_empty-via-then-is_empty, then-is_empty-via-else-is_empty+then-self-eq-MOST_LINES}

ruleset laws = (basics, ending, last_empty, last_full)

pub returns-then-is_empty-clause-prints : goal.returns-then-is_empty-clause-prints
returns-then-is_empty-clause-prints c =
    elim c.then-is_empty.branch [
      | then-is_empty-via-then-is_empty w ↦ search laws
      | then-is_empty-via-else-is_empty+then-self-eq-MOST_LINES w ↦ search laws
    ]

pub put_line-requires : goal.put_line-requires
put_line-requires c = search laws

pub returns : goal.returns
returns c = search laws
