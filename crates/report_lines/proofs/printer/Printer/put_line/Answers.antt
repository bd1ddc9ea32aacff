-- `report_lines::printer::Printer::put_line` meets its contract. Assumes nothing.
use Rattle.arith.specs.NeedLaws.{basics}
use Rattle.report_lines.proofs.FeedLaws.{printing}
use Rattle.report_lines.proofs.printer.Printer.put_line.Goals as goal

ruleset laws = (basics, printing)

pub invariant_of-ongoing : goal.invariant_of-ongoing
invariant_of-ongoing c = record { sound = c.args.self.now.sound; before_last = search laws }

pub overflow_add-self : goal.overflow_add-self
overflow_add-self c = search laws

pub put_line-l-requires : goal.put_line-l-requires
put_line-l-requires c = search laws

pub invariant_of-self : goal.invariant_of-self
invariant_of-self c = record { sound = search laws; inside = search laws }

pub returns-clause-prints : goal.returns-clause-prints
returns-clause-prints c = search laws
