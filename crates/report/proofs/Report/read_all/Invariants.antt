-- `report::Report::read_all` meets its contract. Assumes nothing.
use Rattle.report.specs.Reading.{ReadsSome}
use Rattle.report.proofs.Report.read_all.Given as goal

abbrev pub invariant-loop : goal.invariant-loop
invariant-loop g l = ReadsSome l.initial.self.state l.initial.self.line l.self.state l.self.line
