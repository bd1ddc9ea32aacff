-- `report::Report::read_all` meets its contract. Assumes nothing.
use borrow.Author.Rules.{rules}
use Rattle.report.proofs.ReadingLaws.{going_first, going_on}
use Rattle.report.proofs.Report.read_all.Goals as goal

ruleset laws = (rules, going_on)

pub loop-init : goal.loop-init
loop-init g c = going_first _ _

pub loop-preserved : goal.loop-preserved
loop-preserved g c = search laws

pub returns-then-branch-eq0 : goal.returns-then-branch-eq0
returns-then-branch-eq0 g c = search laws
