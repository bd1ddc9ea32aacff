-- `report_lines::lent::Ongoing::refuse` meets its contract. Assumes nothing.
use Rattle.arith.specs.NeedLaws.{basics}
use Rattle.report_lines.proofs.PrintedLaws.{refusing, refused_printed}
use Rattle.report_lines.proofs.lent.Ongoing.refuse.Goals as goal

ruleset laws = (basics, refusing)

pub overflow_add-result-2 : goal.overflow_add-result-2
overflow_add-result-2 c = search laws

pub returns : goal.returns
returns c =
    let p = c.put_fields.ensures in
    let r = rw c.from.ensures at p in
    refused_printed _ _ _ _ _ _ c.from-number.ensures r.0 r.1
