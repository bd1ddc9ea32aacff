-- `report_lines::lent::Ongoing::accept` meets its contract. Assumes nothing.
use Prim.Native.Nat.{◌≤◌}
use lib.ListN.{length}
use Rattle.arith.specs.NeedLaws.{basics}
use Rattle.expr.specs.Parts.{tail}
use Rattle.report_lines.proofs.PrintedLaws.{accepting, tree_laid, frame_count, bytes_fit}
use Rattle.report_lines.proofs.lent.Ongoing.accept.Goals as goal

ruleset laws = (basics, accepting)

pub overflow_add-result : goal.overflow_add-result
overflow_add-result c =
    let room : 9219 ≤ length (tail c.put_fields-k.result c.put_fields-k.new.out) = search laws in
    bytes_fit _ c.args.done.end.whole c.args.done.end.short _ room _ c.put_frame.ensures.answer _ c.unwrap-m.ensures _ (search laws)

pub returns : goal.returns
returns c =
    let room : 9219 ≤ length (tail c.put_fields-k.result c.put_fields-k.new.out) = search laws in
    let laid = tree_laid _ c.args.done.end.whole c.args.done.end.short _ room c.args.done.width.bits _ c.put_frame.ensures.written in
    let count = frame_count _ c.args.done.end.whole c.args.done.end.short _ room _ c.put_frame.ensures.answer _ c.unwrap-m.ensures c.args.done.width.bits in
    search (laws, laid, count)
