-- `report_lines::finish` meets its contract. Assumes nothing.
use Rattle.arith.specs.NeedLaws.{basics}
use Rattle.std.proofs.Common.{sym, ◌∙◌}
use Rattle.report_lines.proofs.FeedLaws.{calls}
use Rattle.report_lines.proofs.finish.Goals as goal

ruleset laws = (basics, calls)

pub returns-then-not-is_ready : goal.returns-then-not-is_ready
returns-then-not-is_ready c = search laws

pub invariant_of-printer : goal.invariant_of-printer
invariant_of-printer c = record { sound = search laws; inside = search laws }

pub slice_bounds-put_last-end : goal.slice_bounds-put_last-end
slice_bounds-put_last-end c = search laws

pub invariant_of-put_last : goal.invariant_of-put_last
invariant_of-put_last c = record { words_room = search laws; work_room = search laws }

pub put_last-requires : goal.put_last-requires
put_last-requires c = search laws

pub returns : goal.returns
returns c =
    let same = c.out-1.given.1.1 (sym (c.put_closing.ensures.same_out ∙ c.put_last.ensures.same_out)) in
    search (laws, same)
