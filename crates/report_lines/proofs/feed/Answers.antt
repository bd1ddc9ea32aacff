-- `report_lines::feed` meets its contract. Assumes nothing.
use Rattle.std.proofs.Common.{sym}
use Rattle.arith.specs.NeedLaws.{basics}
use Rattle.report_lines.proofs.FeedLaws.{calls}
use Rattle.report_lines.proofs.feed.Goals as goal

ruleset laws = (basics, calls)

pub returns-then-not-is_ready : goal.returns-then-not-is_ready
returns-then-not-is_ready c = search laws

pub invariant_of-kept : goal.invariant_of-kept
invariant_of-kept c = record { within = search laws; line_room = search laws }

pub invariant_of-printer : goal.invariant_of-printer
invariant_of-printer c = record { sound = search laws; inside = search laws }

pub invariant_of-feed_lines : goal.invariant_of-feed_lines
invariant_of-feed_lines c = record { words_room = search laws; work_room = search laws }

pub returns : goal.returns
returns c =
    let line = c.line-1.given.1.1 (sym c.feed_lines-used.ensures.same_line) in
    let out = c.out-1.given.1.1 (sym c.feed_lines-used.ensures.same_out) in
    search (laws, line, out)
