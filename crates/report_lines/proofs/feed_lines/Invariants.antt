-- `report_lines::feed_lines` meets its contract. The measure is what is left of the chunk. Assumes nothing.
use mathlib.Core.Path.{◌≡◌}
use Prim.Native.Nat.{◌-◌}
use lib.ListN.{length}
use Rattle.report_lines.specs.Promises.{Goes, state_of}
use Rattle.report_lines.proofs.feed_lines.Given as goal

abbrev pub invariant-loop-used : goal.invariant-loop-used
invariant-loop-used l =
    Goes (state_of l.initial.printer.totals l.initial.kept.have) l.initial.kept.line.now l.chunk l.initial.printer.put l.initial.printer.out.now l.used (state_of l.printer.totals l.kept.have) l.kept.line.now l.printer.put l.printer.out.now
    × (l.kept.line.ghost_name ≡ l.initial.kept.line.ghost_name)
    × (l.printer.out.ghost_name ≡ l.initial.printer.out.ghost_name)

abbrev pub decreases-loop-used : goal.decreases-loop-used
decreases-loop-used l = length l.chunk - l.used
