-- The number of places stays.
use Rattle.std.proofs.Common.{◌≡◌, length}
use Rattle.requests.proofs.output.Output.put_list.Given as goal

abbrev pub invariant-loop-value : goal.invariant-loop-value
invariant-loop-value g l = length l.self.buffer.now ≡ length l.fn.self.buffer.now
