-- `hexadecimal::put_nodes` meets its contract. Assumes nothing.
use Rattle.hexadecimal.proofs.LoopLaws.{Writing}
use Rattle.hexadecimal.proofs.put_nodes.Given as goal

abbrev pub invariant-loop-i : goal.invariant-loop-i
invariant-loop-i l = Writing l.words l.initial.out l.out l.i
