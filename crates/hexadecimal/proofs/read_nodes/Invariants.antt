-- `hexadecimal::read_nodes` meets its contract. Assumes nothing.
use Rattle.hexadecimal.proofs.LoopLaws.{Filling}
use Rattle.hexadecimal.proofs.read_nodes.Given as goal

abbrev pub invariant-loop-i : goal.invariant-loop-i
invariant-loop-i l = Filling l.s l.initial.out l.out l.good l.i
