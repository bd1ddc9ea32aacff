-- `hexadecimal::put_digits` meets its contract. Assumes nothing.
use Rattle.hexadecimal.proofs.NumberLaws.{Putting}
use Rattle.hexadecimal.proofs.put_digits.Given as goal

abbrev pub invariant-loop-i : goal.invariant-loop-i
invariant-loop-i l = Putting l.n l.count l.initial.out l.out l.i l.rest
