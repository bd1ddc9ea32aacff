-- `hexadecimal::put_half` meets its contract. Assumes nothing.
use borrow.Author.Rules.{rules}
use Rattle.hexadecimal.proofs.OperandLaws.{zeros_put, half_put}
use Rattle.hexadecimal.proofs.put_half.Goals as goal

ruleset laws = (rules, zeros_put, half_put)

pub returns-then-n-eq0 : goal.returns-then-n-eq0
returns-then-n-eq0 c = search laws

pub returns-else-n-eq0 : goal.returns-else-n-eq0
returns-else-n-eq0 c = search laws
