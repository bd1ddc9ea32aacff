-- `hexadecimal::put_digits` meets its contract. Assumes nothing.
use borrow.Author.Rules.{rules}
use Rattle.hexadecimal.proofs.NumberLaws.{putting}
use Rattle.hexadecimal.proofs.put_digits.Goals as goal

ruleset laws = (rules, putting)

pub loop-i-init : goal.loop-i-init
loop-i-init c = search laws

pub loop-i-preserved : goal.loop-i-preserved
loop-i-preserved c = search laws

pub returns : goal.returns
returns c = search laws
