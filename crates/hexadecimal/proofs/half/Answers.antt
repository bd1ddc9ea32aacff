-- `hexadecimal::half` meets its contract. Assumes nothing.
use borrow.Author.Rules.{rules}
use Rattle.hexadecimal.proofs.OperandLaws.{zeros_parsed}
use Rattle.hexadecimal.proofs.half.Goals as goal

ruleset laws = (rules, zeros_parsed)

pub returns-then-is_zeros : goal.returns-then-is_zeros
returns-then-is_zeros c = search laws
