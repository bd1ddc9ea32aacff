-- `hexadecimal::operand` meets its contract. Assumes nothing.
use borrow.Author.Rules.{rules}
use Rattle.hexadecimal.proofs.OperandLaws.{joining}
use Rattle.hexadecimal.proofs.operand.Goals as goal

ruleset laws = (rules, joining)

pub overflow_mul-result : goal.overflow_mul-result
overflow_mul-result c = search laws

pub overflow_add-result : goal.overflow_add-result
overflow_add-result c = search laws

pub returns : goal.returns
returns c = search laws
