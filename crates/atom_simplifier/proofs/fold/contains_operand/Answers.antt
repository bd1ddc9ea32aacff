-- `atom_simplifier::fold::contains_operand` meets its contract. Assumes nothing.
use Rattle.atom_simplifier.proofs.OperandLaws.{right_operand}
use Rattle.atom_simplifier.proofs.fold.contains_operand.Goals as goal

pub returns-else-same_part : goal.returns-else-same_part
returns-else-same_part c =
    right_operand _ _ _ _ _ _ c.in-Some.ensures _ c.same_part.ensures c.if-same_part.false _ c.same_part-else-same_part.ensures
