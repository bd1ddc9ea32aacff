-- `atom_simplifier::operands::Placed::operands` meets its contract. Assumes nothing.
use Rattle.atom_simplifier.proofs.DecideLaws.{left_inside, right_inside}
use Rattle.atom_simplifier.proofs.operands.Placed.operands.Goals as goal

pub invariant_of-result : goal.invariant_of-result
invariant_of-result c =
    record { inside = left_inside _ _ _ _ c.args.self.tree.whole c.in_ok-l.l.whole c.in_ok-l.r.whole c.in_ok-l.ensures _ c.args.self.inside }

pub invariant_of-result-2 : goal.invariant_of-result-2
invariant_of-result-2 c =
    record { inside = right_inside _ _ _ _ c.args.self.tree.whole c.in_ok-l.l.whole c.in_ok-l.r.whole c.in_ok-l.ensures _ c.args.self.inside }
