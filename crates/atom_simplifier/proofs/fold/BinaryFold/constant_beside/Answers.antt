-- `atom_simplifier::fold::BinaryFold::constant_beside` meets its contract. Assumes nothing.
use Rattle.atom_simplifier.proofs.ReassociateLaws.{constant_whole}
use Rattle.atom_simplifier.proofs.fold.BinaryFold.constant_beside.Goals as goal

pub invariant_of-arms-clause-whole : goal.invariant_of-arms-clause-whole
invariant_of-arms-clause-whole c = constant_whole c.args.c
