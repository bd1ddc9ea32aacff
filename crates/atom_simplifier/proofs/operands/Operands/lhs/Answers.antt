-- `atom_simplifier::operands::Operands::lhs` meets its contract. Assumes nothing.
use Rattle.expr.specs.PartLaws.{part_short}
use Rattle.atom_simplifier.proofs.operands.Operands.lhs.Goals as goal

pub invariant_of-tree-clause-short : goal.invariant_of-tree-clause-short
invariant_of-tree-clause-short c = part_short c.args.self.node.words.now 1024 c.args.self.node.short 2 c.args.self.right
