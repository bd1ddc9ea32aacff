-- `rewrite_two` meets its contract. The measure is the number of the node's words. Assumes nothing.
use Rattle.atom_simplifier.proofs.chain.+rewrite_two.Given as goal

abbrev pub decreases-rewrite_two : goal.decreases-rewrite_two
decreases-rewrite_two l = l.len
