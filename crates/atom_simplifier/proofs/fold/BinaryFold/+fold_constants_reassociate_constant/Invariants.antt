-- `atom_simplifier::fold::BinaryFold::fold_constants` and `reassociate_constant` meet their contracts. The measure is two for each word that is
-- left, and one more for the first, which calls the second on the same words. Assumes nothing.
use Prim.Native.Nat.{◌+◌, ◌*◌}
use lib.ListN.{length}
use Rattle.atom_simplifier.proofs.fold.BinaryFold.+fold_constants_reassociate_constant.Given as goal

abbrev pub decreases-fold_constants : goal.decreases-fold_constants
decreases-fold_constants l = 2 * length l.part.tree.words.now + 1

abbrev pub decreases-reassociate_constant : goal.decreases-reassociate_constant
decreases-reassociate_constant l = 2 * length l.lhs.tree.words.now
