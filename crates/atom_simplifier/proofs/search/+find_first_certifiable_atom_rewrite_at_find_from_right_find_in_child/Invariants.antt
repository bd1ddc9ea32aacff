-- `find_first_certifiable_atom_rewrite_at`, `find_from_right` and `find_in_child` meet their contracts. The measure is three for each word that is left, and two, one and
-- none more, as the calls on the same words come one after the other. Assumes nothing.
use Prim.Native.Nat.{◌+◌, ◌*◌}
use lib.ListN.{length}
use Rattle.atom_simplifier.proofs.search.+find_first_certifiable_atom_rewrite_at_find_from_right_find_in_child.Given as goal

abbrev pub decreases-find_first_certifiable_atom_rewrite_at : goal.decreases-find_first_certifiable_atom_rewrite_at
decreases-find_first_certifiable_atom_rewrite_at l = 3 * length l.walk.words.now + 2

abbrev pub decreases-find_from_right : goal.decreases-find_from_right
decreases-find_from_right l = 3 * length l.walk.words.now + 1

abbrev pub decreases-find_in_child : goal.decreases-find_in_child
decreases-find_in_child l = 3 * length l.walk.words.now
