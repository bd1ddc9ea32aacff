-- `build` and the functions that it calls meet their contracts. The measure is two for each word that is left, and one or two more. Assumes nothing.
use Prim.Native.Nat.{◌+◌, ◌*◌}
use lib.ListN.{length}
use Rattle.atom_simplifier.proofs.chain.+build_build_one_build_right_build_two.Given as goal

abbrev pub decreases-build : goal.decreases-build
decreases-build l = 2 * length l.walk.words.now + 1

abbrev pub decreases-build_one : goal.decreases-build_one
decreases-build_one l = 2 * length l.walk.words.now

abbrev pub decreases-build_right : goal.decreases-build_right
decreases-build_right l = 2 * length l.walk.words.now + 2

abbrev pub decreases-build_two : goal.decreases-build_two
decreases-build_two l = 2 * length l.walk.words.now
