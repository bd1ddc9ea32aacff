-- `rewrite_one`, `settle_de_morgan`, `settle_one`, `settle_operand`, `settle_second` meet their contracts. Assumes nothing.
use Prim.Native.Nat.{◌+◌, ◌*◌, ◌-◌}
use Rattle.atom_simplifier.proofs.chain.+rewrite_one_settle_de_morgan_settle_one_settle_operand_settle_second.Given as goal

abbrev pub decreases-rewrite_one : goal.decreases-rewrite_one
decreases-rewrite_one l = 3 * l.len + 1

abbrev pub decreases-settle_de_morgan : goal.decreases-settle_de_morgan
decreases-settle_de_morgan l = 3 * l.len

abbrev pub decreases-settle_one : goal.decreases-settle_one
decreases-settle_one l = 3 * l.len + 2

abbrev pub decreases-settle_operand : goal.decreases-settle_operand
decreases-settle_operand l = 3 * l.len + 9

abbrev pub decreases-settle_second : goal.decreases-settle_second
decreases-settle_second l = 3 * (l.len - l.right) + 10
