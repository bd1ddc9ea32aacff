-- `atom_simplifier::fold::NodeFold::rewrite` meets its contract. Assumes nothing.
use mathlib.Core.Bool.{false}
use Rattle.std.proofs.Common.{rules, ◌≡◌}
use Rattle.expr.specs.Trees.{tree_of}
use Rattle.atom_simplifier.proofs.LocalLaws.{equal_operands, three_one, one_kind, same_tested, no_and, no_three, one_tested, equal_decides, three_one_decides, fold_decides, left_goes}
use Rattle.atom_simplifier.proofs.fold.NodeFold.rewrite.Goals as goal
use Rattle.atom_simplifier.proofs.fold.NodeFold.rewrite.Goals.{Joined-else-ne, Joined-else-eq, else-ne-via-then-ne+else-same_part, else-ne-via-else-ne, else-eq-via-then-eq+then-is_constant+else-is_constant-2, else-eq-via-then-eq+else-is_constant, else-eq-via-else-eq}

ruleset tests = (rules, one_kind, same_tested, no_and, no_three, one_tested)

ruleset laws = (tests, equal_decides, three_one_decides, fold_decides, left_goes)

pub returns-then-same_part : goal.returns-then-same_part
returns-then-same_part c = search laws

unequal : (c : Joined-else-ne) → equal_operands c.args.self.by.width.bits c.args.self.by.op (tree_of c.lhs-lhs.result.tree) (tree_of c.rhs-rhs.result.tree) ≡ false
unequal c = elim c.else-ne.branch [
  | else-ne-via-then-ne+else-same_part v ↦ search tests
  | else-ne-via-else-ne v ↦ search tests
]

pub returns-then-is_constant-2 : goal.returns-then-is_constant-2
returns-then-is_constant-2 c = search (laws, unequal (goal.at.returns-then-is_constant-2 c).Joined-else-ne)

not_three_one : (c : Joined-else-eq) → three_one c.args.self.by.width.bits c.args.self.by.op (tree_of c.lhs-lhs.result.tree) (tree_of c.rhs-rhs.result.tree) ≡ false
not_three_one c = elim c.else-eq.branch [
  | else-eq-via-then-eq+then-is_constant+else-is_constant-2 v ↦ search tests
  | else-eq-via-then-eq+else-is_constant v ↦ search tests
  | else-eq-via-else-eq v ↦ search tests
]

pub returns : goal.returns
returns c = search (laws, unequal (goal.at.returns c).Joined-else-ne, not_three_one (goal.at.returns c).Joined-else-eq)
