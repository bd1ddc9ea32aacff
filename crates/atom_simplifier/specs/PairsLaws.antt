-- A tree of at most 512 nodes has few pairs. Assumes nothing.
use Rattle.std.specs.Prelude.{◌≡◌, refl, ◌≤◌}
use Rattle.std.proofs.Common.{arith}
use Rattle.std.proofs.Math.Path.{ap}
use Rattle.expr.specs.Domain.{FewBelow}
use Rattle.expr.specs.Expr.{Expr, leaf, unary, binary, nodes}
use Rattle.rewriting.specs.MeasureLaws.{and_ors_nodes, D_small}
use Rattle.rewriting.specs.Measures.{D}
use Rattle.atom_simplifier.specs.declared.pairs.Pairs.{Pairs}
use Rattle.atom_simplifier.specs.Promises.{counted, Narrow, Few}

pub few_pairs : (p : Pairs) (t : Expr) → nodes t ≤ 512 → p ≡ counted t → Few p
unfolding counted
few_pairs p t h e =
    (omega (arith, and_ors_nodes t, ap (λ (q : Pairs). q.and_ors) e), omega (arith, D_small t (omega arith), ap (λ (q : Pairs). q.pairs) e))

-- each number of a node over trees of at most 512 nodes has at most 64 bits
pub narrow : (t : Expr) → FewBelow t → Narrow t
unfolding counted D nodes
narrow (leaf k) few = (omega (arith, and_ors_nodes (leaf k)), omega arith)
narrow (unary k t) few = (omega (arith, few, and_ors_nodes (unary k t)), omega (arith, few, D_small (unary k t) (omega (arith, few))))
narrow (binary k l r) few = (
  omega (arith, few.0, few.1, and_ors_nodes (binary k l r)),
  omega (arith, (few_pairs (counted l) l few.0 refl).1, (few_pairs (counted r) r few.1 refl).1),
)
