-- What is said of the trees of a domain. Assumes nothing.
use Rattle.std.specs.Prelude.{◌≤◌}
use Rattle.std.proofs.Common.{arith}
use Rattle.expr.specs.Expr.{Expr, leaf, unary, binary, nodes}
use Rattle.expr.specs.Domain.{FewBelow, Domain, every, those, on}

module _ (t : Expr) {X : Type 0} where
  pub on_any : (d : Domain) → X → on d t X
  on_any every x = x
  on_any (those P few) x = λ p. x

  -- of a node over small trees it holds
  pub on_few : (d : Domain) → FewBelow t → on d t X → X
  on_few every n x = x
  on_few (those P few) n f = f (few t n)

-- and so of a small tree
pub few_below : (t : Expr) → nodes t ≤ 512 → FewBelow t
unfolding nodes
few_below (leaf k) n = tt
few_below (unary k t) n = omega (arith, n)
few_below (binary k l r) n = (omega (arith, n), omega (arith, n))
