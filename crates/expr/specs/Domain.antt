-- The trees of which a `Fold` says what it finds. Definitions only.
use Rattle.std.specs.Prelude.{◌≤◌}
use Rattle.expr.specs.Expr.{Expr, leaf, unary, binary, nodes}

-- each child has at most 512 nodes
abbrev pub FewBelow : Expr → Type 0
FewBelow (leaf k) = Unit
FewBelow (unary k t) = nodes t ≤ 512
FewBelow (binary k l r) = (nodes l ≤ 512) × (nodes r ≤ 512)

-- all trees, or those with P; any whose children have at most 512 nodes each is one of them
pub data Domain : Type 1 where
  every : Domain
  those : (P : Expr → Type 0) → ((t : Expr) → FewBelow t → P t) → Domain

-- what is said of a tree, if it is one of the domain's
abbrev pub on : Domain → Expr → Type 0 → Type 0
on every t X = X
on (those P few) t X = P t → X
