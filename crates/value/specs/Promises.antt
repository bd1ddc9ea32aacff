-- What this crate's private functions promise one another; no public promise names it. Definitions only.
use Rattle.std.specs.Prelude.{Option, Some, None, List, ℕ, if◌then◌else◌}
use Rattle.expr.specs.Expr.{Expr}
use Rattle.value.specs.Value.{value, is_lent}

-- what the walk finds of a tree: its value, none where a variable has no lent word
unfoldable pub value_if_lent : ℕ → List ℕ → Expr → Option ℕ
value_if_lent w σ t = if is_lent σ t then Some (value w σ t) else None
