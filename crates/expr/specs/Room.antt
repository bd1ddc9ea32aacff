-- Room for what is written of a tree. Definitions only.
use Rattle.std.specs.Prelude.{ℕ, ◌*◌, ltb, if◌then◌else◌}
use Rattle.expr.specs.Refusals.{refusal}
use Rattle.expr.specs.Outcome.{Outcome, refused, accepted}
use Rattle.expr.specs.Expr.{Expr, nodes}

-- 9 where so many places are fewer than the tree needs
unfoldable pub room_for : (Expr → ℕ) → ℕ → Expr → Outcome Expr
room_for need room t = if ltb room (need t) then refused (refusal 9) else accepted t

-- 9 where so many words have no room for the tree's
abbrev pub with_words : ℕ → Expr → Outcome Expr
with_words = room_for (λ t. 2 * nodes t)
