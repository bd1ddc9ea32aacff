-- What this crate's private functions promise one another; no public promise names it. Definitions only.
use Rattle.std.specs.Prelude.{◌≡◌, ◌≤◌, List, ℕ, Result, Ok}
use Rattle.expr.specs.declared.refusal.Refusal.{Refusal}
use Rattle.expr.specs.Outcome.{Outcome}
use Rattle.expr.specs.Expr.{Expr}
use Rattle.expr.specs.Answers.{outcome}
use Rattle.width.specs.Width.{checked_width_of, validate_widths}
use Rattle.width.specs.declared.widths.Widths.{Widths}

-- what the walk finds of a tree is its width and whether its widths are consistent
pub record WidthsOf (widths : List ℕ) (default : ℕ) (found : Widths) (t : Expr) : Type 0 where
  pub width_is : outcome found.width ≡ checked_width_of widths default t
  pub valid_is : outcome found.valid ≡ validate_widths widths default t

-- both, as a call answers them
abbrev pub both_of : Widths → Outcome ℕ × Outcome Unit
both_of found = (outcome found.width, outcome found.valid)

-- a width that is not refused has at most 64 bits, so that the sum of two does not wrap
pub record Summable (width : Result ℕ Refusal) : Type 0 where
  pub at_most : (w : ℕ) → width ≡ Ok w → w ≤ 64
