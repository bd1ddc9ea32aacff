-- A width that a call is given, and words that are checked at it. Assumes nothing.
use mathlib.Core.Path.{◌≡◌, sym, ap, ◌∙◌}
use mathlib.Core.Bool.{Bool, true, false}
use mathlib.Core.List.{List}
use Prim.Native.Nat.{ℕ, ◌≤◌}
use Rattle.expr.specs.declared.refusal.Reason.{Reason}
use Rattle.expr.specs.Refusals.{refusal}
use Rattle.expr.specs.Outcome.{Outcome, refused, accepted, mapped}
use Rattle.expr.specs.Expr.{nodes}
use Rattle.expr.specs.Parse.{parse}
use Rattle.width.specs.Width.{supported}
use Rattle.width.specs.WidthLaws.{supported_is}
use Rattle.width.specs.Checked.{checked, width_of_call}
use Rattle.width.specs.CheckedLaws.{checked_parse, width_refused}

module _ (w : ℕ) (b : Bool) (e : b ≡ supported w) where
  pub out_of_range : b ≡ false → refused (refusal 1) ≡ width_of_call w
  unfolding width_of_call
  out_of_range f = rw (sym e ∙ f)

  pub in_the_range : b ≡ true → accepted w ≡ width_of_call w
  unfolding width_of_call
  in_the_range f = rw (sym e ∙ f)

  pub at_least_1 : b ≡ true → 1 ≤ w
  at_least_1 f = (supported_is w (sym e ∙ f)).0

  pub at_most_64 : b ≡ true → w ≤ 64
  at_most_64 f = (supported_is w (sym e ∙ f)).1

pub ruleset ranging = (out_of_range, in_the_range, at_least_1, at_most_64)

module _ (w : ℕ) (ws : List ℕ) where
  pub not_checked : (r : Reason) → refused r ≡ width_of_call w → refused r ≡ mapped nodes (checked w ws)
  not_checked r e = ap (mapped nodes) (width_refused w r e ws)

  pub words_checked : (b : ℕ) → accepted b ≡ width_of_call w → (x : Outcome ℕ) → x ≡ mapped nodes (parse ws) → x ≡ mapped nodes (checked w ws)
  words_checked b e x f = f ∙ ap (mapped nodes) (checked_parse w b e ws)
