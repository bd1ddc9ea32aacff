-- What the calls answer of a tree that was read. Assumes nothing.
use mathlib.Core.Path.{◌≡◌, refl, sym, ap, ◌∙◌}
use mathlib.Core.Bool.{Bool, true, false}
use mathlib.Core.List.{List}
use Prim.Native.Nat.{ℕ}
use Rattle.std.specs.Option.{ok_or}
use Rattle.std.specs.Prelude.{Result, Option, Some, None, if◌then◌else◌}
use Rattle.expr.specs.declared.refusal.Reason.{Reason}
use Rattle.expr.specs.declared.refusal.Refusal.{Refusal}
use Rattle.expr.specs.declared.refusal.Refusal.TheVariants.{NoWord}
use Rattle.expr.specs.Refusals.{refusal}
use Rattle.expr.specs.Answers.{outcome}
use Rattle.expr.specs.Outcome.{Outcome, refused, accepted, mapped, ◌and_then◌}
use Rattle.expr.specs.Expr.{Expr, nodes}
use Rattle.expr.specs.Parse.{parse}
use Rattle.width.specs.Width.{is_uniform_width}
use Rattle.width.specs.Checked.{width_of_call}
use Rattle.width.specs.CheckedLaws.{width_refused, checked_parse}
use Rattle.value.specs.Value.{value, is_lent, uniform, one_width_of, value_at}
use Rattle.value.specs.Promises.{value_if_lent}

module _ (ws : List ℕ) (w : ℕ) (widths : List ℕ) where
  abbrev asked : Outcome Expr → Outcome Expr
  asked o = o and_then uniform widths w

  pub width_no : (r : Reason) → refused r ≡ width_of_call w → refused r ≡ one_width_of ws w widths
  unfolding one_width_of
  width_no r e = ap asked (width_refused w r e ws)

  module _ (b : ℕ) (e : accepted b ≡ width_of_call w) where
    pub words_no : (r : Reason) → refused r ≡ parse ws → refused r ≡ one_width_of ws w widths
    unfolding one_width_of
    words_no r f = ap asked (f ∙ checked_parse w b e ws)

    module _ (t : Expr) (f : accepted t ≡ parse ws) (u : Bool) (g : u ≡ is_uniform_width widths w t) where
      decided : uniform widths w t ≡ one_width_of ws w widths
      unfolding one_width_of
      decided = ap asked (f ∙ checked_parse w b e ws)

      pub not_uniform : u ≡ false → refused (refusal 8) ≡ one_width_of ws w widths
      not_uniform h = (let s : refused (refusal 8) ≡ uniform widths w t = rw (sym g ∙ h) in s) ∙ decided

      pub read_uniform : u ≡ true → accepted t ≡ one_width_of ws w widths
      read_uniform h = (let s : accepted t ≡ uniform widths w t = rw (sym g ∙ h) in s) ∙ decided

-- a tree of one width that was read
module _ (ws : List ℕ) (w : ℕ) (widths : List ℕ) (t : Expr) (e : accepted t ≡ one_width_of ws w widths) where
  pub nodes_counted : (n : ℕ) → n ≡ nodes t → accepted n ≡ mapped nodes (one_width_of ws w widths)
  nodes_counted n f = ap accepted f ∙ ap (mapped nodes) e

  -- the value that the walk has found, or none
  pub answered : (b : ℕ) → b ≡ w → (σ : List ℕ) (o : Option ℕ) → o ≡ value_if_lent b σ t → (y : Result ℕ Refusal) → y ≡ ok_or o NoWord
      → outcome y ≡ (one_width_of ws w widths and_then value_at w σ)
  unfolding value_if_lent value_at
  answered b i σ o f y g =
      ap outcome (g ∙ ap (λ (p : Option ℕ). ok_or p NoWord) (f ∙ ap (λ (n : ℕ). value_if_lent n σ t) i))
      ∙ go (is_lent σ t)
      ∙ ap (λ (p : Outcome Expr). p and_then value_at w σ) e
    where
      go : (l : Bool) → outcome (ok_or (if l then Some (value w σ t) else None) NoWord) ≡ (if l then accepted (value w σ t) else refused (refusal 15))
      go true = refl
      go false = refl
