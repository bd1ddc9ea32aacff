-- Which widths are supported, and that the others are refused. Assumes nothing.
use Rattle.std.specs.Prelude.{◌≡◌, refl, Bool, true, false, List, ℕ, ◌≤◌, ◌<◌, get_or}
use Rattle.std.proofs.Math.Path.{sym}
use Rattle.std.proofs.Common.{◌∙◌, ap, ap₂, arith}
use Rattle.std.proofs.Math.Bool.{◌&&◌}
use Rattle.std.proofs.Math.Dec.{leb}
use borrow.Author.Tests.{le-leb, lt-leb, leb-true}
use Rattle.arith.specs.ChoiceLaws.{both_true}
use Rattle.expr.specs.Refusals.{carrying}
use Rattle.expr.specs.Outcome.{Outcome, refused, accepted, ◌and_then◌}
use Rattle.expr.specs.Expr.{Expr, leaf, unary, binary}
use Rattle.expr.specs.declared.kind.Leaf.TheVariants.{Constant, Variable}
use Rattle.expr.specs.Answers.{outcome}
use Rattle.width.specs.Width.{supported, ranged, unary_width, binary_width, checked_width_of}
use Rattle.width.specs.declared.widths.Widths.{Widths}
use Rattle.width.specs.Promises.{WidthsOf, Summable}

module _ (w : ℕ) where
  pub in_range : 1 ≤ w → w < 65 → true ≡ supported w
  unfolding supported
  in_range a b = sym (ap₂ ◌&&◌ (le-leb 1 w a) (le-leb w 64 (omega arith)))

  pub too_narrow : w < 1 → false ≡ supported w
  unfolding supported
  too_narrow a = sym (ap (λ (b : Bool). b && leb w 64) (lt-leb 1 w a))

  pub too_wide : 1 ≤ w → 65 ≤ w → false ≡ supported w
  unfolding supported
  too_wide a b = sym (ap₂ ◌&&◌ (le-leb 1 w a) (lt-leb w 64 (omega arith)))

  -- and no other
  pub supported_is : supported w ≡ true → (1 ≤ w) × (w ≤ 64)
  unfolding supported
  supported_is e = let p = both_true (leb 1 w) (leb w 64) e in (leb-true 1 w p.0, leb-true w 64 p.1)

  pub ranged_yes : supported w ≡ true → ranged w ≡ accepted w
  unfolding ranged
  ranged_yes e = rw e

  pub ranged_no : supported w ≡ false → ranged w ≡ refused (carrying 10 w 0)
  unfolding ranged
  ranged_no e = rw e

ranged_at_most : (v w : ℕ) → ranged v ≡ accepted w → w ≤ 64
ranged_at_most v w e = go (supported v) refl
  where
    go : (b : Bool) → supported v ≡ b → w ≤ 64
    go true f = let z : ◌≡◌ {A = Outcome ℕ} (accepted v) (accepted w) = sym (ranged_yes v f) ∙ e in let s : v ≡ w = cc in omega (arith, (supported_is v f).1)
    go false f = let z : ◌≡◌ {A = Outcome ℕ} (refused (carrying 10 v 0)) (accepted w) = sym (ranged_no v f) ∙ e in absurd (let y : ◌≡◌ {A = ℕ} 0 1 = cc in omega arith)

then_at_most : (o : Outcome ℕ) (w : ℕ) → (o and_then ranged) ≡ accepted w → w ≤ 64
then_at_most (refused r) w e = absurd (let y : ◌≡◌ {A = ℕ} 0 1 = cc in omega arith)
then_at_most (accepted v) w e = ranged_at_most v w e

-- a width that a tree has was in range
module _ (widths : List ℕ) (d : ℕ) where
  tree_in_range : (t : Expr) (w : ℕ) → checked_width_of widths d t ≡ accepted w → w ≤ 64
  unfolding checked_width_of
  tree_in_range (leaf (Constant c)) w e = ranged_at_most d w e
  tree_in_range (leaf (Variable i)) w e = ranged_at_most (get_or widths i d) w e
  tree_in_range (unary k t) w e = then_at_most (unary_width k (checked_width_of widths d t)) w e
  tree_in_range (binary k l r) w e = then_at_most (binary_width k (checked_width_of widths d l) (checked_width_of widths d r)) w e

  pub width_summable : (found : Widths) (t : Expr) → WidthsOf widths d found t → Summable found.width
  width_summable found t e = record { at_most = λ w f. tree_in_range t w (sym e.width_is ∙ ap outcome f) }
