-- What the fold asks of its operands, by the trees that the calls hand out. Assumes nothing.
use mathlib.Core.Path.{◌≡◌, refl, sym, ap, ◌∙◌}
use mathlib.Core.Bool.{Bool, true, false, ◌&&◌, ◌||◌}
use mathlib.Core.Option.{Option, none, some}
use Prim.Native.Nat.{ℕ}
use Rattle.expr.specs.declared.kind.Unary.TheVariants.{Not, Neg, Shr, ZExt, SExt, Trunc}
use Rattle.expr.specs.declared.kind.Binary.{Binary}
use Rattle.expr.specs.Expr.{Expr, leaf, unary, binary}
use Rattle.expr.specs.Trees.{same_kind, operand_of, operands_of}
use Rattle.expr.specs.Optional.{only_if}
use Rattle.rewriting.specs.AtomSimplifier.{same_part, is_not_of, contains_operand}

module _ (w : ℕ) where
  -- ---- `is_not_of`

  abbrev operand_test : Option Expr → Expr → Bool
  operand_test none u = false
  operand_test (some s) u = same_part w s u

  not_test : (t u : Expr) → is_not_of w t u ≡ operand_test (operand_of Not t) u
  unfolding is_not_of operand_of
  not_test (leaf k) u = refl
  not_test (unary Not t) u = refl
  not_test (unary Neg t) u = refl
  not_test (unary (Shr k) t) u = refl
  not_test (unary (ZExt n) t) u = refl
  not_test (unary (SExt n) t) u = refl
  not_test (unary (Trunc n) t) u = refl
  not_test (binary k l r) u = refl

  pub not_of : (t u s : Expr) → some s ≡ operand_of Not t → (r : Bool) → r ≡ same_part w s u → r ≡ is_not_of w t u
  not_of t u s e r h = h ∙ ap (λ (o : Option Expr). operand_test o u) e ∙ sym (not_test t u)

  pub no_not : (t u : Expr) → none ≡ operand_of Not t → false ≡ is_not_of w t u
  no_not t u e = ap (λ (o : Option Expr). operand_test o u) e ∙ sym (not_test t u)

  -- ---- `contains_operand`

  abbrev operands_test : Option (Expr × Expr) → Expr → Bool
  operands_test none u = false
  operands_test (some p) u = same_part w p.0 u || same_part w p.1 u

  either_test : (t : Expr) (k : Binary) (u : Expr) → contains_operand w t k u ≡ operands_test (operands_of k t) u
  unfolding contains_operand operands_of
  either_test (leaf j) k u = refl
  either_test (unary j t) k u = refl
  either_test (binary j l r) k u = go (same_kind j k)
    where
      go : (b : Bool) → (b && (same_part w l u || same_part w r u)) ≡ operands_test (only_if b (l, r)) u
      go true = refl
      go false = refl

  module _ (t : Expr) (k : Binary) (u : Expr) where
    pub no_operand : none ≡ operands_of k t → false ≡ contains_operand w t k u
    no_operand e = ap (λ (o : Option (Expr × Expr)). operands_test o u) e ∙ sym (either_test t k u)

    module _ (l r : Expr) (e : some (l, r) ≡ operands_of k t) (b : Bool) (h : b ≡ same_part w l u) where
      tested : (b || same_part w r u) ≡ contains_operand w t k u
      tested =
          ap (λ (c : Bool). c || same_part w r u) h
          ∙ ap (λ (o : Option (Expr × Expr)). operands_test o u) e
          ∙ sym (either_test t k u)

      pub left_operand : b ≡ true → b ≡ contains_operand w t k u
      left_operand f = f ∙ ap (λ (c : Bool). c || same_part w r u) (sym f) ∙ tested

      pub right_operand : b ≡ false → (c : Bool) → c ≡ same_part w r u → c ≡ contains_operand w t k u
      right_operand f c g = g ∙ ap (λ (d : Bool). d || same_part w r u) (sym f) ∙ tested

pub ruleset not_tests = (not_of, no_not)

pub ruleset operand_tests = (no_operand, left_operand, right_operand)
