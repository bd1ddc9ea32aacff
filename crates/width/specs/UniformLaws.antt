-- A tree that is uniform at a width from 1 to 64 has that width, and its widths are consistent. Assumes nothing.
use Rattle.std.specs.Prelude.{◌≡◌, refl, true, ◌&&◌, List, ℕ, get_or}
use Rattle.std.proofs.Math.Path.{ap}
use Rattle.std.proofs.Common.{◌∙◌, arith, eqb-true, eq-eqb}
use Rattle.arith.specs.ChoiceLaws.{both_true}
use Rattle.expr.specs.Outcome.{Outcome, accepted, ◌and_then◌}
use Rattle.expr.specs.OutcomeLaws.{then_accepted}
use Rattle.expr.specs.Expr.{Expr, leaf, unary, binary}
use Rattle.expr.specs.declared.kind.Leaf.TheVariants.{Constant, Variable}
use Rattle.expr.specs.declared.kind.Unary.{Unary}
use Rattle.expr.specs.declared.kind.Unary.TheVariants.{Not, Neg, Shr, ZExt, SExt, Trunc}
use Rattle.expr.specs.declared.kind.Binary.{Binary}
use Rattle.expr.specs.declared.kind.Binary.TheVariants.{Add, Mul, And, Or, Xor, Concat}
use Rattle.width.specs.WidthLaws.{ranged_yes}
use Rattle.width.specs.Width.{supported, ranged, valid, unary_width, binary_width, checked_width_of, unary_rule, agree, binary_rule, validate_widths, unary_keeps, binary_keeps, is_uniform_width}

-- a kind that keeps the width has its first child's and asks only that both are the same
unary_kept : (k : Unary) (c : Outcome ℕ) → unary_keeps k ≡ true → (unary_width k c ≡ c) × (unary_rule k c ≡ valid)
unary_kept Not c e = (refl, refl)
unary_kept Neg c e = (refl, refl)
unary_kept (Shr n) c e = (refl, refl)
unary_kept (ZExt w) c e = absurd (let z : ◌≡◌ {A = ℕ} 0 1 = cc in omega arith)
unary_kept (SExt w) c e = absurd (let z : ◌≡◌ {A = ℕ} 0 1 = cc in omega arith)
unary_kept (Trunc w) c e = absurd (let z : ◌≡◌ {A = ℕ} 0 1 = cc in omega arith)

binary_kept : (k : Binary) (l r : Outcome ℕ) → binary_keeps k ≡ true → (binary_width k l r ≡ l) × (binary_rule k l r ≡ agree l r)
binary_kept Add l r e = (refl, refl)
binary_kept Mul l r e = (refl, refl)
binary_kept And l r e = (refl, refl)
binary_kept Or l r e = (refl, refl)
binary_kept Xor l r e = (refl, refl)
binary_kept Concat l r e = absurd (let z : ◌≡◌ {A = ℕ} 0 1 = cc in omega arith)

module _ (widths : List ℕ) (w : ℕ) (s : supported w ≡ true) where
  pub uniform_width : (t : Expr) → is_uniform_width widths w t ≡ true → checked_width_of widths w t ≡ accepted w
  unfolding is_uniform_width checked_width_of
  uniform_width (leaf (Constant c)) u = ranged_yes w s
  uniform_width (leaf (Variable i)) u = ap ranged (eqb-true (get_or widths i w) w u) ∙ ranged_yes w s
  uniform_width (unary k t) u =
      let p = both_true (unary_keeps k) (is_uniform_width widths w t) u in
      ap (λ (o : Outcome ℕ). o and_then ranged) ((unary_kept k (checked_width_of widths w t) p.0).0 ∙ uniform_width t p.1) ∙ ranged_yes w s
  uniform_width (binary k l r) u =
      let p = both_true (binary_keeps k) (is_uniform_width widths w l && is_uniform_width widths w r) u in
      let q = both_true (is_uniform_width widths w l) (is_uniform_width widths w r) p.1 in
      ap (λ (o : Outcome ℕ). o and_then ranged) ((binary_kept k (checked_width_of widths w l) (checked_width_of widths w r) p.0).0 ∙ uniform_width l q.0) ∙ ranged_yes w s

  pub uniform_valid : (t : Expr) → is_uniform_width widths w t ≡ true → validate_widths widths w t ≡ valid
  unfolding is_uniform_width validate_widths
  uniform_valid (leaf k) u = then_accepted (uniform_width (leaf k) u) _
  uniform_valid (unary k t) u =
      let p = both_true (unary_keeps k) (is_uniform_width widths w t) u in
      then_accepted (uniform_width (unary k t) u) _ ∙ then_accepted (uniform_valid t p.1) _ ∙ (unary_kept k (checked_width_of widths w t) p.0).1
  uniform_valid (binary k l r) u =
      let p = both_true (binary_keeps k) (is_uniform_width widths w l && is_uniform_width widths w r) u in
      let q = both_true (is_uniform_width widths w l) (is_uniform_width widths w r) p.1 in
      let same : agree (accepted w) (accepted w) ≡ valid = rw (eq-eqb w w refl) in
      then_accepted (uniform_width (binary k l r) u) _ ∙ then_accepted (uniform_valid l q.0) _ ∙ then_accepted (uniform_valid r q.1) _
      ∙ (binary_kept k (checked_width_of widths w l) (checked_width_of widths w r) p.0).1
      ∙ (λ i. agree (uniform_width l q.0 i) (uniform_width r q.1 i)) ∙ same
