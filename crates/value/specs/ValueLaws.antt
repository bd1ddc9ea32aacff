-- A value is a number of w bits; what a tree of one width is. Assumes nothing.
use Rattle.std.specs.Prelude.{◌≡◌, Bool, true, false, List, ℕ, ◌-◌, ◌/◌, ◌^◌, ◌≤◌, ◌<◌, ltb, get_or, if◌then◌else◌}
use Rattle.std.proofs.Common.{sym, ◌∙◌, lt_of_le_of_lt, arith, pow_pos}
use Rattle.std.proofs.Math.Path.{ap, subst}
use Rattle.std.proofs.Math.Nat.{mod-lt}
use Rattle.std.proofs.Math.Pow.{ones_sub-lt}
use Rattle.std.proofs.lemmas.Nat.{shr_le, or_lt, xor_lt}
use Rattle.std.specs.Int.Bits.{and_lt}
use Rattle.expr.specs.Refusals.{refusal}
use Rattle.expr.specs.Outcome.{accepted, ◌and_then◌}
use Rattle.expr.specs.OutcomeLaws.{same_answer, if_came, then_accepted, then_came}
use Rattle.expr.specs.Parse.{parse}
use Rattle.width.specs.Width.{is_uniform_width}
use Rattle.width.specs.WidthLaws.{in_range, supported_is}
use Rattle.width.specs.Checked.{checked}
use Rattle.width.specs.CheckedLaws.{checked_is}
use Rattle.expr.specs.Expr.{Expr, leaf, unary, binary}
use Rattle.expr.specs.declared.kind.Leaf.TheVariants.{Constant, Variable}
use Rattle.expr.specs.declared.kind.Unary.{Unary}
use Rattle.expr.specs.declared.kind.Unary.TheVariants.{Not, Neg, Shr, ZExt, SExt, Trunc}
use Rattle.expr.specs.declared.kind.Binary.{Binary}
use Rattle.expr.specs.declared.kind.Binary.TheVariants.{Add, Mul, And, Or, Xor, Concat}
use Rattle.value.specs.Value.{unary_value, binary_value, value, uniform, one_width_of}

module _ (w : ℕ) where
  shift_lt : (b : Bool) (x k : ℕ) → x < 2 ^ w → (if b then x / 2 ^ k else 0) < 2 ^ w
  shift_lt true x k h = lt_of_le_of_lt (shr_le x k) h
  shift_lt false x k h = pow_pos w

  pub unary_lt : (k : Unary) {x : ℕ} → x < 2 ^ w → unary_value w k x < 2 ^ w
  unary_lt Not {x} h = ones_sub-lt w x
  unary_lt Neg {x} h = mod-lt (2 ^ w - x) (pow_pos w)
  unary_lt (Shr k) {x} h = shift_lt (ltb k w) x k h
  unary_lt (ZExt n) h = pow_pos w
  unary_lt (SExt n) h = pow_pos w
  unary_lt (Trunc n) h = pow_pos w

  pub binary_lt : (k : Binary) {x y : ℕ} → x < 2 ^ w → y < 2 ^ w → binary_value w k x y < 2 ^ w
  binary_lt Add p q = mod-lt _ (pow_pos w)
  binary_lt Mul p q = mod-lt _ (pow_pos w)
  binary_lt And {x} {y} p q = and_lt w x y p q
  binary_lt Or {x} {y} p q = or_lt w x y p q
  binary_lt Xor {x} {y} p q = xor_lt w x y p q
  binary_lt Concat p q = pow_pos w

  pub value_lt : (σ : List ℕ) (t : Expr) → value w σ t < 2 ^ w
  unfolding value
  value_lt σ (leaf (Constant c)) = mod-lt c (pow_pos w)
  value_lt σ (leaf (Variable i)) = mod-lt (get_or σ i 0) (pow_pos w)
  value_lt σ (unary k t) = unary_lt k (value_lt σ t)
  value_lt σ (binary k l r) = binary_lt k (value_lt σ l) (value_lt σ r)

-- ---- trees of one width

-- the words are those of a tree that is of one width
pub record OneWidth (ws : List ℕ) (w : ℕ) (widths : List ℕ) (t : Expr) : Type 0 where
  pub parsed : parse ws ≡ accepted t
  pub is_uniform : is_uniform_width widths w t ≡ true
  pub at_least : 1 ≤ w
  pub at_most : w ≤ 64

module _ (ws : List ℕ) (w : ℕ) (widths : List ℕ) (t : Expr) where
  pub one_width_sound : one_width_of ws w widths ≡ accepted t → OneWidth ws w widths t
  unfolding one_width_of
  one_width_sound e =
      let m = then_came (uniform widths w) (checked w ws) e in
      let c = checked_is w ws m.answer m.was in
      let k = if_came (accepted m.answer) (refusal 8) (is_uniform_width widths w m.answer) m.made in
      let i : m.answer ≡ t = same_answer k.1 in
      record {
        parsed = c.1 ∙ ap accepted i;
        is_uniform = subst (λ (v : Expr). is_uniform_width widths w v ≡ true) i k.0;
        at_least = (supported_is w c.0).0;
        at_most = (supported_is w c.0).1;
      }

  pub one_width_complete : OneWidth ws w widths t → one_width_of ws w widths ≡ accepted t
  unfolding one_width_of checked
  one_width_complete o =
      (let s : one_width_of ws w widths ≡ (parse ws and_then uniform widths w) = rw (sym (in_range w o.at_least (omega (arith, o.at_most)))) in s)
      ∙ then_accepted o.parsed (uniform widths w)
      ∙ (let s : uniform widths w t ≡ accepted t = rw o.is_uniform in s)
