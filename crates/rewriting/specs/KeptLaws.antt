-- What a rewrite keeps: the value, a uniform width, operands in range, a setting that is long enough; and no variable comes in. Assumes nothing.
use Rattle.std.specs.Prelude.{◌≡◌, refl, Bool, true, ◌&&◌, List, ℕ, ◌≤◌, T}
use Rattle.std.proofs.Common.{sym, ap, subst, ◌∙◌, le_refl, le_trans, arith}
use Rattle.std.proofs.Math.Bool.{and-eq-true_iff}
use Rattle.std.proofs.Math.Option.{some}
use Rattle.std.specs.Float.Ieee.Bits.{is_true}
use Rattle.expr.specs.Expr.{Expr, unary, binary, unary_number, unary_operand, nodes, depth}
use Rattle.expr.specs.declared.kind.Unary.{Unary}
use Rattle.expr.specs.declared.kind.Unary.TheVariants.{Not}
use Rattle.expr.specs.declared.kind.Binary.{Binary}
use Rattle.expr.specs.declared.kind.Binary.TheVariants.{And, Or}
use Rattle.expr.specs.Parse.{operand_ok, operands_ok, Valid}
use Rattle.value.specs.Value.{unary_value, binary_value, value, is_lent}
use Rattle.width.specs.Width.{unary_keeps, binary_keeps, is_uniform_width}
use Rattle.rewriting.specs.AtomSimplifier.{constant, not, local_rewrite, first_rewrite}
use Rattle.rewriting.specs.Measures.{occurrences}
use Rattle.rewriting.specs.ValueKeptLaws.{local_keeps}
use Rattle.rewriting.specs.ShapeLaws.{◌⊑◌, to_constant, as_it_is, child, left, right, both, swapped, in_turn, Dual, and_or_lem, or_and, over, Change, less, turned_over, Adds, cut_counts, local_change}
use Rattle.rewriting.specs.SiteLaws.{Rises, at_first}
use Rattle.rewriting.specs.MeasureLaws.{first_lowers}

-- ---- the value

value_rises : (w : ℕ) (σ : List ℕ) → Rises w (λ (t u : Expr). value w σ u ≡ value w σ t)
unfolding value
value_rises w σ = record {
  here = local_keeps w σ;
  above = λ k t u h. ap (unary_value w k) h;
  left = λ k l r u h. ap (λ (n : ℕ). binary_value w k n (value w σ r)) h;
  right = λ k l r u h. ap (binary_value w k (value w σ l)) h;
}

pub first_keeps : (w : ℕ) (σ : List ℕ) (t u : Expr) → first_rewrite w t ≡ some u → value w σ u ≡ value w σ t
first_keeps w σ = at_first w (value_rises w σ)

-- ---- the variables

occurrences_add : (i : ℕ) → Adds (occurrences i)
unfolding occurrences
occurrences_add i = record { in_constant = λ c t. omega arith; in_unary = λ k t. le_refl (occurrences i t); in_kind = λ k. 0; in_binary = λ k l r. omega arith }

pub cut_variables : (i : ℕ) {t u : Expr} → u ⊑ t → occurrences i u ≤ occurrences i t
cut_variables i h = cut_counts (occurrences i) (occurrences_add i) h

change_variables : (i : ℕ) {t u : Expr} → Change t u → occurrences i u ≤ occurrences i t
unfolding occurrences
change_variables i (less h) = cut_variables i h.cut
change_variables i (turned_over (over d h)) = omega arith

pub local_variables : (w : ℕ) (t u : Expr) → local_rewrite w t ≡ some u → (i : ℕ) → occurrences i u ≤ occurrences i t
local_variables w t u e i = change_variables i (local_change w t u e)

variables_rise : (w : ℕ) → Rises w (λ (t u : Expr). (i : ℕ) → occurrences i u ≤ occurrences i t)
unfolding occurrences
variables_rise w = record {
  here = local_variables w;
  above = λ k t u h. h;
  left = λ k l r u h i. omega (arith, h i);
  right = λ k l r u h i. omega (arith, h i);
}

pub first_variables : (w : ℕ) (t u : Expr) → first_rewrite w t ≡ some u → (i : ℕ) → occurrences i u ≤ occurrences i t
first_variables w = at_first w (variables_rise w)

-- ---- what holds of every node

-- f holds of a tree exactly if it holds of every leaf and each kind passes its test, `one` or `two`; constants, Not, And and Or always do
record Everywhere (f : Expr → Bool) (one : Unary → Bool) (two : Binary → Bool) : Type 0 where
  in_constant : (c : ℕ) → f (constant c) ≡ true
  in_unary : (k : Unary) (t : Expr) → f (unary k t) ≡ (one k && f t)
  in_binary : (k : Binary) (l r : Expr) → f (binary k l r) ≡ (two k && (f l && f r))
  not_passes : one Not ≡ true
  and_passes : two And ≡ true
  or_passes : two Or ≡ true

module _ {f : Expr → Bool} {one : Unary → Bool} {two : Binary → Bool} (p : Everywhere f one two) where
  -- f of a node, and of its kind and children
  under_one : (k : Unary) (t : Expr) → f (unary k t) ≡ true → (one k ≡ true) × (f t ≡ true)
  under_one k t h = (and-eq-true_iff (one k) (f t)).0 (sym (p.in_unary k t) ∙ h)

  over_one : (k : Unary) (t : Expr) → one k ≡ true → f t ≡ true → f (unary k t) ≡ true
  over_one k t h g = p.in_unary k t ∙ (and-eq-true_iff (one k) (f t)).1 (h, g)

  under_two : (k : Binary) (l r : Expr) → f (binary k l r) ≡ true → (two k ≡ true) × (f l ≡ true) × (f r ≡ true)
  under_two k l r h =
      let a = (and-eq-true_iff (two k) (f l && f r)).0 (sym (p.in_binary k l r) ∙ h) in
      let b = (and-eq-true_iff (f l) (f r)).0 a.1 in
      (a.0, b.0, b.1)

  over_two : (k : Binary) (l r : Expr) → two k ≡ true → f l ≡ true → f r ≡ true → f (binary k l r) ≡ true
  over_two k l r h a b = p.in_binary k l r ∙ (and-eq-true_iff (two k) (f l && f r)).1 (h, (and-eq-true_iff (f l) (f r)).1 (a, b))

  cut_everywhere : {t u : Expr} → u ⊑ t → f t ≡ true → f u ≡ true
  cut_everywhere (to_constant {c}) h = p.in_constant c
  cut_everywhere as_it_is h = h
  cut_everywhere (child {k} {t}) h = (under_one k t h).1
  cut_everywhere (left {k} {l} {r}) h = (under_two k l r h).1
  cut_everywhere (right {k} {l} {r}) h = (under_two k l r h).2
  cut_everywhere (both {k} {u} {v} {l} {r} a b) h =
      let q = under_two k l r h in
      over_two k u v q.0 (cut_everywhere a q.1) (cut_everywhere b q.2)
  cut_everywhere (swapped {k} {l} {r}) h = let q = under_two k l r h in over_two k r l q.0 q.2 q.1
  cut_everywhere (in_turn a b) h = cut_everywhere a (cut_everywhere b h)

  dual_passes : {k j : Binary} → Dual k j → two j ≡ true
  dual_passes and_or_lem = p.or_passes
  dual_passes or_and = p.and_passes

  change_everywhere : {t u : Expr} → Change t u → f t ≡ true → f u ≡ true
  change_everywhere (less c) h = cut_everywhere c.cut h
  change_everywhere (turned_over (over {k} {j} {a} {b} d n)) h =
      let q = under_two k a b (under_one Not (binary k a b) h).1 in
      over_two j (not a) (not b) (dual_passes d) (over_one Not a p.not_passes q.1) (over_one Not b p.not_passes q.2)

  local_everywhere : (w : ℕ) (t u : Expr) → local_rewrite w t ≡ some u → f t ≡ true → f u ≡ true
  local_everywhere w t u e = change_everywhere (local_change w t u e)

  everywhere_rises : (w : ℕ) → Rises w (λ (t u : Expr). f t ≡ true → f u ≡ true)
  everywhere_rises w = record {
    here = local_everywhere w;
    above = λ k t u g h. let q = under_one k t h in over_one k u q.0 (g q.1);
    left = λ k l r u g h. let q = under_two k l r h in over_two k u r q.0 (g q.1) q.2;
    right = λ k l r u g h. let q = under_two k l r h in over_two k l u q.0 q.1 (g q.2);
  }

  first_everywhere : (w : ℕ) (t u : Expr) → first_rewrite w t ≡ some u → f t ≡ true → f u ≡ true
  first_everywhere w = at_first w (everywhere_rises w)

-- ---- a uniform width, operands in range, and a setting with a word for each variable

uniform_everywhere : (widths : List ℕ) (v : ℕ) → Everywhere (is_uniform_width widths v) unary_keeps binary_keeps
unfolding is_uniform_width
uniform_everywhere widths v = record { in_constant = λ c. refl; in_unary = λ k t. refl; in_binary = λ k l r. refl; not_passes = refl; and_passes = refl; or_passes = refl }

pub cut_uniform : (widths : List ℕ) (v : ℕ) {t u : Expr} → u ⊑ t → is_uniform_width widths v t ≡ true → is_uniform_width widths v u ≡ true
cut_uniform widths v = cut_everywhere (uniform_everywhere widths v)

operands_everywhere : Everywhere operands_ok (λ k. operand_ok (unary_number k) (unary_operand k)) (λ k. true)
unfolding operands_ok operand_ok
operands_everywhere = record { in_constant = λ c. refl; in_unary = λ k t. refl; in_binary = λ k l r. refl; not_passes = refl; and_passes = refl; or_passes = refl }

pub cut_operands : {t u : Expr} → u ⊑ t → operands_ok t ≡ true → operands_ok u ≡ true
cut_operands = cut_everywhere operands_everywhere

lent_everywhere : (σ : List ℕ) → Everywhere (is_lent σ) (λ k. true) (λ k. true)
unfolding is_lent
lent_everywhere σ = record { in_constant = λ c. refl; in_unary = λ k t. refl; in_binary = λ k l r. refl; not_passes = refl; and_passes = refl; or_passes = refl }

pub cut_lent : (σ : List ℕ) {t u : Expr} → u ⊑ t → is_lent σ t ≡ true → is_lent σ u ≡ true
cut_lent σ = cut_everywhere (lent_everywhere σ)

-- the limits of document 01, of which a rewrite can break the number of nodes alone
pub valid_kept : {t u : Expr} → depth u ≤ depth t → (operands_ok t ≡ true → operands_ok u ≡ true) → Valid t → nodes u ≤ 512 → Valid u
valid_kept {t} {u} d o h n = record {
  count = n;
  levels = le_trans d h.levels;
  operands = subst T (sym (o (is_true (operands_ok t) h.operands))) tt;
}

module _ (w : ℕ) (t u : Expr) where
  module _ (e : local_rewrite w t ≡ some u) where
    pub local_uniform : (widths : List ℕ) (v : ℕ) → is_uniform_width widths v t ≡ true → is_uniform_width widths v u ≡ true
    local_uniform widths v = local_everywhere (uniform_everywhere widths v) w t u e

    pub local_operands : operands_ok t ≡ true → operands_ok u ≡ true
    local_operands = local_everywhere operands_everywhere w t u e

    pub local_lent : (σ : List ℕ) → is_lent σ t ≡ true → is_lent σ u ≡ true
    local_lent σ = local_everywhere (lent_everywhere σ) w t u e

  module _ (e : first_rewrite w t ≡ some u) where
    pub first_uniform : (widths : List ℕ) (v : ℕ) → is_uniform_width widths v t ≡ true → is_uniform_width widths v u ≡ true
    first_uniform widths v = first_everywhere (uniform_everywhere widths v) w t u e

    pub first_operands : operands_ok t ≡ true → operands_ok u ≡ true
    first_operands = first_everywhere operands_everywhere w t u e

    pub first_lent : (σ : List ℕ) → is_lent σ t ≡ true → is_lent σ u ≡ true
    first_lent σ = first_everywhere (lent_everywhere σ) w t u e

    pub first_valid : Valid t → nodes u ≤ 512 → Valid u
    first_valid = valid_kept (first_lowers w t u e).no_deeper first_operands
