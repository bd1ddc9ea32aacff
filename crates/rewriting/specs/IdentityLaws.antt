-- The candidates with tags 1, 4 and 5 have the node's value; those with tags 2 and 3 have it where Or is the operand not under Neg, and its
-- negation elsewhere. The identities are from Hacker's Delight (addition combined with logical operations); `SumLaws` of arith has them for
-- numbers. As in `ValueKeptLaws` a cast or a Concat counts as 0. Assumes nothing.
use Rattle.std.specs.Prelude.{◌≡◌, refl, Bool, true, ◌&&◌, if◌then◌else◌}
use Rattle.std.proofs.Math.Path.{sym, ap, ap₂, subst}
use Rattle.std.proofs.Common.{subst₂, ◌∙◌, add-zero, zero-add, add_assoc}
use Rattle.std.proofs.Math.Bool.{false, not}
use mathlib.Core.List.{List, [], ◌∷◌, ◌++◌}
use Prim.Native.Nat.{ℕ, ◌+◌, ◌*◌, ◌%◌, ◌^◌, ◌<◌}
use native.Mathlib.Omega.{arith}
use Rattle.std.proofs.Math.Dec.{T, eqb→eq}
use Rattle.std.proofs.Math.Facts.{and_yes, or_no}
use Rattle.arith.specs.Bv.{bvadd, bvmul, bvor, bvnot, bvneg}
use Rattle.arith.specs.ChoiceLaws.{if_yes, if_no}
use Rattle.arith.specs.BvLaws.{xor_and}
use Rattle.arith.specs.SumLaws as S
use Rattle.arith.specs.SumLaws.{Diff, diff_plain, diff_add, diff_neg, diff_unreduced, diff_value, or_minus_and, and_minus_or, ornot_minus_not, not_minus_ornot, flat_or_not}
use Rattle.expr.specs.Expr.{Expr, leaf, unary, binary}
use Rattle.expr.specs.declared.kind.Leaf.TheVariants.{Constant, Variable}
use Rattle.expr.specs.declared.kind.Unary.{Unary}
use Rattle.expr.specs.declared.kind.Binary.{Binary}
use Rattle.expr.specs.declared.kind.Binary.TheVariants.{Add}
use Rattle.value.specs.Value.{unary_value, binary_value, value}
use Rattle.value.specs.ValueLaws.{value_lt}
use Rattle.expr.specs.OptionalLaws.{Every, if_case, every_at, every_on}
use Rattle.expr.specs.Trees.{same_kind}
use Rattle.rewriting.specs.AtomIdentityRewrite.{is_neg_kind, match_xor_and_absorb, match_xor_via_or_minus_and, match_and_via_not_or_minus_not, Addend, push_addend, flatten_addends, any_negated, plus_and_minus, is_masked, match_and_via_not_or_plus_a_plus_one, match_xor_via_ornot_flat, or_not_under_neg}
use Rattle.rewriting.specs.TestLaws.{same_kind→eq}
use Rattle.rewriting.specs.MatchLaws.{neg_kind→eq, Absorbs, absorbs, found_1, Minus, or_and, or_not, Differs, or_first, or_second, found_2, found_3, Insert, here, there, product, PlusOne, plus_one, found_4, OrNotFlat, or_not_flat, found_5}

module _ (w : ℕ) (σ : List ℕ) where
  -- ---- tag 1

  pub absorbs_value : {t u : Expr} → Absorbs t u → value w σ u ≡ value w σ t
  unfolding value
  absorbs_value (absorbs {x} {y} h) = sym (xor_and w (value_lt w σ x) (value_lt w σ y)) ∙ h.same_value w σ

  pub tag_1 : (t : Expr) → Every (λ u. value w σ u ≡ value w σ t) (match_xor_and_absorb t)
  tag_1 t = every_on (Absorbs t) _ (match_xor_and_absorb t) (λ u. absorbs_value) (found_1 t)

  -- ---- tags 2 and 3

  minus_value : {o n u : Expr} → Minus o n u → bvadd w (value w σ o) (bvneg w (value w σ n)) ≡ value w σ u
  unfolding value
  minus_value (or_and {a} {b} h) =
      ap (λ (n : ℕ). bvadd w (bvor (value w σ a) (value w σ b)) (bvneg w n)) (sym (h.same_value w σ)) ∙ or_minus_and w (value_lt w σ a) (value_lt w σ b)
  minus_value (or_not {a = a} {x = x} h) =
      ap (λ (n : ℕ). bvadd w n (bvneg w (bvnot w (value w σ a)))) (sym (h.same_value w σ)) ∙ ornot_minus_not w (value_lt w σ a) (value_lt w σ x)

  turned_value : {o n u : Expr} → Minus o n u → bvadd w (value w σ n) (bvneg w (value w σ o)) ≡ bvneg w (value w σ u)
  unfolding value
  turned_value (or_and {a} {b} h) =
      ap (λ (n : ℕ). bvadd w n (bvneg w (bvor (value w σ a) (value w σ b)))) (sym (h.same_value w σ)) ∙ and_minus_or w (value_lt w σ a) (value_lt w σ b)
  turned_value (or_not {a = a} {x = x} h) =
      ap (λ (n : ℕ). bvadd w (bvnot w (value w σ a)) (bvneg w n)) (sym (h.same_value w σ)) ∙ not_minus_ornot w (value_lt w σ a) (value_lt w σ x)

  neg_neg : {x : ℕ} → x < 2 ^ w → bvneg w (bvneg w x) ≡ x
  neg_neg h = diff_value w (diff_neg w (diff_neg w (diff_plain w h))) h 0 0 (omega arith)

  -- the value of the candidate u of t, by its sign
  pub record Signed (t u : Expr) : Type 0 where
    pub kept : T (or_not_under_neg t) → value w σ u ≡ value w σ t
    pub negated : or_not_under_neg t ≡ false → value w σ u ≡ bvneg w (value w σ t)

  pub differs_value : {t u : Expr} → Differs t u → Signed t u
  unfolding value
  differs_value (or_first s c m) = record {
    kept = λ h. sym (minus_value m) ∙ c.same_value w σ;
    negated = λ h. absurd (subst T (sym s ∙ h) tt);
  }
  differs_value {u = u} (or_second s c m) = record {
    kept = λ h. absurd (subst T s h);
    negated = λ h. sym (neg_neg (value_lt w σ u)) ∙ ap (bvneg w) (sym (turned_value m) ∙ c.same_value w σ);
  }

  pub tag_2 : (t : Expr) → Every (Signed t) (match_xor_via_or_minus_and t)
  tag_2 t = every_on (Differs t) (Signed t) (match_xor_via_or_minus_and t) (λ u. differs_value) (found_2 t)

  pub tag_3 : (t : Expr) → Every (Signed t) (match_and_via_not_or_minus_not t)
  tag_3 t = every_on (Differs t) (Signed t) (match_and_via_not_or_minus_not t) (λ u. differs_value) (found_3 t)

  -- ---- a tree as the difference of its addends

  abbrev whole : Addend → ℕ
  whole a = value w σ a.expr

  -- an addend where it has that sign, else nothing
  abbrev share : Bool → Addend → ℕ
  share false a = if a.negated then 0 else whole a
  share true a = if a.negated then whole a else 0

  abbrev sum : (Addend → ℕ) → List Addend → ℕ
  sum f [] = 0
  sum f (a ∷ xs) = f a + sum f xs

  sum_append : (f : Addend → ℕ) (xs ys : List Addend) → sum f xs + sum f ys ≡ sum f (xs ++ ys)
  sum_append f [] ys = zero-add (sum f ys)
  sum_append f (a ∷ xs) ys = add_assoc (f a) (sum f xs) (sum f ys) ∙ ap (λ (n : ℕ). f a + n) (sum_append f xs ys)

  sum_insert : (f : Addend → ℕ) {a : Addend} {xs ys : List Addend} → Insert a ys xs → sum f xs ≡ f a + sum f ys
  sum_insert f here = refl
  sum_insert f (there i) = omega (arith, sum_insert f i)

  -- v is the addends of sign s less the others
  abbrev Sum : Bool → ℕ → List Addend → Type 0
  Sum s v xs = Diff w v (sum (share s) xs) (sum (share (not s)) xs)

  sum_one : (s : Bool) (t : Expr) → Sum s (value w σ t) (record { expr = t; negated = s } ∷ [])
  sum_one false t = subst (λ (n : ℕ). Diff w (value w σ t) n 0) (sym (add-zero (value w σ t))) (diff_plain w (value_lt w σ t))
  sum_one true t = subst (λ (n : ℕ). Diff w (value w σ t) n 0) (sym (add-zero (value w σ t))) (diff_plain w (value_lt w σ t))

  sum_neg : (s : Bool) {v : ℕ} (xs : List Addend) → Sum (not s) v xs → Sum s (bvneg w v) xs
  sum_neg false xs d = diff_neg w d
  sum_neg true xs d = diff_neg w d

  sum_both : (s : Bool) {u v : ℕ} (xs ys : List Addend) → Sum s u xs → Sum s v ys → Sum s (bvadd w u v) (xs ++ ys)
  sum_both s {u} {v} xs ys d e = subst₂ (Diff w (bvadd w u v)) (sum_append (share s) xs ys) (sum_append (share (not s)) xs ys) (diff_add w d e)

  sum_of : (s : Bool) (t : Expr) → Sum s (value w σ t) (push_addend s t)
  unfolding push_addend value
  sum_of s (leaf k) = sum_one s (leaf k)
  sum_of s (unary k t) =
      if_case (Sum s (value w σ (unary k t))) (is_neg_kind k)
      (λ h. subst (λ (j : Unary). Sum s (unary_value w j (value w σ t)) (push_addend (not s) t)) (sym (neg_kind→eq k h))
      (sum_neg s (push_addend (not s) t) (sum_of (not s) t)))
      (sum_one s (unary k t))
  sum_of s (binary k l r) =
      if_case (Sum s (value w σ (binary k l r))) (same_kind k Add)
      (λ h. subst (λ (j : Binary). Sum s (binary_value w j (value w σ l) (value w σ r)) (push_addend s l ++ push_addend s r)) (sym (same_kind→eq k Add h))
      (sum_both s (push_addend s l) (push_addend s r) (sum_of s l) (sum_of s r)))
      (sum_one s (binary k l r))

  masked_value : (n : ℕ) (t : Expr) → T (is_masked w n t) → value w σ t ≡ n
  unfolding value is_masked
  masked_value n (leaf (Constant c)) h = eqb→eq (c % 2 ^ w) n h
  masked_value n (leaf (Variable i)) h = absurd h
  masked_value n (unary k t) h = absurd h
  masked_value n (binary k l r) h = absurd h

  -- an addend by its sign
  plus_share : (a : Addend) → T (not a.negated) → (share false a ≡ whole a) × (share true a ≡ 0)
  plus_share a h = (if_no a.negated 0 (whole a) h, if_no a.negated (whole a) 0 h)

  minus_share : (a : Addend) → T a.negated → (share false a ≡ 0) × (share true a ≡ whole a)
  minus_share a h = (if_yes a.negated 0 (whole a) h, if_yes a.negated (whole a) 0 h)

  -- ---- tag 4

  none_negated : (xs : List Addend) → T (not (any_negated xs)) → (sum (share false) xs ≡ sum whole xs) × (sum (share true) xs ≡ 0)
  unfolding any_negated
  none_negated [] h = (refl, refl)
  none_negated (a ∷ xs) h =
      let n = or_no a.negated (any_negated xs) h in
      let p = plus_share a n.0 in
      let q = none_negated xs n.1 in
      (ap₂ ◌+◌ p.0 q.0, ap₂ ◌+◌ p.1 q.1)

  pub plus_one_value : (t : Expr) {u : Expr} → PlusOne w (flatten_addends t) u → value w σ u ≡ value w σ t
  unfolding value
  plus_one_value t (plus_one {one} {o} {a} {x = x} n m i h j) =
      let s = none_negated (flatten_addends t) n in
      sym (S.plus_one w (value_lt w σ a.expr) (value_lt w σ x) (sum_of false t)
      (omega (arith, sum_insert whole i, sum_insert whole j, masked_value 1 one.expr m, h.same_value w σ)))

  pub tag_4 : (t : Expr) → Every (λ u. value w σ u ≡ value w σ t) (match_and_via_not_or_plus_a_plus_one w (flatten_addends t))
  tag_4 t = let xs = flatten_addends t in every_on (PlusOne w xs) _ (match_and_via_not_or_plus_a_plus_one w xs) (λ u. plus_one_value t) (found_4 w xs)

  -- ---- tag 5

  -- the sums of two addends of which one is subtracted
  abbrev Shares : List Addend → Expr × Expr → Type 0
  Shares xs (x, y) = (sum (share false) xs ≡ value w σ x) × (sum (share true) xs ≡ value w σ y)

  plus_and_minus_lem : (xs : List Addend) → Every (Shares xs) (plus_and_minus xs)
  unfolding plus_and_minus
  plus_and_minus_lem [] = tt
  plus_and_minus_lem (a ∷ []) = tt
  plus_and_minus_lem (a ∷ b ∷ []) =
      let E = Every (Shares (a ∷ b ∷ [])) in
      if_case E (not a.negated && b.negated)
      (λ h. let n = and_yes (not a.negated) b.negated h in
      let p = plus_share a n.0 in
      let q = minus_share b n.1 in
      (omega arith, omega arith))
      (if_case E (a.negated && not b.negated)
      (λ h. let n = and_yes a.negated (not b.negated) h in
      let p = minus_share a n.0 in
      let q = plus_share b n.1 in
      (omega arith, omega arith))
      tt)
  plus_and_minus_lem (a ∷ b ∷ c ∷ xs) = tt

  pub or_not_flat_value : (t : Expr) {u : Expr} → OrNotFlat w (flatten_addends t) u → value w σ u ≡ value w σ t
  unfolding value
  or_not_flat_value t (or_not_flat {two} {twice} {zs = zs} {a} {b} m i (n, product {c} g h) j e) =
      let k = and_yes two.negated (is_masked w 2 two.expr) m in
      let p = minus_share two k.0 in
      let q = minus_share twice n in
      let r = every_at (Shares zs) (plus_and_minus zs) (plus_and_minus_lem zs) e in
      let o = bvor (value w σ a) (bvnot w (value w σ b)) in
      let v : whole twice ≡ 2 * o % 2 ^ w = sym (h.same_value w σ) ∙ ap (λ (y : ℕ). bvmul w y o) (masked_value 2 c g) in
      sym (flat_or_not w (value_lt w σ a) (value_lt w σ b)
      (diff_unreduced w (2 + value w σ b) (2 * o) (sum_of false t)
      (omega (arith, sum_insert (share true) i, sum_insert (share true) j, masked_value 2 two.expr k.1)))
      (omega (arith, sum_insert (share false) i, sum_insert (share false) j)))

  pub tag_5 : (t : Expr) → Every (λ u. value w σ u ≡ value w σ t) (match_xor_via_ornot_flat w (flatten_addends t))
  tag_5 t = let xs = flatten_addends t in every_on (OrNotFlat w xs) _ (match_xor_via_ornot_flat w xs) (λ u. or_not_flat_value t) (found_5 w xs)
