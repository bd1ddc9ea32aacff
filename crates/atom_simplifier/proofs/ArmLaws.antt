-- The arms of the fold, in the order of the tests. Assumes nothing.
use mathlib.Core.Path.{◌≡◌, refl, sym, ap, subst, ◌∙◌}
use mathlib.Core.Bool.{Bool, true, false, ◌||◌}
use mathlib.Core.Option.{Option, none, some}
use Prim.Native.Nat.{ℕ, ◌^◌, ◌≤◌}
use native.Mathlib.Omega.{arith}
use Rattle.std.specs.Prelude.{T, if◌then◌else◌}
use Rattle.std.proofs.Common.{pow_mono, eqb→eq}
use Rattle.arith.specs.Bv.{ones}
use Rattle.expr.specs.declared.kind.Binary.{Binary}
use Rattle.expr.specs.Expr.{Expr, binary}
use Rattle.expr.specs.Optional.{◌equals_some◌}
use Rattle.rewriting.specs.AtomSimplifier.{constant, constant_val, are_complements, contains_operand, Bitwise, and, or, xor, kind_of, constant_arms, arms}
use Rattle.rewriting.specs.TestLaws.{is_some→eq}
use Rattle.atom_simplifier.specs.Promises.{is_constant, dual_of, identity_of, complements_of, absorbing_of}

-- ---- 0 and all ones

module _ (w : ℕ) (t u : Expr) where
  -- the absorbing constant, and then the node itself
  abbrev absorbed : Bitwise → Option ℕ → Expr
  absorbed o none = binary (kind_of o) t u
  absorbed o (some c) = if is_constant w u c || is_constant w t c then constant c else binary (kind_of o) t u

  -- the identity's tests, in the code's order
  abbrev in_order : Bitwise → Expr
  in_order o = if is_constant w u (identity_of w o) then t else if is_constant w t (identity_of w o) then u else absorbed o (absorbing_of w o)

  module _ (l : 1 ≤ w) where
    ones_pos : 1 ≤ ones w
    ones_pos = let m : 2 ^ 1 ≤ 2 ^ w = pow_mono l in omega arith

    -- no tree is both 0 and all ones
    not_both : (s : Expr) → T (constant_val w s equals_some 0) → T (constant_val w s equals_some ones w) → ⊥
    not_both s g h =
        let e : ◌≡◌ {A = ℕ} 0 (ones w) = eqb→eq 0 (ones w) (subst (λ (v : Expr). T (constant_val w v equals_some ones w)) (is_some→eq w s 0 g) h) in
        omega (arith, ones_pos, e)

    -- And's definition tests 0 first; where its tests of both hold, they give the constant 0 in either order
    and_order : (a b p q : Bool) → (T a → u ≡ constant 0) → (T b → t ≡ constant 0) → (T a → T p → ⊥) → (T b → T q → ⊥) → (n : Expr)
        → (if p then t else if q then u else if a || b then constant 0 else n) ≡ (if a || b then constant 0 else if p then t else if q then u else n)
    and_order true b true q f g h i n = absurd (h tt tt)
    and_order true b false true f g h i n = f tt
    and_order true b false false f g h i n = refl
    and_order false true true q f g h i n = g tt
    and_order false true false true f g h i n = absurd (i tt tt)
    and_order false true false false f g h i n = refl
    and_order false false p q f g h i n = refl

    ordered : (o : Bitwise) → in_order o ≡ constant_arms w o t u
    unfolding constant_arms is_constant
    ordered and =
        and_order (constant_val w u equals_some 0) (constant_val w t equals_some 0) (constant_val w u equals_some ones w) (constant_val w t equals_some ones w)
        (is_some→eq w u 0) (is_some→eq w t 0) (not_both u) (not_both t) (binary (kind_of and) t u)
    ordered or = refl
    ordered xor = refl

    module _ (o : Bitwise) (n : ℕ) (i : n ≡ identity_of w o) (a : Bool) (f : a ≡ is_constant w u n) where
      u_is : is_constant w u (identity_of w o) ≡ a
      u_is = ap (is_constant w u) (sym i) ∙ sym f

      pub identity_right : a ≡ true → t ≡ constant_arms w o t u
      identity_right e = sym (rw (u_is ∙ e)) ∙ ordered o

      module _ (d : a ≡ false) (b : Bool) (g : b ≡ is_constant w t n) where
        t_is : is_constant w t (identity_of w o) ≡ b
        t_is = ap (is_constant w t) (sym i) ∙ sym g

        pub identity_left : b ≡ true → u ≡ constant_arms w o t u
        identity_left e = sym (simp (u_is ∙ d, t_is ∙ e)) ∙ ordered o

        module _ (h : b ≡ false) where
          past_identity : absorbed o (absorbing_of w o) ≡ constant_arms w o t u
          past_identity = sym (simp (u_is ∙ d, t_is ∙ h)) ∙ ordered o

          pub none_absorbs : none ≡ absorbing_of w o → binary (kind_of o) t u ≡ constant_arms w o t u
          none_absorbs e = ap (absorbed o) e ∙ past_identity

          module _ (c : ℕ) (e : some c ≡ absorbing_of w o) (p : Bool) (j : p ≡ is_constant w u c) where
            pub absorbs_right : p ≡ true → constant c ≡ constant_arms w o t u
            absorbs_right k = sym (simp (sym j ∙ k)) ∙ ap (absorbed o) e ∙ past_identity

            module _ (k : p ≡ false) (q : Bool) (m : q ≡ is_constant w t c) where
              pub absorbs_left : q ≡ true → constant c ≡ constant_arms w o t u
              absorbs_left r = sym (simp (sym j ∙ k, sym m ∙ r)) ∙ ap (absorbed o) e ∙ past_identity

              pub stays : q ≡ false → binary (kind_of o) t u ≡ constant_arms w o t u
              stays r = sym (simp (sym j ∙ k, sym m ∙ r)) ∙ ap (absorbed o) e ∙ past_identity

-- ---- complements and absorption

module _ (w : ℕ) (t u : Expr) where
  abbrev by_dual : Option Binary → Expr → Expr
  by_dual none v = v
  by_dual (some k) v = if contains_operand w u k t then t else if contains_operand w t k u then u else v

  arms_are : (o : Bitwise) → arms w o t u ≡ (if are_complements w t u then constant (complements_of w o) else by_dual (dual_of o) (constant_arms w o t u))
  unfolding arms
  arms_are and = refl
  arms_are or = refl
  arms_are xor = refl

  module _ (o : Bitwise) (a : Bool) (f : a ≡ are_complements w t u) where
    pub complementary : (c : ℕ) → c ≡ complements_of w o → a ≡ true → constant c ≡ arms w o t u
    complementary c i e = ap constant i ∙ sym (arms_are o ∙ rw (sym f ∙ e))

    module _ (d : a ≡ false) where
      past_complements : arms w o t u ≡ by_dual (dual_of o) (constant_arms w o t u)
      past_complements = arms_are o ∙ rw (sym f ∙ d)

      pub no_dual : none ≡ dual_of o → (v : Expr) → v ≡ constant_arms w o t u → v ≡ arms w o t u
      no_dual e v h = h ∙ ap (λ (k : Option Binary). by_dual k (constant_arms w o t u)) e ∙ sym past_complements

      module _ (k : Binary) (e : some k ≡ dual_of o) (b : Bool) (g : b ≡ contains_operand w u k t) where
        dual_known : by_dual (some k) (constant_arms w o t u) ≡ arms w o t u
        dual_known = ap (λ (j : Option Binary). by_dual j (constant_arms w o t u)) e ∙ sym past_complements

        pub absorbed_right : b ≡ true → t ≡ arms w o t u
        absorbed_right h = sym (rw (sym g ∙ h)) ∙ dual_known

        module _ (h : b ≡ false) (p : Bool) (i : p ≡ contains_operand w t k u) where
          pub absorbed_left : p ≡ true → u ≡ arms w o t u
          absorbed_left j = sym (simp (sym g ∙ h, sym i ∙ j)) ∙ dual_known

          pub past_dual : p ≡ false → (v : Expr) → v ≡ constant_arms w o t u → v ≡ arms w o t u
          past_dual j v m = m ∙ sym (simp (sym g ∙ h, sym i ∙ j)) ∙ dual_known

pub ruleset constants = (identity_right, identity_left, none_absorbs, absorbs_right, absorbs_left, stays)

pub ruleset operands = (complementary, no_dual, absorbed_right, absorbed_left, past_dual)
