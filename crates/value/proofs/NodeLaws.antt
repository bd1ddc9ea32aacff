-- The value of a node, from its children's. Assumes nothing.
use mathlib.Core.Path.{◌≡◌, refl, sym, ap, ap₂, ◌∙◌, subst}
use mathlib.Core.Bool.{Bool, true, false, ◌&&◌}
use mathlib.Core.List.{List}
use Prim.Native.Nat.{ℕ, ◌%◌, ◌^◌, ◌≤◌, ◌<◌}
use native.Mathlib.Omega.{arith}
use lib.ListN.{length, get_or}
use lib.Dec.{ltb}
use Rattle.std.proofs.Common.{ltb-true}
use Rattle.std.proofs.lemmas.Grind.{get_or_default_zero}
use Rattle.std.specs.Prelude.{Option, Some, None, if◌then◌else◌}
use Rattle.arith.specs.Arith.{mod_neg, mod_not, mod_shr, low_bits}
use Rattle.arith.specs.ArithLaws.{low_is, not_is, neg_is, shr_is}
use Rattle.arith.specs.Bv.{bvnot, bvneg, bvlshr}
use Rattle.expr.specs.declared.kind.Leaf.{Leaf}
use Rattle.expr.specs.declared.kind.Leaf.TheVariants.{Constant, Variable}
use Rattle.expr.specs.declared.kind.Unary.{Unary}
use Rattle.expr.specs.declared.kind.Binary.{Binary}
use Rattle.expr.specs.Expr.{Expr, leaf, unary, binary}
use Rattle.value.specs.Value.{unary_value, binary_value, value, is_lent}
use Rattle.value.specs.ValueLaws.{value_lt}
use Rattle.value.specs.Promises.{value_if_lent}

module _ (w : ℕ) (l : w ≤ 64) (x : ℕ) (m : x < 2 ^ w) where
  pub not_value : (z : ℕ) → z ≡ mod_not x w → z ≡ bvnot w x
  not_value z h = h ∙ not_is w l m

  pub neg_value : (z : ℕ) → z ≡ mod_neg x w → z ≡ bvneg w x
  neg_value z h = h ∙ neg_is w l m

  pub shr_value : (k z : ℕ) → z ≡ mod_shr x k w → z ≡ bvlshr w x k
  shr_value k z h = h ∙ shr_is w l k m

module _ (w : ℕ) (σ : List ℕ) where
  -- what a value says of the tree
  record Told (t : Expr) (x : ℕ) : Type 0 where
    lent : is_lent σ t ≡ true
    is : x ≡ value w σ t

  told : (t : Expr) (x : ℕ) → Some x ≡ value_if_lent w σ t → Told t x
  unfolding value_if_lent
  told t x e = go (is_lent σ t) refl e
    where
      go : (b : Bool) → is_lent σ t ≡ b → Some x ≡ (if b then Some (value w σ t) else None) → Told t x
      go true f g = record { lent = f; is = cc }
      go false f g = absurd (let z : ◌≡◌ {A = ℕ} 0 1 = cc in omega arith)

  not_lent : (t : Expr) → None ≡ value_if_lent w σ t → is_lent σ t ≡ false
  unfolding value_if_lent
  not_lent t e = go (is_lent σ t) refl e
    where
      go : (b : Bool) → is_lent σ t ≡ b → None ≡ (if b then Some (value w σ t) else None) → is_lent σ t ≡ false
      go true f g = absurd (let z : ◌≡◌ {A = ℕ} 0 1 = cc in omega arith)
      go false f g = f

  given : (t : Expr) (x : ℕ) → is_lent σ t ≡ true → x ≡ value w σ t → Some x ≡ value_if_lent w σ t
  unfolding value_if_lent
  given t x e f = ap Some f ∙ sym (simp e)

  none_given : (t : Expr) → is_lent σ t ≡ false → None ≡ value_if_lent w σ t
  unfolding value_if_lent
  none_given t e = sym (simp e)

  -- a leaf, by its kind
  leaf_given : (k j : Leaf) (x : ℕ) → k ≡ j → is_lent σ (leaf j) ≡ true → x ≡ value w σ (leaf j) → Some x ≡ value_if_lent w σ (leaf k)
  leaf_given k j x f e g = subst (λ (i : Leaf). Some x ≡ value_if_lent w σ (leaf i)) (sym f) (given (leaf j) x e g)

  module _ (l : w ≤ 64) (k : Leaf) where
    pub constant_found : (c v : ℕ) → k ≡ Constant c → v ≡ low_bits c w → Some v ≡ value_if_lent w σ (leaf k)
    unfolding value is_lent
    constant_found c v f e = leaf_given k (Constant c) v f refl (e ∙ low_is w l c)

    pub variable_found : (i v word : ℕ) → k ≡ Variable i → true ≡ ltb i (length σ) → word ≡ get_or σ i word → v ≡ low_bits word w
        → Some v ≡ value_if_lent w σ (leaf k)
    unfolding value is_lent
    variable_found i v word f h g e =
        let read : word ≡ get_or σ i 0 = g ∙ get_or_default_zero σ i word (ltb-true i (length σ) (sym h)) in
        leaf_given k (Variable i) v f (sym h) (e ∙ low_is w l word ∙ ap (λ (n : ℕ). n % 2 ^ w) read)

  pub variable_none : (k : Leaf) (i : ℕ) → k ≡ Variable i → false ≡ ltb i (length σ) → None ≡ value_if_lent w σ (leaf k)
  unfolding is_lent
  variable_none k i f h = subst (λ (j : Leaf). None ≡ value_if_lent w σ (leaf j)) (sym f) (none_given (leaf (Variable i)) (sym h))

  module _ (child : Option ℕ) (k : Unary) (t : Expr) (e : child ≡ value_if_lent w σ t) where
    pub unary_found : (x y : ℕ) → child ≡ Some x → (x < 2 ^ w → y ≡ unary_value w k x) → Some y ≡ value_if_lent w σ (unary k t)
    unfolding value is_lent
    unary_found x y f g =
        let s = told t x (sym f ∙ e) in
        given (unary k t) y s.lent (g (subst (λ (n : ℕ). n < 2 ^ w) (sym s.is) (value_lt w σ t)) ∙ ap (unary_value w k) s.is)

    pub unary_none : child ≡ None → None ≡ value_if_lent w σ (unary k t)
    unfolding is_lent
    unary_none f = none_given (unary k t) (not_lent t (sym f ∙ e))

  module _ (left : Option ℕ) (k : Binary) (t u : Expr) (e : left ≡ value_if_lent w σ t) where
    pub left_none : left ≡ None → None ≡ value_if_lent w σ (binary k t u)
    unfolding is_lent
    left_none g = none_given (binary k t u) (ap (λ (b : Bool). b && is_lent σ u) (not_lent t (sym g ∙ e)))

    module _ (x : ℕ) (g : left ≡ Some x) (right : Option ℕ) (f : right ≡ value_if_lent w σ u) where
      pub right_none : right ≡ None → None ≡ value_if_lent w σ (binary k t u)
      unfolding is_lent
      right_none h = none_given (binary k t u) (ap₂ ◌&&◌ (told t x (sym g ∙ e)).lent (not_lent u (sym h ∙ f)))

      pub binary_found : (y z : ℕ) → right ≡ Some y → z ≡ binary_value w k x y → Some z ≡ value_if_lent w σ (binary k t u)
      unfolding value is_lent
      binary_found y z h i =
          let a = told t x (sym g ∙ e) in
          let b = told u y (sym h ∙ f) in
          given (binary k t u) z (ap₂ ◌&&◌ a.lent b.lent) (i ∙ ap₂ (binary_value w k) a.is b.is)
