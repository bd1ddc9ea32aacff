-- A tree has a Variable exactly if one of its kind words is 1; the turns of `has_variable`. Assumes nothing.
use mathlib.Core.Path.{◌≡◌, refl, sym, ap, ap₂, ◌∙◌}
use mathlib.Core.Bool.{Bool, true, false, not, ◌&&◌, ◌||◌, or_assoc, or-false}
use mathlib.Core.List.{List, [], ◌∷◌, ◌++◌, append_assoc, append-nil}
use Prim.Native.Nat.{ℕ, zero, suc, ◌+◌, ◌≤◌, ◌<◌}
use native.Mathlib.Omega.{arith}
use lib.Dec.{eqb}
use lib.ListN.{length, drop, get_or, drop_of_length-le}
use borrow.Author.Tests.{eq-eqb, ne_eqb}
use Rattle.expr.specs.Expr.{Expr, leaf, unary, binary, unary_number, binary_number, encode}
use Rattle.expr.specs.declared.kind.Leaf.TheVariants.{Constant, Variable}
use Rattle.expr.specs.declared.kind.Unary.{Unary}
use Rattle.expr.specs.declared.kind.Unary.TheVariants.{Not, Neg, Shr, ZExt, SExt, Trunc}
use Rattle.expr.specs.declared.kind.Binary.{Binary}
use Rattle.expr.specs.declared.kind.Binary.TheVariants.{Add, Mul, And, Or, Xor, Concat}
use Rattle.expr.specs.ExprUtils.{is_constant_subtree, has_var_dep_of}

-- one of the kind words, at the even places, is that of a Variable
abbrev any_variable : List ℕ → Bool
any_variable [] = false
any_variable (k ∷ []) = eqb k 1
any_variable (k ∷ o ∷ ws) = eqb k 1 || any_variable ws

unary_none : (k : Unary) → eqb (unary_number k) 1 ≡ false
unary_none Not = refl
unary_none Neg = refl
unary_none (Shr n) = refl
unary_none (ZExt w) = refl
unary_none (SExt w) = refl
unary_none (Trunc w) = refl

binary_none : (k : Binary) → eqb (binary_number k) 1 ≡ false
binary_none Add = refl
binary_none Mul = refl
binary_none And = refl
binary_none Or = refl
binary_none Xor = refl
binary_none Concat = refl

any_encode : (t : Expr) (rest : List ℕ) → any_variable (encode t ++ rest) ≡ (has_var_dep_of t || any_variable rest)
unfolding encode has_var_dep_of
any_encode (leaf (Constant c)) rest = refl
any_encode (leaf (Variable i)) rest = refl
any_encode (unary k t) rest = ap (λ (b : Bool). b || any_variable (encode t ++ rest)) (unary_none k) ∙ any_encode t rest
any_encode (binary k l r) rest =
    ap (λ (b : Bool). b || any_variable ((encode l ++ encode r) ++ rest)) (binary_none k)
    ∙ ap any_variable (append_assoc (encode l) (encode r) rest)
    ∙ any_encode l (encode r ++ rest)
    ∙ ap (λ (b : Bool). has_var_dep_of l || b) (any_encode r rest)
    ∙ sym (or_assoc (has_var_dep_of l) (has_var_dep_of r) (any_variable rest))

any_tree : (t : Expr) → any_variable (encode t) ≡ has_var_dep_of t
any_tree t = ap any_variable (sym (append-nil (encode t))) ∙ any_encode t [] ∙ or-false (has_var_dep_of t)

-- a tree without a Variable is constant
pub constant_is : (t : Expr) → not (has_var_dep_of t) ≡ is_constant_subtree t
unfolding has_var_dep_of is_constant_subtree
constant_is (leaf (Constant c)) = refl
constant_is (leaf (Variable i)) = refl
constant_is (unary k t) = constant_is t
constant_is (binary k l r) = go (has_var_dep_of l) (has_var_dep_of r) ∙ ap₂ ◌&&◌ (constant_is l) (constant_is r)
  where
    go : (a b : Bool) → not (a || b) ≡ (not a && not b)
    go true b = refl
    go false b = refl

-- ---- the loop

turn : (ws : List ℕ) (i : ℕ) → i < length ws → any_variable (drop i ws) ≡ (eqb (get_or ws i 0) 1 || any_variable (drop (i + 2) ws))
turn [] i h = absurd (omega arith)
turn (k ∷ []) zero h = sym (or-false (eqb k 1))
turn (k ∷ o ∷ ws) zero h = refl
turn (k ∷ ws) (suc i) h =
    turn ws i (omega arith)
    ∙ ap (λ (n : ℕ). eqb (get_or ws i 0) 1 || any_variable (drop n (k ∷ ws))) (let e : suc (i + 2) ≡ suc i + 2 = omega arith in e)

-- the kind words before place i are no Variable's
pub record Looking (ws : List ℕ) (i : ℕ) : Type 0 where
  pub later : any_variable ws ≡ any_variable (drop i ws)

pub looking_first : (ws : List ℕ) → Looking ws 0
looking_first ws = record { later = refl }

module _ (ws : List ℕ) (i : ℕ) (g : Looking ws i) where
  pub variable_none : length ws ≤ i → (t : Expr) → ws ≡ encode t → false ≡ has_var_dep_of t
  variable_none h t e = sym (sym (any_tree t) ∙ ap any_variable (sym e) ∙ g.later ∙ ap any_variable (drop_of_length-le ws h))

  module _ (h : i < length ws) where
    pub variable_found : get_or ws i 0 ≡ 1 → (t : Expr) → ws ≡ encode t → true ≡ has_var_dep_of t
    variable_found f t e =
        sym (sym (any_tree t) ∙ ap any_variable (sym e) ∙ g.later ∙ turn ws i h ∙ ap (λ (b : Bool). b || any_variable (drop (i + 2) ws)) (eq-eqb (get_or ws i 0) 1 f))

    pub looking_on : (get_or ws i 0 ≡ 1 → ⊥) → Looking ws (i + 2)
    looking_on f = record { later = g.later ∙ turn ws i h ∙ ap (λ (b : Bool). b || any_variable (drop (i + 2) ws)) (ne_eqb (get_or ws i 0) 1 f) }
