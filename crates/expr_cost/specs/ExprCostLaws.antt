-- What a cost can come to, and that 'better' is an order. Assumes nothing.
use Rattle.std.specs.Prelude.{◌≡◌, refl, Bool, true, false, ◌&&◌, ◌||◌, ◌⊎◌, ℕ, ◌+◌, ◌*◌, ◌^◌, ◌≤◌, ◌<◌, ltb, eqb, if◌then◌else◌}
use Rattle.std.proofs.Common.{sym, subst, inl, inr, ⊎_elim, arith, mul-add, le_refl, ltb-true, eqb-true, lt-ltb, le-ltb, eq-eqb}
use Rattle.expr.specs.Expr.{Expr, leaf, unary, binary, nodes}
use Rattle.expr.specs.Domain.{FewBelow}
use Rattle.expr.specs.ExprLaws.{depth_nodes}
use Rattle.expr_cost.specs.declared.ExprCost.{ExprCost}
use Rattle.expr_cost.specs.declared.CostInfo.{CostInfo}
use Rattle.expr_cost.specs.ExprCost.{is_nonlinear, own_weight, weighted_size_of, nonlinear_mul_count_of, compute_cost, is_better}
use Rattle.expr_cost.specs.Promises.{Small, Narrow}

-- whatever a node weighs at most, a tree weighs at most that for each of its nodes
pub weight_most : (m : ℕ) → ((b : Bool) → own_weight b ≤ m) → (t : Expr) → weighted_size_of t ≤ m * nodes t
unfolding weighted_size_of nodes
weight_most m h (leaf k) = omega (arith, h false)
weight_most m h (unary k t) = omega (arith, h false, weight_most m h t, mul-add m 1 (nodes t))
weight_most m h (binary k l r) =
    omega (arith, h (is_nonlinear k l r), weight_most m h l, weight_most m h r, mul-add m (1 + nodes l) (nodes r), mul-add m 1 (nodes l))

pub products_most : (t : Expr) → nonlinear_mul_count_of t ≤ nodes t
unfolding nonlinear_mul_count_of nodes
products_most (leaf k) = omega arith
products_most (unary k t) = omega (arith, products_most t)
products_most (binary k l r) = omega (arith, one (is_nonlinear k l r), products_most l, products_most r)
  where
    one : (b : Bool) → (if b then 1 else 0) ≤ 1
    one true = omega arith
    one false = omega arith

-- ---- better is an order

-- less, or equal and then as p says
abbrev less : ℕ → ℕ → Bool → Bool
less x y p = ltb x y || (eqb x y && p)

module _ (x y : ℕ) (p : Bool) where
  less_told : less x y p ≡ true → (x < y) ⊎ ((x ≡ y) × (p ≡ true))
  less_told h = go (ltb x y) (eqb x y) refl refl h
    where
      go : (a b : Bool) → ltb x y ≡ a → eqb x y ≡ b → (a || (b && p)) ≡ true → (x < y) ⊎ ((x ≡ y) × (p ≡ true))
      go true b e f z = inl (ltb-true x y e)
      go false true e f z = inr (eqb-true x y f, z)
      go false false e f z = absurd (let n : ◌≡◌ {A = ℕ} 0 1 = cc in omega arith)

  less_first : x < y → less x y p ≡ true
  less_first h = simp (lt-ltb x y h)

  less_then : x ≡ y → p ≡ true → less x y p ≡ true
  less_then e h = let z : y ≤ x = omega arith in simp (le-ltb x y z, eq-eqb x y e, h)

less_transitive : (x y z : ℕ) (p q r : Bool) → (p ≡ true → q ≡ true → r ≡ true) → less x y p ≡ true → less y z q ≡ true → less x z r ≡ true
less_transitive x y z p q r t a b =
    ⊎_elim
    (λ h. less_first x z r (⊎_elim (λ g. omega arith) (λ g. omega arith) (less_told y z q b)))
    (λ h. ⊎_elim (λ g. less_first x z r (omega arith)) (λ g. less_then x z r (omega arith) (t h.1 g.1)) (less_told y z q b))
    (less_told x y p a)

-- no cost is better than itself
pub better_irreflexive : (c : ExprCost) → is_better c c ≡ false
better_irreflexive c = same c.weighted_size _ (same c.nonlinear_mul_count _ (le-ltb c.max_depth _ (le_refl _)))
  where
    same : (x : ℕ) (p : Bool) → p ≡ false → less x x p ≡ false
    same x p h = simp (le-ltb x x (le_refl x), eq-eqb x x refl, h)

pub better_transitive : (a b c : ExprCost) → is_better a b ≡ true → is_better b c ≡ true → is_better a c ≡ true
better_transitive a b c =
    less_transitive a.weighted_size b.weighted_size c.weighted_size _ _ _
    (less_transitive a.nonlinear_mul_count b.nonlinear_mul_count c.nonlinear_mul_count _ _ _
    (lower a.max_depth b.max_depth c.max_depth))
  where
    lower : (x y z : ℕ) → ltb x y ≡ true → ltb y z ≡ true → ltb x z ≡ true
    lower x y z h g = lt-ltb x z (omega (arith, ltb-true x y h, ltb-true y z g))

-- far above what a node weighs: other weights would need no other bounds
pub own_most : (b : Bool) → own_weight b ≤ 2 ^ 20
own_most true = omega arith
own_most false = omega arith

-- the cost of at most 512 nodes is small
pub small_cost : (info : CostInfo) (t : Expr) → nodes t ≤ 512 → info ≡ compute_cost t → Small info
unfolding compute_cost
small_cost info t few e =
    subst Small (sym e)
    (record {
      weight = omega (arith, weight_most (2 ^ 20) own_most t);
      products = omega (arith, products_most t);
      levels = omega (arith, depth_nodes t);
    })

-- each number of a node over trees of at most 512 nodes has at most 32 bits
pub narrow : (t : Expr) → FewBelow t → Narrow t
unfolding compute_cost weighted_size_of nodes
narrow (leaf k) few = record { weight = omega (arith, own_most false); products = omega (arith, products_most (leaf k)); levels = omega (arith, depth_nodes (leaf k)) }
narrow (unary k t) few = record {
  weight = omega (arith, own_most false, (small_cost (compute_cost t) t few refl).weight);
  products = omega (arith, few, products_most (unary k t));
  levels = omega (arith, few, depth_nodes (unary k t));
}
narrow (binary k l r) few = record {
  weight = omega (arith, own_most (is_nonlinear k l r), (small_cost (compute_cost l) l few.0 refl).weight, (small_cost (compute_cost r) r few.1 refl).weight);
  products = omega (arith, few.0, few.1, products_most (binary k l r));
  levels = omega (arith, few.0, few.1, depth_nodes (binary k l r));
}
