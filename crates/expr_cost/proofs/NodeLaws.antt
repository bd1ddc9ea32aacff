-- What the walk finds of a node, from what it has found of its children: where the numbers have 32 bits no sum wraps. Assumes nothing.
use mathlib.Core.Path.{◌≡◌, ap, ap₂, ◌∙◌}
use mathlib.Core.Bool.{Bool, false}
use Prim.Native.Nat.{ℕ, ◌+◌, ◌%◌, ◌<◌}
use native.Mathlib.Omega.{arith}
use Rattle.std.specs.Prelude.{◌||◌, max, if◌then◌else◌}
use Rattle.std.proofs.Common.{mod-eq_of_lt}
use Rattle.expr.specs.declared.kind.Unary.{Unary}
use Rattle.expr.specs.declared.kind.Binary.{Binary}
use Rattle.expr.specs.Expr.{Expr, unary, binary, depth}
use Rattle.expr.specs.ExprUtils.{has_var_dep_of}
use Rattle.expr_cost.specs.declared.CostInfo.{CostInfo}
use Rattle.expr_cost.specs.ExprCost.{is_nonlinear, own_weight, weighted_size_of, nonlinear_mul_count_of, compute_cost}
use Rattle.expr_cost.specs.Promises.{Narrow, CostOf}

-- a sum that does not wrap
whole : (a b : ℕ) → a + b < 4294967296 → (a + b) % 4294967296 ≡ a + b
whole a b h = mod-eq_of_lt h

wholes : (a b c : ℕ) → a + b + c < 4294967296 → ((a + b) % 4294967296 + c) % 4294967296 ≡ a + b + c
wholes a b c h = ap (λ (n : ℕ). (n + c) % 4294967296) (whole a b (omega arith)) ∙ whole (a + b) c h

-- the four parts of a cost
module _ (info : CostInfo) (t : Expr) (few : Narrow t) (c : CostOf info t) where
  weight_is : info.cost.weighted_size ≡ weighted_size_of t
  unfolding compute_cost
  weight_is = ap (λ (i : CostInfo). i.cost.weighted_size) (c.cost_is few)

  products_is : info.cost.nonlinear_mul_count ≡ nonlinear_mul_count_of t
  unfolding compute_cost
  products_is = ap (λ (i : CostInfo). i.cost.nonlinear_mul_count) (c.cost_is few)

  levels_is : info.cost.max_depth ≡ depth t
  unfolding compute_cost
  levels_is = ap (λ (i : CostInfo). i.cost.max_depth) (c.cost_is few)

  variable_is : info.has_var_dep ≡ has_var_dep_of t
  unfolding compute_cost
  variable_is = ap (λ (i : CostInfo). i.has_var_dep) (c.cost_is few)

same_cost : (t : Expr) (w p d : ℕ) (v : Bool) → w ≡ weighted_size_of t → p ≡ nonlinear_mul_count_of t → d ≡ depth t → v ≡ has_var_dep_of t
    → ◌≡◌ {A = CostInfo} (record { cost = record { weighted_size = w; nonlinear_mul_count = p; max_depth = d }; has_var_dep = v }) (compute_cost t)
unfolding compute_cost
same_cost t w p d v e f g h = λ j. record { cost = record { weighted_size = e j; nonlinear_mul_count = f j; max_depth = g j }; has_var_dep = h j }

pub unary_costs : (child : CostInfo) (k : Unary) (own : ℕ) → own ≡ own_weight false
    → (t : Expr) → CostOf child t
    → CostOf (record {
      cost = record {
        weighted_size = (child.cost.weighted_size + own) % 4294967296;
        nonlinear_mul_count = child.cost.nonlinear_mul_count;
        max_depth = (child.cost.max_depth + 1) % 4294967296;
      };
      has_var_dep = child.has_var_dep;
    }) (unary k t)
unfolding weighted_size_of nonlinear_mul_count_of depth has_var_dep_of
unary_costs child k own e t c = record {
  cost_is = λ few.
      let below : Narrow t = record { weight = omega (arith, few.weight); products = few.products; levels = omega (arith, few.levels) } in
      same_cost (unary k t) _ _ _ _
      (whole _ own (omega (arith, few.weight, weight_is child t below c, e)) ∙ ap₂ ◌+◌ (weight_is child t below c) e)
      (products_is child t below c)
      (whole _ 1 (omega (arith, few.levels, levels_is child t below c)) ∙ omega (arith, levels_is child t below c))
      (variable_is child t below c);
}

module _ (left right : CostInfo) (k : Binary) (nonlinear : Bool)
    (h : (l r : Expr) → left.has_var_dep ≡ has_var_dep_of l → right.has_var_dep ≡ has_var_dep_of r → nonlinear ≡ is_nonlinear k l r)
    (most own one : ℕ) (m : most ≡ max left.cost.max_depth right.cost.max_depth) (e : own ≡ own_weight nonlinear) (o : one ≡ (if nonlinear then 1 else 0)) where
  pub binary_costs : (v : Bool) → v ≡ (left.has_var_dep || right.has_var_dep)
      → (l r : Expr) → CostOf left l → CostOf right r
      → CostOf (record {
        cost = record {
          weighted_size = ((left.cost.weighted_size + right.cost.weighted_size) % 4294967296 + own) % 4294967296;
          nonlinear_mul_count = ((left.cost.nonlinear_mul_count + right.cost.nonlinear_mul_count) % 4294967296 + one) % 4294967296;
          max_depth = (most + 1) % 4294967296;
        };
        has_var_dep = v;
      }) (binary k l r)
  unfolding weighted_size_of nonlinear_mul_count_of depth has_var_dep_of
  binary_costs v i l r a b = record {
    cost_is = λ few.
        let x : Narrow l = record { weight = omega (arith, few.weight); products = omega (arith, few.products); levels = omega (arith, few.levels) } in
        let y : Narrow r = record { weight = omega (arith, few.weight); products = omega (arith, few.products); levels = omega (arith, few.levels) } in
        let n = h l r (variable_is left l x a) (variable_is right r y b) in
        let weight : left.cost.weighted_size + right.cost.weighted_size + own ≡ weighted_size_of l + weighted_size_of r + own_weight (is_nonlinear k l r) =
        ap₂ ◌+◌ (ap₂ ◌+◌ (weight_is left l x a) (weight_is right r y b)) (e ∙ ap own_weight n) in
        let products : left.cost.nonlinear_mul_count + right.cost.nonlinear_mul_count + one ≡ nonlinear_mul_count_of l + nonlinear_mul_count_of r + (if is_nonlinear k l r then 1 else 0) =
        ap₂ ◌+◌ (ap₂ ◌+◌ (products_is left l x a) (products_is right r y b)) (o ∙ ap (λ (z : Bool). if z then 1 else 0) n) in
        same_cost (binary k l r) _ _ _ _
        (wholes _ _ own (omega (arith, few.weight, weight)) ∙ weight)
        (wholes _ _ one (omega (arith, few.products, products)) ∙ products)
        (whole most 1 (omega (arith, few.levels, m, levels_is left l x a, levels_is right r y b))
        ∙ omega (arith, m, levels_is left l x a, levels_is right r y b))
        (i ∙ ap₂ ◌||◌ (variable_is left l x a) (variable_is right r y b));
  }

-- the same, as the walk's domain has it
module _ (info : CostInfo) (t : Expr) where
  pub cost_of : (Narrow t → info ≡ compute_cost t) → CostOf info t
  cost_of h = record { cost_is = h }

  pub found_of : CostOf info t → Narrow t → info ≡ compute_cost t
  found_of c n = c.cost_is n
