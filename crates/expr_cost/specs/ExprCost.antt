-- expr_cost.rs: the cost of a tree, and which of two costs is better. Definitions only.
use Rattle.std.specs.Prelude.{Bool, false, ◌&&◌, ◌||◌, ℕ, ◌+◌, ltb, eqb, if◌then◌else◌}
use Rattle.expr.specs.Expr.{Expr, leaf, unary, binary, depth}
use Rattle.expr.specs.declared.kind.Binary.{Binary}
use Rattle.expr.specs.declared.kind.Binary.TheVariants.{Add, Mul, And, Or, Xor, Concat}
use Rattle.expr.specs.ExprUtils.{has_var_dep_of}
use Rattle.expr_cost.specs.declared.ExprCost.{ExprCost}
use Rattle.expr_cost.specs.declared.CostInfo.{CostInfo}

-- a node over these children is a nonlinear product: a Mul of operands that both have a Variable
abbrev pub is_nonlinear : Binary → Expr → Expr → Bool
is_nonlinear Mul l r = has_var_dep_of l && has_var_dep_of r
is_nonlinear Add l r = false
is_nonlinear And l r = false
is_nonlinear Or l r = false
is_nonlinear Xor l r = false
is_nonlinear Concat l r = false

-- what a node weighs by itself: a nonlinear product 3, every other node 1
abbrev pub own_weight : Bool → ℕ
own_weight nonlinear = if nonlinear then 3 else 1

-- the weight of a tree: the sum of what its nodes weigh
unfoldable pub weighted_size_of : Expr → ℕ
weighted_size_of (leaf k) = own_weight false
weighted_size_of (unary k t) = weighted_size_of t + own_weight false
weighted_size_of (binary k l r) = weighted_size_of l + weighted_size_of r + own_weight (is_nonlinear k l r)

-- the number of nonlinear products
unfoldable pub nonlinear_mul_count_of : Expr → ℕ
nonlinear_mul_count_of (leaf k) = 0
nonlinear_mul_count_of (unary k t) = nonlinear_mul_count_of t
nonlinear_mul_count_of (binary k l r) = nonlinear_mul_count_of l + nonlinear_mul_count_of r + (if is_nonlinear k l r then 1 else 0)

-- the answer's four members: weight, nonlinear products, depth, and whether there is a Variable
unfoldable pub compute_cost : Expr → CostInfo
compute_cost t = record {
  cost = record { weighted_size = weighted_size_of t; nonlinear_mul_count = nonlinear_mul_count_of t; max_depth = depth t };
  has_var_dep = has_var_dep_of t;
}

-- less in weight; or equal in it and less in nonlinear products; or equal in both and less in depth
abbrev pub is_better : ExprCost → ExprCost → Bool
is_better c b =
    ltb c.weighted_size b.weighted_size
    || (eqb c.weighted_size b.weighted_size && (ltb c.nonlinear_mul_count b.nonlinear_mul_count
    || (eqb c.nonlinear_mul_count b.nonlinear_mul_count && ltb c.max_depth b.max_depth)))
