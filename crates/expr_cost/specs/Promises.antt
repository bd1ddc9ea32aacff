-- What this crate's private functions promise one another; no public promise names it. Definitions only.
use Rattle.std.specs.Prelude.{◌≡◌, ◌^◌, ◌≤◌, ◌<◌}
use Rattle.expr.specs.Expr.{Expr, depth}
use Rattle.expr_cost.specs.declared.CostInfo.{CostInfo}
use Rattle.expr_cost.specs.ExprCost.{weighted_size_of, nonlinear_mul_count_of, compute_cost}

-- each number of the tree's cost has at most 32 bits
pub record Narrow (t : Expr) : Type 0 where
  pub weight : weighted_size_of t < 2 ^ 32
  pub products : nonlinear_mul_count_of t < 2 ^ 32
  pub levels : depth t < 2 ^ 32

-- what the walk finds of a tree is its cost, unless a number of that has more bits and a sum wraps
pub record CostOf (info : CostInfo) (t : Expr) : Type 0 where
  pub cost_is : Narrow t → info ≡ compute_cost t

-- the numbers of two such costs and of a node over them add up to less than 2 ^ 32, so that they do not wrap
pub record Small (info : CostInfo) : Type 0 where
  pub weight : info.cost.weighted_size ≤ 2 ^ 29
  pub products : info.cost.nonlinear_mul_count ≤ 2 ^ 29
  pub levels : info.cost.max_depth ≤ 2 ^ 29
