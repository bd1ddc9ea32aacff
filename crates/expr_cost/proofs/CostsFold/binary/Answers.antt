-- `expr_cost::Costs` as a `Fold`: `binary` meets its contract. Assumes nothing.
use borrow.Author.Rules.{rules}
use Rattle.expr_cost.proofs.NodeLaws.{binary_costs, cost_of, found_of}
use Rattle.expr_cost.proofs.CostsFold.binary.Goals as goal

pub returns-then-lhs : goal.returns-then-lhs
returns-then-lhs c =
    λ l r f h. found_of _ _
    (binary_costs _ _ _ _ c.is_nonlinear-nonlinear.ensures _ _ _ c.max-levels.ensures c.own_weight.ensures (search rules) _ (search rules) l r (cost_of c.args.lhs _ f) (cost_of c.args.rhs _ h))

pub returns-else-lhs : goal.returns-else-lhs
returns-else-lhs c =
    λ l r f h. found_of _ _
    (binary_costs _ _ _ _ c.is_nonlinear-nonlinear.ensures _ _ _ c.max-levels.ensures c.own_weight.ensures (search rules) _ (search rules) l r (cost_of c.args.lhs _ f) (cost_of c.args.rhs _ h))
