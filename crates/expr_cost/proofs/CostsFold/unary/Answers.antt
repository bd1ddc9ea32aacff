-- `expr_cost::Costs` as a `Fold`: `unary` meets its contract. Assumes nothing.
use borrow.Author.Rules.{rules}
use Rattle.expr_cost.proofs.NodeLaws.{unary_costs, cost_of, found_of}
use Rattle.expr_cost.proofs.CostsFold.unary.Goals as goal

pub returns : goal.returns
returns c = λ t h. found_of _ _ (search (rules, unary_costs, cost_of c.args.child t h))
