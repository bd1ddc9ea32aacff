-- `value::values::Values` as a `Fold`: `unary` meets its contract. Assumes nothing.
use mathlib.Core.Path.{◌∙◌}
use Rattle.value.proofs.NodeLaws.{unary_found, unary_none}
use Rattle.value.proofs.values.ValuesFold.unary.Goals as goal

pub returns-in_err-x : goal.returns-in_err-x
returns-in_err-x c = λ t e. c.from_residual.ensures ∙ unary_none _ _ _ _ t e c.in_err-x.was

pub returns : goal.returns
returns c = λ t e. unary_found _ _ _ _ t e _ _ c.in_ok-x.was c.unary_value.ensures
