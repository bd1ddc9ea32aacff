-- `value::values::Values` as a `Fold`: `binary` meets its contract. Assumes nothing.
use mathlib.Core.Path.{◌∙◌}
use Rattle.value.proofs.NodeLaws.{left_none, right_none, binary_found}
use Rattle.value.proofs.values.ValuesFold.binary.Goals as goal

pub returns-in_err-x : goal.returns-in_err-x
returns-in_err-x c = λ l r e f. c.from_residual.ensures ∙ left_none _ _ _ _ l r e c.in_err-x.was

pub returns-in_err-y : goal.returns-in_err-y
returns-in_err-y c = λ l r e f. c.from_residual-in_err-y.ensures ∙ right_none _ _ _ _ l r e _ c.in_ok-x.was _ f c.in_err-y.was

pub returns : goal.returns
returns c = λ l r e f. binary_found _ _ _ _ l r e _ c.in_ok-x.was _ f _ _ c.in_ok-y.was c.binary_value.ensures
