-- What `has_var_dep` and `is_constant_subtree` answer, from what their callees answer. Assumes nothing.
use mathlib.Core.Path.{◌≡◌, ap, ◌∙◌}
use mathlib.Core.Bool.{Bool, not}
use mathlib.Core.List.{List}
use Prim.Native.Nat.{ℕ}
use Rattle.expr.specs.Outcome.{Outcome, mapped}
use Rattle.expr.specs.OutcomeLaws.{mapped_mapped}
use Rattle.expr.specs.ExprUtils.{is_constant_subtree, has_var_dep_of}
use Rattle.expr.specs.Parse.{parse}
use Rattle.expr.proofs.VariableLaws.{constant_is}

-- the answer to one question is the other's, turned round
pub turned_round : (ws : List ℕ) (x y : Outcome Bool) → x ≡ mapped has_var_dep_of (parse ws) → y ≡ mapped not x → y ≡ mapped is_constant_subtree (parse ws)
turned_round ws x y e f = f ∙ ap (mapped not) e ∙ mapped_mapped not has_var_dep_of is_constant_subtree constant_is (parse ws)
