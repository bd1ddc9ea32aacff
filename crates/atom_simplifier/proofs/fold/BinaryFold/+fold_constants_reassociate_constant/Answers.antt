-- `atom_simplifier::fold::BinaryFold::fold_constants` and `reassociate_constant` meet their contracts. Assumes nothing.
use Rattle.atom_simplifier.proofs.DecideLaws.{not_some}
use Rattle.atom_simplifier.proofs.ReassociateLaws.{from_right, no_constants, from_left}
use Rattle.atom_simplifier.proofs.fold.BinaryFold.+fold_constants_reassociate_constant.Goals as goal

pub reassociate_constant-returns-in-Some : goal.reassociate_constant-returns-in-Some
reassociate_constant-returns-in-Some t c =
    from_right c.args.self.op _ _ _ _ _ _ c.into.ensures _ _ c.in_ok-l.ensures.trees _ _ c.in_ok-l.ensures.places _ c.constant_val.ensures
    _ _ c.in-Some.is c.fold_constants.ensures

pub reassociate_constant-returns-in_err-d : goal.reassociate_constant-returns-in_err-d
reassociate_constant-returns-in_err-d t c =
    no_constants c.args.self.op _ _ _ _ _ _ c.into.ensures _ _ c.in_ok-l.ensures.trees _ _ c.in_ok-l.ensures.places _ c.constant_val.ensures
    (not_some c.constant_val.result c.in_default.not-Some) _ c.constant_val-2.ensures c.in_err-d.was _ c.from_residual-in_err-d.ensures

pub reassociate_constant-returns : goal.reassociate_constant-returns
reassociate_constant-returns t c =
    from_left c.args.self.op _ _ _ _ _ _ c.into.ensures _ _ c.in_ok-l.ensures.trees _ _ c.in_ok-l.ensures.places _ c.constant_val.ensures
    (not_some c.constant_val.result c.in_default.not-Some) _ c.constant_val-2.ensures c.in_ok-l.l.tree.whole _ _ c.in_ok-d.was c.fold_constants-2.ensures
