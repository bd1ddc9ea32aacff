-- `atom_simplifier::local_certifiable_atom_rewrite` meets its contract. Assumes nothing.
use Rattle.arith.specs.NeedLaws.{basics}
use Rattle.atom_simplifier.proofs.CallLaws.{local_call}
use Rattle.atom_simplifier.proofs.local_certifiable_atom_rewrite.Goals as goal

ruleset laws = (basics, local_call)

pub returns-in_err-root : goal.returns-in_err-root
returns-in_err-root c = search (laws, c.in_err-root.ensures.tree)

pub returns-in_default : goal.returns-in_default
returns-in_default c = search (laws, c.in_ok-root.ensures.tree, c.in_ok-root.ensures.width)

pub write_replacement-n-requires : goal.write_replacement-n-requires
write_replacement-n-requires c = search (laws, c.in_ok-root.ensures.tree, c.in_ok-root.ensures.width)

pub returns : goal.returns
returns c = search (laws, c.in_ok-root.ensures.tree, c.in_ok-root.ensures.width)
