-- `atom_simplifier::find_first_certifiable_atom_rewrite` meets its contract. Assumes nothing.
use Rattle.arith.specs.NeedLaws.{basics}
use Rattle.atom_simplifier.proofs.CallLaws.{site_call}
use Rattle.atom_simplifier.proofs.find_first_certifiable_atom_rewrite.Goals as goal

ruleset laws = (basics, site_call)

pub returns-in_err-tree : goal.returns-in_err-tree
returns-in_err-tree c = search (laws, c.in_err-tree.ensures.tree)

pub returns-then-path-lt-PATH_BYTES : goal.returns-then-path-lt-PATH_BYTES
returns-then-path-lt-PATH_BYTES c = search (laws, c.in_ok-tree.ensures.tree)

pub find_first_certifiable_atom_rewrite_at-requires : goal.find_first_certifiable_atom_rewrite_at-requires
find_first_certifiable_atom_rewrite_at-requires c = search (laws, c.in_ok-tree.ensures.tree)

pub write_replacement-n-requires : goal.write_replacement-n-requires
write_replacement-n-requires c = search (laws, c.in_ok-tree.ensures.tree, c.in_ok-tree.ensures.width)

pub returns-in-Continue : goal.returns-in-Continue
returns-in-Continue c = search (laws, c.in_ok-tree.ensures.tree, c.in_ok-tree.ensures.width)

pub returns-in-Break : goal.returns-in-Break
returns-in-Break c = search (laws, c.in_ok-tree.ensures.tree, c.in_ok-tree.ensures.width)
