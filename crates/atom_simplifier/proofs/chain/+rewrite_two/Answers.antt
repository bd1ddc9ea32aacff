-- `atom_simplifier::chain::rewrite_two` meets its contract. Assumes nothing.
use Rattle.arith.specs.NeedLaws.{basics}
use Rattle.atom_simplifier.proofs.SettleLaws.{rewriting_two}
use Rattle.atom_simplifier.proofs.chain.+rewrite_two.Goals as goal

ruleset laws = (basics, rewriting_two)

pub returns-in_default : goal.returns-in_default
returns-in_default t c = search laws

pub replace-all-requires : goal.replace-all-requires
replace-all-requires t c = search laws

pub two_rewrite-next-requires : goal.two_rewrite-next-requires
two_rewrite-next-requires t c = search laws

pub overflow_sub-all : goal.overflow_sub-all
overflow_sub-all t c = search laws

pub rewrite_two-again-requires : goal.rewrite_two-again-requires
rewrite_two-again-requires t c = (search laws, (search laws, search laws, search laws))

pub replace-requires : goal.replace-requires
replace-requires t c = search (laws, c.in_default-rewrite.not-Join)

pub returns-in-Join : goal.returns-in-Join
returns-in-Join t c = search laws

pub returns-in_default-rewrite : goal.returns-in_default-rewrite
returns-in_default-rewrite t c = search (laws, c.in_default-rewrite.not-Join)
