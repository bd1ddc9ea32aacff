-- Each goal is a law of `RoleLaws`.
use Rattle.std.proofs.Common.{rules}
use Rattle.atom_identity_rewrite.proofs.RoleLaws.{roles}
use Rattle.atom_identity_rewrite.proofs.matchers.xor_of_roles.Goals as goal

ruleset laws = (rules, roles)

pub returns-then-not-roles : goal.returns-then-not-roles
returns-then-not-roles c = search laws

pub returns-in_err-l : goal.returns-in_err-l
returns-in_err-l c = search laws

pub returns-in_err-a : goal.returns-in_err-a
returns-in_err-a c = search (laws, c.in_ok-l.was, c.in_err-a.was)

pub returns-in_err-b : goal.returns-in_err-b
returns-in_err-b c = search (laws, c.in_ok-l.was, c.in_err-b.was)

pub returns : goal.returns
returns c = search (laws, c.in_ok-l.was, c.in_ok-a.was, c.in_ok-b.was)
