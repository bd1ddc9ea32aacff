-- Each goal is a law of `CallLaws`.
use Rattle.std.proofs.Common.{rules}
use Rattle.expr.specs.PartLaws.{parts}
use Rattle.atom_identity_rewrite.proofs.CallLaws.{tags}
use Rattle.atom_identity_rewrite.proofs.offer_sum.Goals as goal

ruleset laws = (rules, parts, tags)

pub bounds-node-0 : goal.bounds-node-0
bounds-node-0 c = search laws

pub returns-in-Found : goal.returns-in-Found
returns-in-Found c = search laws

pub returns-then-root-ne-NEG : goal.returns-then-root-ne-NEG
returns-then-root-ne-NEG c = search laws
