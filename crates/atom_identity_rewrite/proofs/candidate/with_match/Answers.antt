-- Each goal is a law of `OfferLaws`.
use Rattle.std.proofs.Common.{rules}
use Rattle.atom_identity_rewrite.proofs.OfferLaws.{offering}
use Rattle.atom_identity_rewrite.proofs.candidate.with_match.Goals as goal

ruleset laws = (rules, offering)

pub returns-in_default : goal.returns-in_default
returns-in_default c = search (laws, c.in_default.not-Some)

pub returns-then-left-eq0 : goal.returns-then-left-eq0
returns-then-left-eq0 c = search laws

pub returns-in-Found : goal.returns-in-Found
returns-in-Found c = search laws

pub returns-else-left-eq0 : goal.returns-else-left-eq0
returns-else-left-eq0 c = search laws
