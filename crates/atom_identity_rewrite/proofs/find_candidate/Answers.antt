-- Each goal is a law of `CallLaws`.
use Rattle.std.proofs.Common.{rules}
use Rattle.atom_identity_rewrite.proofs.CallLaws.{tags}
use Rattle.atom_identity_rewrite.proofs.find_candidate.Goals as goal

ruleset laws = (rules, tags)

pub returns : goal.returns
returns c = search laws
