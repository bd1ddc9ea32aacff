-- Each goal is a law of `SortLaws`.
use Rattle.std.proofs.Common.{rules}
use Rattle.atom_identity_rewrite.proofs.SortLaws.{sorts}
use Rattle.atom_identity_rewrite.proofs.reading.sort_for_xor.Goals as goal

ruleset laws = (rules, sorts)

pub returns : goal.returns
returns c = search laws
