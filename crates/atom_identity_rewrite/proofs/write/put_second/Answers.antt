-- Each goal is a law of `WriteLaws`.
use Rattle.std.proofs.Common.{rules}
use Rattle.atom_identity_rewrite.proofs.WriteLaws.{seconds}
use Rattle.atom_identity_rewrite.proofs.write.put_second.Goals as goal

ruleset laws = (rules, seconds)

pub put_first-requires : goal.put_first-requires
put_first-requires c = search laws

pub returns-then-negate-clause-laid : goal.returns-then-negate-clause-laid
returns-then-negate-clause-laid c = search laws

pub returns-then-negate-clause-count : goal.returns-then-negate-clause-count
returns-then-negate-clause-count c = search laws
