-- Each goal is a law of `SortLaws`.
use Rattle.std.proofs.Common.{rules}
use Rattle.atom_identity_rewrite.proofs.SortLaws.{sorting}
use Rattle.atom_identity_rewrite.proofs.reading.sort.Goals as goal

ruleset laws = (rules, sorting)

pub returns-then-unit-before : goal.returns-then-unit-before
returns-then-unit-before c = search laws

pub returns-then-is_some-is_none : goal.returns-then-is_some-is_none
returns-then-is_some-is_none c = search laws

pub returns-then-a : goal.returns-then-a
returns-then-a c = search laws

pub returns : goal.returns
returns c = search laws
