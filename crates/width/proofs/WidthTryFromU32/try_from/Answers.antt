-- `width::Width` from a `u32`: `try_from` meets its contract. Assumes nothing.
use borrow.Author.Rules.{rules}
use Rattle.width.proofs.CheckLaws.{ranging}
use Rattle.width.proofs.WidthTryFromU32.try_from.Goals as goal

ruleset laws = (rules, ranging)

pub returns-then-not-is_supported : goal.returns-then-not-is_supported
returns-then-not-is_supported c = search laws

pub invariant_of-result-clause-least : goal.invariant_of-result-clause-least
invariant_of-result-clause-least c = search laws

pub invariant_of-result-clause-most : goal.invariant_of-result-clause-most
invariant_of-result-clause-most c = search laws

pub returns : goal.returns
returns c = search laws
