-- `lines::keep` meets its contract. Assumes nothing.
use borrow.Author.Rules.{rules}
use Rattle.lines.proofs.KeepLaws.{keeping}
use Rattle.lines.proofs.keep.Goals as goal

ruleset laws = (rules, keeping)

pub slice_bounds-copy_from_slice-end-2 : goal.slice_bounds-copy_from_slice-end-2
slice_bounds-copy_from_slice-end-2 c = search laws

pub copy_from_slice-requires : goal.copy_from_slice-requires
copy_from_slice-requires c = search laws

pub returns-clause-used : goal.returns-clause-used
returns-clause-used c = search laws

pub returns-clause-ended : goal.returns-clause-ended
returns-clause-ended c = search laws

pub returns-clause-written : goal.returns-clause-written
returns-clause-written c = search laws
