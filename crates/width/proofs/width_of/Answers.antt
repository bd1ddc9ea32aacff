-- `width::width_of` meets its contract. Assumes nothing.
use borrow.Author.Rules.{rules}
use Rattle.width.proofs.NodeLaws.{zero_read}
use Rattle.width.proofs.width_of.Goals as goal

pub returns : goal.returns
returns c = zero_read _ _ _ _ c.in_ok-widths_of.ensures _ (search (rules, c.unwrap_or.ensures))
