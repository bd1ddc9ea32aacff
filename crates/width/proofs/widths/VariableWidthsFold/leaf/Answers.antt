-- `width::widths::VariableWidths` as a `Fold`: `leaf` meets its contract. Assumes nothing.
use borrow.Author.Rules.{rules}
use Rattle.width.proofs.NodeLaws.{leaf_widths}
use Rattle.width.proofs.widths.VariableWidthsFold.leaf.Goals as goal

pub returns : goal.returns
returns c = search (rules, leaf_widths)
