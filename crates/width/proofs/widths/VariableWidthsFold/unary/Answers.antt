-- `width::widths::VariableWidths` as a `Fold`: `unary` meets its contract. Assumes nothing.
use borrow.Author.Rules.{rules}
use Rattle.width.proofs.NodeLaws.{unary_widths}
use Rattle.width.proofs.widths.VariableWidthsFold.unary.Goals as goal

pub returns : goal.returns
returns c = search (rules, unary_widths)
