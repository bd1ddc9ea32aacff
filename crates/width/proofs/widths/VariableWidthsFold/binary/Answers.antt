-- `width::widths::VariableWidths` as a `Fold`: `binary` meets its contract. Assumes nothing.
use borrow.Author.Rules.{rules}
use Rattle.width.proofs.NodeLaws.{binary_widths}
use Rattle.width.proofs.widths.VariableWidthsFold.binary.Goals as goal

pub returns : goal.returns
returns c = search (rules, binary_widths)
