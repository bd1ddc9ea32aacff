-- `expr::same_words` meets its contract. Assumes nothing.
use borrow.Author.Rules.{rules}
use Rattle.expr.proofs.SameLaws.{pointwise_same}
use Rattle.expr.proofs.same_words.Goals as goal

pub returns : goal.returns
returns c = search (rules, pointwise_same)
