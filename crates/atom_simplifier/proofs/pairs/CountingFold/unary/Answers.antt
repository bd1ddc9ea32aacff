-- `atom_simplifier::pairs::Counting` as a `Fold`: `unary` meets its contract. Assumes nothing.
use borrow.Author.Rules.{rules}
use Rattle.atom_simplifier.proofs.CountingLaws.{unary_counted, pairs_of, found_of}
use Rattle.atom_simplifier.proofs.pairs.CountingFold.unary.Goals as goal

pub returns : goal.returns
returns c = λ t h. found_of _ _ (search (rules, unary_counted, pairs_of c.args.child t h))
