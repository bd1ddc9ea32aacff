-- `atom_simplifier::pairs::Counting` as a `Fold`: `binary` meets its contract. Assumes nothing.
use borrow.Author.Rules.{rules}
use Rattle.atom_simplifier.proofs.CountingLaws.{binary_counted, pairs_of, found_of}
use Rattle.atom_simplifier.proofs.pairs.CountingFold.binary.Goals as goal

pub returns : goal.returns
returns c = λ l r f h. found_of _ _ (search (rules, binary_counted, pairs_of c.args.left l f, pairs_of c.args.right r h))
