-- `hexadecimal::number` meets its contract. Assumes nothing.
use Rattle.std.proofs.Common.{◌≡◌, subst, rules}
use Rattle.std.proofs.lemmas.Fn.{fold_over, slice_gives, fronts}
use Rattle.hexadecimal.proofs.NumberLaws.{parsed, none_read, one_read}
use Rattle.hexadecimal.proofs.number.Goals as goal

pub returns : goal.returns
returns c = subst (λ l. c.fold.result ≡ parsed l) c.iter.ensures.rest
    (fold_over fronts (λ y. y.now) _ (λ ys p. p ≡ parsed ys) _ (λ ys p b next f' e k. search (rules, one_read))
    _ _ _ _ (slice_gives c.iter.result) none_read c.fold.ensures.ran)
