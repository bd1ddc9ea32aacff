-- `hexadecimal::is_zeros` meets its contract. Assumes nothing.
use Rattle.std.proofs.Common.{◌≡◌, subst, rules}
use Rattle.std.proofs.lemmas.Fn.{fold_over, slice_gives, fronts}
use Rattle.hexadecimal.specs.Promises.{all_zeros}
use Rattle.hexadecimal.proofs.OperandLaws.{none_tested, one_tested}
use Rattle.hexadecimal.proofs.is_zeros.Goals as goal

pub returns : goal.returns
returns c = subst (λ l. c.fold.result ≡ all_zeros l) c.iter.ensures.rest
    (fold_over fronts (λ y. y.now) _ (λ ys zeros. zeros ≡ all_zeros ys) _ (λ ys zeros b next f' e k. search (rules, one_tested))
    _ _ _ _ (slice_gives c.iter.result) none_tested c.fold.ensures.ran)
