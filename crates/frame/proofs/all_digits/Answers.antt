-- `frame::all_digits` meets its contract. Assumes nothing.
use Rattle.std.proofs.Common.{◌≡◌, subst, rules}
use Rattle.std.proofs.lemmas.Fn.{fold_over, slice_gives, fronts}
use Rattle.hexadecimal.specs.Hex.{all_digits}
use Rattle.frame.proofs.ReadLaws.{none_tested, one_tested}
use Rattle.frame.proofs.all_digits.Goals as goal

pub returns : goal.returns
returns c = subst (λ l. c.fold.result ≡ all_digits l) c.iter.ensures.rest
    (fold_over fronts (λ y. y.now) _ (λ ys good. good ≡ all_digits ys) _ (λ ys good b next f' e k. search (rules, one_tested))
    _ _ _ _ (slice_gives c.iter.result) none_tested c.fold.ensures.ran)
