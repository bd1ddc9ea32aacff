-- `==` on two lists of words is `same_words`. Assumes nothing.
use mathlib.Core.Path.{◌≡◌, refl, ap}
use mathlib.Core.List.{List, [], ◌∷◌}
use mathlib.Core.Bool.{◌&&◌}
use Prim.Native.Nat.{ℕ}
use Rattle.std.proofs.Common.{nat_eq}
use Rattle.std.specs.Cmp.Lexicographic.{pointwise}
use Rattle.expr.specs.SameWords.{same_words}

pub pointwise_same : (xs ys : List ℕ) → pointwise nat_eq xs ys ≡ same_words xs ys
unfolding same_words
pointwise_same [] [] = refl
pointwise_same [] (y ∷ ys) = refl
pointwise_same (x ∷ xs) [] = refl
pointwise_same (x ∷ xs) (y ∷ ys) = ap (λ b. nat_eq x y && b) (pointwise_same xs ys)
