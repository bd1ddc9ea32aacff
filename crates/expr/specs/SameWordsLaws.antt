-- `same_words` decides equality of words, and so of trees. Assumes nothing.
use Rattle.std.specs.Prelude.{◌≡◌, refl, List, [], ◌∷◌, ℕ, T, eqb}
use Rattle.std.proofs.Common.{ap, ap₂, subst, eqb→eq}
use Rattle.std.proofs.Math.Dec.{eqb_refl}
use Rattle.std.proofs.Math.Facts.{and_yes, yes_and}
use Rattle.expr.specs.Expr.{Expr, encode}
use Rattle.expr.specs.ExprLaws.{encode_injective}
use Rattle.expr.specs.SameWords.{same_words}

pub same→eq : (xs ys : List ℕ) → T (same_words xs ys) → xs ≡ ys
unfolding same_words
same→eq [] [] h = refl
same→eq [] (y ∷ ys) h = absurd h
same→eq (x ∷ xs) [] h = absurd h
same→eq (x ∷ xs) (y ∷ ys) h =
    let p = and_yes (eqb x y) (same_words xs ys) h in
    ap₂ ◌∷◌ (eqb→eq x y p.0) (same→eq xs ys p.1)

pub same_refl : (xs : List ℕ) → T (same_words xs xs)
unfolding same_words
same_refl [] = tt
same_refl (x ∷ xs) = yes_and (eqb x x) (same_words xs xs) (eqb_refl x) (same_refl xs)

pub eq→same : {xs ys : List ℕ} → xs ≡ ys → T (same_words xs ys)
eq→same {xs} e = subst (λ (l : List ℕ). T (same_words xs l)) e (same_refl xs)

-- trees are equal exactly if their words are the same
pub same→tree : (t u : Expr) → T (same_words (encode t) (encode u)) → t ≡ u
same→tree t u h = encode_injective t u (same→eq (encode t) (encode u) h)

pub tree→same : (t u : Expr) → t ≡ u → T (same_words (encode t) (encode u))
tree→same t u e = eq→same (ap encode e)
