-- What the walk finds of a node, from what it has found of its children: where both numbers have 64 bits no sum wraps. Assumes nothing.
use mathlib.Core.Path.{◌≡◌, ap, ap₂, ◌∙◌}
use Prim.Native.Nat.{ℕ, ◌+◌, ◌%◌, ◌^◌, ◌≤◌, ◌<◌}
use native.Mathlib.Omega.{arith}
use Rattle.std.proofs.Common.{mod-eq_of_lt}
use Rattle.expr.specs.declared.kind.Unary.{Unary}
use Rattle.expr.specs.declared.kind.Binary.{Binary}
use Rattle.expr.specs.DomainLaws.{few_below}
use Rattle.expr.specs.Expr.{Expr, unary, binary, nodes}
use Rattle.rewriting.specs.Measures.{and_or, and_ors_of, pairs, D}
use Rattle.atom_simplifier.specs.declared.pairs.Pairs.{Pairs}
use Rattle.atom_simplifier.specs.Promises.{counted, Narrow, PairsOf}
use Rattle.atom_simplifier.specs.PairsLaws.{narrow}

-- sums that do not wrap
whole : (a b m : ℕ) → a + b ≡ m → m < 2 ^ 64 → (a + b) % 18446744073709551616 ≡ m
whole a b m e h = mod-eq_of_lt (omega arith) ∙ e

wholes : (a b c m : ℕ) → a + b + c ≡ m → m < 2 ^ 64 → ((a + b) % 18446744073709551616 + c) % 18446744073709551616 ≡ m
wholes a b c m e h = ap (λ (n : ℕ). (n + c) % 18446744073709551616) (mod-eq_of_lt (omega arith)) ∙ whole (a + b) c m e h

same_pairs : (t : Expr) (a p : ℕ) → a ≡ and_ors_of t → p ≡ D t → ◌≡◌ {A = Pairs} (record { and_ors = a; pairs = p }) (counted t)
unfolding counted
same_pairs t a p e f = λ j. record { and_ors = e j; pairs = f j }

module _ (found : Pairs) (t : Expr) (few : and_ors_of t < 2 ^ 64) (less : D t < 2 ^ 64) (c : PairsOf found t) where
  and_ors_are : found.and_ors ≡ and_ors_of t
  unfolding counted
  and_ors_are = ap (λ (p : Pairs). p.and_ors) (c.pairs_are few less)

  pairs_is : found.pairs ≡ D t
  unfolding counted
  pairs_is = ap (λ (p : Pairs). p.pairs) (c.pairs_are few less)

pub unary_counted : (child : Pairs) (k : Unary) (n : ℕ) → n ≡ pairs k child.and_ors
    → (t : Expr) → PairsOf child t
    → PairsOf (record { and_ors = child.and_ors; pairs = (n + child.pairs) % 18446744073709551616 }) (unary k t)
unfolding and_ors_of D
unary_counted child k n e t c = record {
  pairs_are = λ few less.
      let below : D t < 2 ^ 64 = omega (arith, less) in
      let a = and_ors_are child t few below c in
      same_pairs (unary k t) _ _ a (whole n _ _ (ap₂ ◌+◌ (e ∙ ap (pairs k) a) (pairs_is child t few below c)) less);
}

pub binary_counted : (left right : Pairs) (k : Binary) (n : ℕ) → n ≡ and_or k
    → (l r : Expr) → PairsOf left l → PairsOf right r
    → PairsOf (record {
      and_ors = ((n + left.and_ors) % 18446744073709551616 + right.and_ors) % 18446744073709551616;
      pairs = (left.pairs + right.pairs) % 18446744073709551616;
    }) (binary k l r)
unfolding and_ors_of D
binary_counted left right k n e l r a b = record {
  pairs_are = λ few less.
      let x : and_ors_of l < 2 ^ 64 = omega (arith, few) in
      let y : and_ors_of r < 2 ^ 64 = omega (arith, few) in
      let v : D l < 2 ^ 64 = omega (arith, less) in
      let w : D r < 2 ^ 64 = omega (arith, less) in
      same_pairs (binary k l r) _ _
      (wholes n _ _ _ (ap₂ ◌+◌ (ap₂ ◌+◌ e (and_ors_are left l x v a)) (and_ors_are right r y w b)) few)
      (whole _ _ _ (ap₂ ◌+◌ (pairs_is left l x v a) (pairs_is right r y w b)) less);
}

-- the same, as the walk's domain has it
module _ (found : Pairs) (t : Expr) where
  pub pairs_of : (Narrow t → found ≡ counted t) → PairsOf found t
  pairs_of h = record { pairs_are = λ few less. h (few, less) }

  pub found_of : PairsOf found t → Narrow t → found ≡ counted t
  found_of c n = c.pairs_are n.0 n.1

-- what is found of a tree of at most 512 nodes
pub counted_few : (found : Pairs) (t : Expr) → PairsOf found t → nodes t ≤ 512 → found ≡ counted t
counted_few found t c few = found_of found t c (narrow t (few_below t few))
