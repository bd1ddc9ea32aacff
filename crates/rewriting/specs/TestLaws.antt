-- Each test of the local rewrite as the equation that it decides. Assumes nothing.
use Rattle.std.specs.Prelude.{◌≡◌, refl, ℕ, T, eqb}
use Rattle.std.proofs.Common.{sym, subst, ◌∙◌, eqb→eq}
use Rattle.std.proofs.Math.Path.{ap}
use Rattle.std.proofs.Math.Option.{Option, some}
use Rattle.std.proofs.Math.Dec.{eqb_refl}
use Rattle.std.proofs.Math.Facts.{and_yes}
use Rattle.expr.specs.Expr.{Expr, leaf, unary, binary, unary_number, binary_number}
use Rattle.expr.specs.declared.kind.Leaf.TheVariants.{Constant, Variable}
use Rattle.expr.specs.declared.kind.Unary.{Unary}
use Rattle.expr.specs.declared.kind.Unary.TheVariants.{Not, Neg, Shr, ZExt, SExt, Trunc}
use Rattle.expr.specs.declared.kind.Binary.{Binary}
use Rattle.expr.specs.KindLaws.{same_binary}
use Rattle.expr.specs.SameWordsLaws.{same→tree, tree→same}
use Rattle.expr.specs.Optional.{◌equals_some◌}
use Rattle.rewriting.specs.AtomSimplifier.{constant, not, is_not_kind, constant_val, same_part, is_not_of}
use Rattle.expr.specs.Trees.{same_kind}

pub not_kind→eq : (k : Unary) → T (is_not_kind k) → k ≡ Not
not_kind→eq Not h = refl
not_kind→eq Neg h = absurd h
not_kind→eq (Shr n) h = absurd h
not_kind→eq (ZExt n) h = absurd h
not_kind→eq (SExt n) h = absurd h
not_kind→eq (Trunc n) h = absurd h

-- by the number of the kind
pub not_number : (k : Unary) → is_not_kind k ≡ eqb (unary_number k) 7
not_number Not = refl
not_number Neg = refl
not_number (Shr n) = refl
not_number (ZExt n) = refl
not_number (SExt n) = refl
not_number (Trunc n) = refl

pub same_kind→eq : (k j : Binary) → T (same_kind k j) → k ≡ j
same_kind→eq k j h = same_binary k j (eqb→eq (binary_number k) (binary_number j) h)

module _ (w : ℕ) where
  pub same_part→eq : (t u : Expr) → T (same_part w t u) → t ≡ u
  unfolding same_part
  same_part→eq t u h = same→tree t u h

  pub eq→same_part : (t u : Expr) → t ≡ u → T (same_part w t u)
  unfolding same_part
  eq→same_part t u e = tree→same t u e

  pub not_of→eq : (t inner : Expr) → T (is_not_of w t inner) → t ≡ not inner
  unfolding is_not_of
  not_of→eq (leaf k) inner h = absurd h
  not_of→eq (unary k t) inner h =
      let p = and_yes (is_not_kind k) (same_part w t inner) h in
      ap (λ (j : Unary). unary j t) (not_kind→eq k p.0) ∙ ap not (same_part→eq t inner p.1)
  not_of→eq (binary k l r) inner h = absurd h

  pub is_some→eq : (t : Expr) (c : ℕ) → T (constant_val w t equals_some c) → t ≡ constant c
  is_some→eq (leaf (Constant d)) c h = ap constant (eqb→eq d c h)
  is_some→eq (leaf (Variable i)) c h = absurd h
  is_some→eq (unary k t) c h = absurd h
  is_some→eq (binary k l r) c h = absurd h

  pub constant_val→eq : (t : Expr) (c : ℕ) → constant_val w t ≡ some c → t ≡ constant c
  constant_val→eq t c e = is_some→eq t c (subst (λ (o : Option ℕ). T (o equals_some c)) (sym e) (eqb_refl c))
