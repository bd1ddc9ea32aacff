-- Both orders of two trees are tried. Assumes nothing.
use Rattle.std.specs.Prelude.{◌≡◌, Option, Some, None}
use Rattle.std.proofs.Common.{sym, ap, ◌∙◌}
use Rattle.std.proofs.Math.Option as option
use Rattle.expr.specs.Expr.{Expr}
use Rattle.expr.specs.Optional.{◌or_else◌}
use Rattle.expr.specs.Trees.{tree_of}
use Rattle.expr.specs.declared.tree.Tree.{Tree}
use Rattle.atom_identity_rewrite.specs.declared.candidate.Candidate.{Candidate}
use Rattle.atom_identity_rewrite.specs.Promises.{made, EitherOrder}

module _ (answer : Tree → Tree → Option Candidate → Type 0) (a b : Tree) (m : Option Candidate) (p : answer a b m) where
  pub first_order : (c : Candidate) → m ≡ Some c → EitherOrder answer a b (Some c)
  first_order c e = record {
    is = λ f q. ap (λ (o : option.Option Expr). o or_else f (tree_of b) (tree_of a)) (ap made (sym e) ∙ q a b m p);
  }

  pub second_order : m ≡ None → (r : Option Candidate) → answer b a r → EitherOrder answer a b r
  second_order e r s = record {
    is = λ f q. q b a r s ∙ ap (λ (o : option.Option Expr). o or_else f (tree_of b) (tree_of a)) (ap made (sym e) ∙ q a b m p);
  }

module _ (answer : Tree → Tree → Option Candidate → Type 0) (a b : Tree) (r : Option Candidate) (h : EitherOrder answer a b r) where
  pub both_orders : (f : Expr → Expr → option.Option Expr) → ((x y : Tree) (o : Option Candidate) → answer x y o → made o ≡ f (tree_of x) (tree_of y)) → made r ≡ (f (tree_of a) (tree_of b) or_else f (tree_of b) (tree_of a))
  both_orders f q = h.is f q
