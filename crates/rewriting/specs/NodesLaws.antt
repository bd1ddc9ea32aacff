-- The end tree has at most the nodes of the input: De Morgan's laws add a node, and the Not that comes to stand over a Not goes. Assumes nothing.
use Rattle.std.specs.Prelude.{◌≡◌, ◌||◌, ℕ, suc, ◌+◌, ◌≤◌, ◌<◌, T}
use Rattle.std.proofs.Math.Path.{refl, ap}
use Rattle.std.proofs.Common.{◌∙◌, arith}
use Rattle.std.proofs.Math.Logic.{⊎_elim}
use Rattle.std.proofs.Math.Option.{Option, none, some}
use Rattle.std.proofs.Math.Facts.{or_yes}
use Rattle.expr.specs.Expr.{Expr, leaf, unary, binary, nodes}
use Rattle.expr.specs.declared.kind.Unary.{Unary}
use Rattle.expr.specs.declared.kind.Unary.TheVariants.{Not}
use Rattle.expr.specs.declared.kind.Binary.{Binary}
use Rattle.rewriting.specs.AtomSimplifier.{not, is_not, local_rewrite, first_rewrite}
use Rattle.rewriting.specs.TestLaws.{not_kind→eq}
use Rattle.rewriting.specs.ShapeLaws.{over, Change, less, turned_over, local_change}
use Rattle.rewriting.specs.EndLaws.{Ends, done, more, NoneBelow, by_measure, ends_exist, ends_unique, leaf_still, left_still, right_still, unary_below, binary_below, below_child, at_root_lem, ends_unary, ends_binary, not_not_ends}

module _ (w : ℕ) where
  -- the end of a tree, and the number of rewrites
  last : Expr → Expr
  last t = (ends_exist w t).0

  count : Expr → ℕ
  count t = (ends_exist w t).1

  ends : (t : Expr) → Ends w t (last t) (count t)
  unfolding last count
  ends t = (ends_exist w t).2

  stays : (t : Expr) → first_rewrite w t ≡ none → (last t ≡ t) × (count t ≡ 0)
  stays t e = ends_unique w (ends t) (done e)

  goes_on : (t s : Expr) → first_rewrite w t ≡ some s → (last t ≡ last s) × (count t ≡ suc (count s))
  goes_on t s e = ends_unique w (ends t) (more e (ends s))

  of_one : (k : Unary) (t : Expr) → (last (unary k t) ≡ last (unary k (last t))) × (count (unary k t) ≡ count t + count (unary k (last t)))
  of_one k t = ends_unique w (ends (unary k t)) (ends_unary w k t _ _ _ _ (ends t) (ends (unary k (last t))))

  of_two : (k : Binary) (l r : Expr) → (last (binary k l r) ≡ last (binary k (last l) (last r))) × (count (binary k l r) ≡ count l + count r + count (binary k (last l) (last r)))
  of_two k l r = ends_unique w (ends (binary k l r)) (ends_binary w k l r _ _ _ _ _ _ (ends l) (ends r) (ends (binary k (last l) (last r))))

  -- ---- by induction on the number of rewrites and of nodes

  measure : Expr → ℕ
  measure t = count t + nodes t

  Few : Expr → Type 0
  Few t = nodes (last t) ≤ nodes t

  abbrev FewBelow : Expr → Type 0
  FewBelow t = (s : Expr) → measure s < measure t → Few s

  -- Not over a Not without a site
  not_goes : (t : Expr) → T (is_not t) → first_rewrite w t ≡ none → nodes (last (not t)) + 1 ≡ nodes t
  unfolding nodes
  not_goes (leaf k) h e = absurd h
  not_goes (unary k t) h e = go k (not_kind→eq k h) e
    where
      go : (k : Unary) → k ≡ Not → first_rewrite w (unary k t) ≡ none → nodes (last (not (unary k t))) + 1 ≡ nodes (unary k t)
      go k p e = rw p (omega (arith, ap nodes (not_not_ends w t _ _ (rw p at e) (ends (not (not t))))))
  not_goes (binary k l r) h e = absurd h

  -- De Morgan's laws: one of the two Nots goes, so that the other is no node more
  turned : (a b : Expr) → T (is_not a || is_not b) → first_rewrite w a ≡ none → first_rewrite w b ≡ none → Few (not a) → Few (not b)
      → nodes (last (not a)) + nodes (last (not b)) ≤ nodes a + nodes b
  unfolding Few nodes
  turned a b h e f p q = ⊎_elim (λ g. omega (arith, not_goes a g e)) (λ g. omega (arith, not_goes b g f)) (or_yes (is_not a) (is_not b) h)

  few_change : (t s : Expr) → FewBelow t → NoneBelow w t → first_rewrite w t ≡ some s → Change t s → Few t
  unfolding Few nodes measure
  few_change t s again n e (less c) = let f = goes_on t s e in omega (arith, again s (omega arith), ap nodes f.0, c.fewer)
  few_change t s again n e (turned_over (over {k} {j} {a} {b} d h)) =
      let still = below_child w Not (binary k a b) n in
      let f = goes_on t s e in
      let o = of_two j (not a) (not b) in
      let m = turned a b h (left_still w k a b still) (right_still w k a b still) (again (not a) (omega arith)) (again (not b) (omega arith)) in
      omega (arith, ap nodes f.0, ap nodes o.0, again (binary j (last (not a)) (last (not b))) (omega arith))

  -- the root, where no node below it is a site
  few_here : (t : Expr) → FewBelow t → NoneBelow w t → Few t
  unfolding Few
  few_here t again h = go (local_rewrite w t) refl
    where
      go : (o : Option Expr) → local_rewrite w t ≡ o → nodes (last t) ≤ nodes t
      go none e = omega (arith, ap nodes (stays t (at_root_lem w t h ∙ e)).0)
      go (some s) e = few_change t s again h (at_root_lem w t h ∙ e) (local_change w t s e)

  -- any tree: its children first, and then the node over their ends
  few : (t : Expr) → FewBelow t → Few t
  unfolding Few nodes measure
  few (leaf k) again = omega (arith, ap nodes (stays (leaf k) (leaf_still w k)).0)
  few (unary k t) again = go (first_rewrite w t) refl
    where
      go : (o : Option Expr) → first_rewrite w t ≡ o → nodes (last (unary k t)) ≤ 1 + nodes t
      go none e = few_here (unary k t) again (unary_below w k t e)
      go (some s) e =
          let f = goes_on t s e in
          let o = of_one k t in
          let i = again t (omega arith) in
          omega (arith, ap nodes o.0, again (unary k (last t)) (omega arith))
  few (binary k l r) again = go (first_rewrite w l) (first_rewrite w r) refl refl
    where
      on : 1 ≤ count l + count r → nodes (last (binary k l r)) ≤ 1 + nodes l + nodes r
      on m =
          let o = of_two k l r in
          let i = again l (omega arith) in
          let j = again r (omega arith) in
          omega (arith, ap nodes o.0, again (binary k (last l) (last r)) (omega arith))

      go : (o p : Option Expr) → first_rewrite w l ≡ o → first_rewrite w r ≡ p → nodes (last (binary k l r)) ≤ 1 + nodes l + nodes r
      go none none e f = few_here (binary k l r) again (binary_below w k l r e f)
      go none (some s) e f = on (omega (arith, (goes_on r s f).1))
      go (some s) p e f = on (omega (arith, (goes_on l s e).1))

  pub ends_nodes : {t u : Expr} {k : ℕ} → Ends w t u k → nodes u ≤ nodes t
  unfolding Few
  ends_nodes {t} s = omega (arith, ap nodes (ends_unique w s (ends t)).0, by_measure Few measure few t)
