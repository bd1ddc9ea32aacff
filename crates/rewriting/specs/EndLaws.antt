-- The end of document 01's list and the number of rewrites that lead to it, without the trees between: how those of a tree are put together
-- from those of its parts. Assumes nothing.
use Rattle.std.specs.Prelude.{◌≡◌, ◌||◌, ℕ, zero, suc, ◌+◌, ◌*◌, ◌<◌, T}
use Rattle.std.proofs.Math.Path.{refl, ap, ap₂}
use Rattle.std.proofs.Common.{subst, ◌∙◌, arith}
use Rattle.std.proofs.Math.Option.{Option, none, some}
use Rattle.arith.specs.ChoiceLaws.{if_yes}
use Rattle.expr.specs.Expr.{Expr, leaf, unary, binary, nodes}
use Rattle.expr.specs.declared.kind.Leaf.{Leaf}
use Rattle.expr.specs.declared.kind.Unary.{Unary}
use Rattle.expr.specs.declared.kind.Unary.TheVariants.{Not}
use Rattle.expr.specs.declared.kind.Binary.{Binary}
use Rattle.expr.specs.SubtreeLaws.{◌IsIn◌, itself, in_child_lem, in_left, in_right}
use Rattle.expr.specs.Optional.{map, ◌or_else◌}
use Rattle.expr.specs.OptionalLaws.{neither, not_both, only_one}
use Rattle.rewriting.specs.AtomSimplifier.{not, is_not, de_morgan, not_rewrite, unary_rewrite, local_rewrite, first_rewrite}
use Rattle.rewriting.specs.Measures.{D}
use Rattle.rewriting.specs.ShapeLaws.{Dual, and_or_lem, or_and}
use Rattle.rewriting.specs.MeasureLaws.{first_lowers}

-- from t, k rewrites, each at the first site, lead to u, which has no site
pub data Ends (w : ℕ) : Expr → Expr → ℕ → Type 0 where
  done : {t : Expr} → first_rewrite w t ≡ none → Ends w t t 0
  more : {t s u : Expr} {k : ℕ} → first_rewrite w t ≡ some s → Ends w s u k → Ends w t u (suc k)

-- no child of the root has a site
unfoldable pub SitesBelow : ℕ → Expr → Type 0
SitesBelow w (leaf k) = Unit
SitesBelow w (unary k t) = first_rewrite w t ≡ none
SitesBelow w (binary k l r) = (first_rewrite w l ≡ none) × (first_rewrite w r ≡ none)

-- no node below the root is a site
pub record NoneBelow (w : ℕ) (t : Expr) : Type 0 where
  pub is : SitesBelow w t

-- P holds of every tree if it holds of each tree where it holds of those with a lower measure
module _ (P : Expr → Type 0) (measure : Expr → ℕ) (step : (t : Expr) → ((s : Expr) → measure s < measure t → P s) → P t) where
  below_bound : (n : ℕ) (t : Expr) → measure t < n → P t
  below_bound zero t h = absurd (omega arith)
  below_bound (suc n) t h = step t (λ s g. below_bound n s (omega arith))

  pub by_measure : (t : Expr) → P t
  by_measure t = below_bound (measure t + 1) t (omega arith)

module _ (w : ℕ) where
  -- ---- there is one end and one number of rewrites

  abbrev Ended : Expr → Type 0
  Ended t = (u : Expr) × (k : ℕ) × Ends w t u k

  pub ends_exist : (t : Expr) → (u : Expr) × (k : ℕ) × Ends w t u k
  ends_exist = by_measure Ended (λ t. nodes t + 2 * D t) (λ t again. go t again (first_rewrite w t) refl)
    where
      go : (t : Expr) → ((s : Expr) → nodes s + 2 * D s < nodes t + 2 * D t → Ended s) → (o : Option Expr) → first_rewrite w t ≡ o → Ended t
      go t again none e = (t, 0, done e)
      go t again (some s) e = let i = again s (first_lowers w t s e).falls in (i.0, suc i.1, more e i.2)

  pub no_site : {t u : Expr} {k : ℕ} → Ends w t u k → first_rewrite w u ≡ none
  no_site (done e) = e
  no_site (more e s) = no_site s

  pub ends_unique : {t u v : Expr} {k n : ℕ} → Ends w t u k → Ends w t v n → (u ≡ v) × (k ≡ n)
  ends_unique (done e) (done f) = (refl, refl)
  ends_unique (done {t} e) (more f s) = not_both (first_rewrite w t) e f
  ends_unique (more {t} e r) (done f) = not_both (first_rewrite w t) f e
  ends_unique {v = v} (more {t} e r) (more {k = n} f s) =
      let i = ends_unique r (subst (λ (x : Expr). Ends w x v n) (only_one (first_rewrite w t) f e) s) in
      (i.0, ap suc i.1)

  -- ---- no site

  pub leaf_still : (k : Leaf) → first_rewrite w (leaf k) ≡ none
  unfolding first_rewrite local_rewrite
  leaf_still k = refl

  -- a tree without a site has none in its parts
  pub child_still : (k : Unary) (t : Expr) → first_rewrite w (unary k t) ≡ none → first_rewrite w t ≡ none
  unfolding first_rewrite
  child_still k t e = (neither (unary k) (first_rewrite w t) _ e).0

  pub left_still : (k : Binary) (l r : Expr) → first_rewrite w (binary k l r) ≡ none → first_rewrite w l ≡ none
  unfolding first_rewrite
  left_still k l r e = (neither (λ u. binary k u r) (first_rewrite w l) _ e).0

  pub right_still : (k : Binary) (l r : Expr) → first_rewrite w (binary k l r) ≡ none → first_rewrite w r ≡ none
  unfolding first_rewrite
  right_still k l r e = (neither (binary k l) (first_rewrite w r) _ (neither (λ u. binary k u r) (first_rewrite w l) _ e).1).0

  pub unary_below : (k : Unary) (t : Expr) → first_rewrite w t ≡ none → NoneBelow w (unary k t)
  unfolding SitesBelow
  unary_below k t e = record { is = e }

  pub binary_below : (k : Binary) (l r : Expr) → first_rewrite w l ≡ none → first_rewrite w r ≡ none → NoneBelow w (binary k l r)
  unfolding SitesBelow
  binary_below k l r e f = record { is = (e, f) }

  pub below_child : (k : Unary) (t : Expr) → NoneBelow w (unary k t) → first_rewrite w t ≡ none
  unfolding SitesBelow
  below_child k t h = h.is

  pub below_left : (k : Binary) (l r : Expr) → NoneBelow w (binary k l r) → first_rewrite w l ≡ none
  unfolding SitesBelow
  below_left k l r h = h.is.0

  pub below_right : (k : Binary) (l r : Expr) → NoneBelow w (binary k l r) → first_rewrite w r ≡ none
  unfolding SitesBelow
  below_right k l r h = h.is.1

  -- no part below the root has a site
  in_still : {t u : Expr} → u IsIn t → first_rewrite w t ≡ none → first_rewrite w u ≡ none
  in_still itself e = e
  in_still (in_child_lem {k} {u} {t} p) e = in_still p (child_still k t e)
  in_still (in_left {k} {u} {l} {r} p) e = in_still p (left_still k l r e)
  in_still (in_right {k} {u} {l} {r} p) e = in_still p (right_still k l r e)

  pub part_still : (t u : Expr) → NoneBelow w t → u IsIn t → nodes u < nodes t → first_rewrite w u ≡ none
  part_still t u h itself n = absurd (omega arith)
  part_still t u h (in_child_lem {k} {t = s} p) n = in_still p (below_child k s h)
  part_still t u h (in_left {k} {l = l} {r} p) n = in_still p (below_left k l r h)
  part_still t u h (in_right {k} {l = l} {r} p) n = in_still p (below_right k l r h)

  -- ---- the first rewrite of a node, from those of its children

  over_one : (k : Unary) (t : Expr) (o : Option Expr) → first_rewrite w t ≡ o
      → first_rewrite w (unary k t) ≡ (map (unary k) o or_else local_rewrite w (unary k t))
  unfolding first_rewrite
  over_one k t o e = ap (λ o. map (unary k) o or_else local_rewrite w (unary k t)) e

  over_two : (k : Binary) (l r : Expr) (o p : Option Expr) → first_rewrite w l ≡ o → first_rewrite w r ≡ p
      → first_rewrite w (binary k l r) ≡ (map (λ u. binary k u r) o or_else map (binary k l) p or_else local_rewrite w (binary k l r))
  unfolding first_rewrite
  over_two k l r o p e f = ap₂ (λ o p. map (λ u. binary k u r) o or_else map (binary k l) p or_else local_rewrite w (binary k l r)) e f

  pub at_root_lem : (t : Expr) → NoneBelow w t → first_rewrite w t ≡ local_rewrite w t
  unfolding first_rewrite
  at_root_lem (leaf k) h = refl
  at_root_lem (unary k t) h = over_one k t none (below_child k t h)
  at_root_lem (binary k l r) h = over_two k l r none none (below_left k l r h) (below_right k l r h)

  -- ---- the root, where no node below it is a site

  pub ends_here : (t : Expr) → NoneBelow w t → local_rewrite w t ≡ none → Ends w t t 0
  ends_here t h e = done (at_root_lem t h ∙ e)

  pub ends_local : (t u v : Expr) (k : ℕ) → NoneBelow w t → local_rewrite w t ≡ some u → Ends w u v k → Ends w t v (suc k)
  ends_local t u v k h e s = more (at_root_lem t h ∙ e) s

  -- ---- the children first, left before right, and then the node

  -- rewrites of the part that f puts into a whole are rewrites of the whole
  ends_in : (f : Expr → Expr) → ((t u : Expr) → first_rewrite w t ≡ some u → first_rewrite w (f t) ≡ some (f u))
      → {t u v : Expr} {a m : ℕ} → Ends w t u a → Ends w (f u) v m → Ends w (f t) v (a + m)
  ends_in f up {u = u} {v = v} (done e) last = subst (Ends w (f u) v) (omega arith) last
  ends_in f up {v = v} (more {t} {s} e r) last = subst (Ends w (f t) v) (omega arith) (more (up t s e) (ends_in f up r last))

  pub ends_unary : (k : Unary) (t u v : Expr) (a m : ℕ) → Ends w t u a → Ends w (unary k u) v m → Ends w (unary k t) v (a + m)
  ends_unary k t u v a m r s = ends_in (unary k) (λ x y. over_one k x (some y)) r s

  pub ends_left : (k : Binary) (l r u v : Expr) (a m : ℕ) → Ends w l u a → Ends w (binary k u r) v m → Ends w (binary k l r) v (a + m)
  ends_left k l r u v a m p s = ends_in (λ x. binary k x r) (λ x y e. over_two k x r (some y) (first_rewrite w r) e refl) p s

  pub ends_right : (k : Binary) (l r u v : Expr) (b m : ℕ) → first_rewrite w l ≡ none → Ends w r u b → Ends w (binary k l u) v m → Ends w (binary k l r) v (b + m)
  ends_right k l r u v b m e q s = ends_in (binary k l) (λ x y. over_two k l x none (some y) e) q s

  pub ends_binary : (k : Binary) (l r l' r' v : Expr) (a b m : ℕ) → Ends w l l' a → Ends w r r' b → Ends w (binary k l' r') v m → Ends w (binary k l r) v (a + b + m)
  ends_binary k l r l' r' v a b m p q s =
      subst (Ends w (binary k l r) v) (omega arith) (ends_left k l r l' v a (b + m) p (ends_right k l' r r' v b m (no_site p) q s))

  -- ---- De Morgan's laws and double negation at the root

  dual_turns : {k j : Binary} → Dual k j → (a b : Expr) → de_morgan k a b ≡ some (binary j (not a) (not b))
  dual_turns and_or_lem a b = refl
  dual_turns or_and a b = refl

  turns : (k j : Binary) (a b : Expr) → Dual k j → T (is_not a || is_not b) → local_rewrite w (not (binary k a b)) ≡ some (binary j (not a) (not b))
  unfolding local_rewrite unary_rewrite not_rewrite
  turns k j a b d h = if_yes (is_not a || is_not b) (de_morgan k a b) none h ∙ dual_turns d a b

  -- the first operand has come to its end, and the second is still to come to it
  pub ends_de_morgan : (k j : Binary) (a b a' v : Expr) (m p : ℕ) → Dual k j → T (is_not a || is_not b) → first_rewrite w (binary k a b) ≡ none
      → Ends w (not a) a' m → Ends w (binary j a' (not b)) v p → Ends w (not (binary k a b)) v (1 + m + p)
  ends_de_morgan k j a b a' v m p d h e r s =
      subst (Ends w (not (binary k a b)) v) (omega arith)
      (ends_local (not (binary k a b)) (binary j (not a) (not b)) v (m + p) (unary_below Not (binary k a b) e) (turns k j a b d h)
      (ends_left j (not a) (not b) a' v m p r s))

  -- Not over a Not without a site is the tree below
  pub ends_not_not : (x : Expr) → first_rewrite w (not x) ≡ none → Ends w (not (not x)) x 1
  unfolding local_rewrite unary_rewrite not_rewrite
  ends_not_not x e = ends_local (not (not x)) x x 0 (unary_below Not (not x) e) refl (done (child_still Not x e))

  pub not_not_ends : (x u : Expr) (k : ℕ) → first_rewrite w (not x) ≡ none → Ends w (not (not x)) u k → u ≡ x
  not_not_ends x u k e s = (ends_unique s (ends_not_not x e)).0
