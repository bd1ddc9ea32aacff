-- The first site: the one induction by which a property of it is proved, the whole tree after the rewrite there, the words that it changes,
-- and what it means that there is none. Assumes nothing.
use Rattle.std.specs.Prelude.{◌≡◌, length}
use Rattle.std.proofs.Math.Path.{refl, sym, ap}
use Rattle.std.proofs.Common.{◌∙◌, arith}
use mathlib.Core.List.{List, [], ◌∷◌, ◌++◌, append_assoc, append-nil}
use Rattle.std.proofs.Math.Option.{Option, none, some}
use Prim.Native.Nat.{ℕ, zero, suc, ◌+◌, ◌≤◌, ◌<◌}
use Rattle.expr.specs.Expr.{Expr, leaf, unary, binary, unary_number, unary_operand, binary_number, encode, nodes, depth}
use Rattle.expr.specs.declared.kind.Unary.{Unary}
use Rattle.expr.specs.declared.kind.Binary.{Binary}
use Rattle.expr.specs.ExprLaws.{depth_pos}
use Rattle.expr.specs.Optional.{map, ◌and_then◌}
use Rattle.expr.specs.OptionalLaws.{Every, every_at, neither, map_none, Both, both_or_else, both_on, both_and_then, both_first, both_second}
use Rattle.rewriting.specs.AtomSimplifier.{local_rewrite, Site, here, below, first_site, first_rewrite, subtree_at, replace_at}
use Rattle.rewriting.specs.ShapeLaws.{local_nodes}

-- the whole tree with the site's subtree replaced
abbrev pub after : Expr → Site → Option Expr
after t s = replace_at s.path s.replacement t

module _ (w : ℕ) where
  -- ---- the induction

  -- what makes S hold of each tree, its first site and the whole tree after the rewrite there: it holds of a local rewrite at the root, and
  -- goes up through every node
  record Climbs (S : Expr → Site → Expr → Type 0) : Type 0 where
    root : (t u : Expr) → local_rewrite w t ≡ some u → S t (here u) u
    from_one : (k : Unary) (t : Expr) (s : Site) (u : Expr) → S t s u → S (unary k t) (below 0 s) (unary k u)
    from_left : (k : Binary) (l r : Expr) (s : Site) (u : Expr) → S l s u → S (binary k l r) (below 0 s) (binary k u r)
    from_right_lem : (k : Binary) (l r : Expr) (s : Site) (u : Expr) → S r s u → S (binary k l r) (below 1 s) (binary k l u)

  module _ (S : Expr → Site → Expr → Type 0) (c : Climbs S) where
    own : (t : Expr) → Both (S t) (map here (local_rewrite w t)) (local_rewrite w t)
    own t = go (local_rewrite w t) (c.root t)
      where
        go : (o : Option Expr) → ((u : Expr) → o ≡ some u → S t (here u) u) → Both (S t) (map here o) o
        go none f = tt
        go (some u) f = f u refl

    at_site : (t : Expr) → Both (S t) (first_site w t) (first_rewrite w t)
    unfolding first_site first_rewrite
    at_site (leaf k) = own (leaf k)
    at_site (unary k t) =
        let Q = S (unary k t) in
        both_or_else Q (map (below 0) (first_site w t)) _ (map (unary k) (first_rewrite w t)) _
        (both_on (S t) Q (first_site w t) (first_rewrite w t) (c.from_one k t) (at_site t))
        (own (unary k t))
    at_site (binary k l r) =
        let Q = S (binary k l r) in
        both_or_else Q (map (below 0) (first_site w l)) _ (map (λ u. binary k u r) (first_rewrite w l)) _
        (both_on (S l) Q (first_site w l) (first_rewrite w l) (c.from_left k l r) (at_site l))
        (both_or_else Q (map (below 1) (first_site w r)) _ (map (binary k l) (first_rewrite w r)) _
        (both_on (S r) Q (first_site w r) (first_rewrite w r) (c.from_right_lem k l r) (at_site r))
        (own (binary k l r)))

  -- the same for R between each tree and the tree after the rewrite at its first site
  pub record Rises (R : Expr → Expr → Type 0) : Type 0 where
    pub here : (t u : Expr) → local_rewrite w t ≡ some u → R t u
    pub above : (k : Unary) (t u : Expr) → R t u → R (unary k t) (unary k u)
    pub left : (k : Binary) (l r u : Expr) → R l u → R (binary k l r) (binary k u r)
    pub right : (k : Binary) (l r u : Expr) → R r u → R (binary k l r) (binary k l u)

  pub at_first : {R : Expr → Expr → Type 0} → Rises R → (t u : Expr) → first_rewrite w t ≡ some u → R t u
  at_first {R} p t u e =
      every_at (R t) (first_rewrite w t) (both_second (S t) (R t) (first_site w t) (first_rewrite w t) (λ s v h. h) (at_site S climbs t)) e
    where
      S : Expr → Site → Expr → Type 0
      S t s u = R t u

      climbs : Climbs S
      climbs = record {
        root = p.here;
        from_one = λ k t s u h. p.above k t u h;
        from_left = λ k l r s u h. p.left k l r u h;
        from_right_lem = λ k l r s u h. p.right k l r u h;
      }

  -- ---- the whole tree after the rewrite

  pub first_is : (t : Expr) → first_rewrite w t ≡ (first_site w t and_then after t)
  unfolding replace_at
  first_is t = both_and_then (S t) (first_site w t) (first_rewrite w t) (after t) (λ s u h. h) (at_site S climbs t)
    where
      S : Expr → Site → Expr → Type 0
      S t s u = after t s ≡ some u

      climbs : Climbs S
      climbs = record {
        root = λ t u e. refl;
        from_one = λ k t s u h. ap (map (unary k)) h;
        from_left = λ k l r s u h. ap (map (λ v. binary k v r)) h;
        from_right_lem = λ k l r s u h. ap (map (binary k l)) h;
      }

-- ---- the words

-- a part of the words stands between a prefix and a suffix: behind a node's own two words, and in the left child's or the right child's
behind : (k o : ℕ) {xs ys : List ℕ} → xs ≡ ys → k ∷ o ∷ xs ≡ k ∷ o ∷ ys
behind k o e = ap (λ (l : List ℕ). k ∷ o ∷ l) e

on_left : {xs : List ℕ} (prefix part suffix rest : List ℕ) → xs ≡ prefix ++ (part ++ suffix) → xs ++ rest ≡ prefix ++ (part ++ (suffix ++ rest))
on_left prefix part suffix rest e = ap (λ (l : List ℕ). l ++ rest) e ∙ simp append_assoc

on_right : {xs : List ℕ} (prefix part suffix rest : List ℕ) → xs ≡ prefix ++ (part ++ suffix) → rest ++ xs ≡ (rest ++ prefix) ++ (part ++ suffix)
on_right prefix part suffix rest e = ap (λ (l : List ℕ). rest ++ l) e ∙ simp append_assoc

module _ (w : ℕ) where
  -- s is a site of t: its path leads to a subtree of t, of which the replacement is the local rewrite; the path has at least two steps less
  -- than t has levels, as a leaf is no site; the replacement has at most one node more than t; and of the words of t those of the subtree
  -- alone are replaced
  pub record IsSite (t : Expr) (s : Site) : Type 0 where
    pub subtree : Expr
    pub is_subtree : subtree_at s.path t ≡ some subtree
    pub rule : local_rewrite w subtree ≡ some s.replacement
    pub whole : Expr
    pub is_whole : after t s ≡ some whole
    pub short : length s.path + 1 < depth t
    pub few : nodes s.replacement ≤ nodes t + 1
    pub prefix : List ℕ
    pub suffix : List ℕ
    pub was : encode t ≡ prefix ++ (encode subtree ++ suffix)
    pub is : encode whole ≡ prefix ++ (encode s.replacement ++ suffix)

  -- a leaf has no local rewrite
  two_levels : (t u : Expr) → local_rewrite w t ≡ some u → 1 < depth t
  unfolding local_rewrite depth
  two_levels (leaf k) u e = every_at (λ v. 1 < depth (leaf k)) none tt e
  two_levels (unary k t) u e = omega (arith, depth_pos t)
  two_levels (binary k l r) u e = omega (arith, depth_pos l)

  sites : Climbs w (λ (t : Expr) (s : Site) (u : Expr). IsSite t s)
  unfolding subtree_at replace_at encode depth nodes
  sites = record {
    root = λ t u e. record {
      subtree = t;
      is_subtree = refl;
      rule = e;
      whole = u;
      is_whole = refl;
      short = two_levels t u e;
      few = local_nodes w t u e;
      prefix = [];
      suffix = [];
      was = sym (append-nil (encode t));
      is = sym (append-nil (encode u));
    };
    from_one = λ k t s u i. record {
      subtree = i.subtree;
      is_subtree = i.is_subtree;
      rule = i.rule;
      whole = unary k i.whole;
      is_whole = ap (map (unary k)) i.is_whole;
      short = omega (arith, i.short);
      few = omega (arith, i.few);
      prefix = unary_number k ∷ unary_operand k ∷ i.prefix;
      suffix = i.suffix;
      was = behind (unary_number k) (unary_operand k) i.was;
      is = behind (unary_number k) (unary_operand k) i.is;
    };
    from_left = λ k l r s u i. record {
      subtree = i.subtree;
      is_subtree = i.is_subtree;
      rule = i.rule;
      whole = binary k i.whole r;
      is_whole = ap (map (λ v. binary k v r)) i.is_whole;
      short = omega (arith, i.short);
      few = omega (arith, i.few);
      prefix = binary_number k ∷ 0 ∷ i.prefix;
      suffix = i.suffix ++ encode r;
      was = behind (binary_number k) 0 (on_left i.prefix (encode i.subtree) i.suffix (encode r) i.was);
      is = behind (binary_number k) 0 (on_left i.prefix (encode s.replacement) i.suffix (encode r) i.is);
    };
    from_right_lem = λ k l r s u i. record {
      subtree = i.subtree;
      is_subtree = i.is_subtree;
      rule = i.rule;
      whole = binary k l i.whole;
      is_whole = ap (map (binary k l)) i.is_whole;
      short = omega (arith, i.short);
      few = omega (arith, i.few);
      prefix = binary_number k ∷ 0 ∷ (encode l ++ i.prefix);
      suffix = i.suffix;
      was = behind (binary_number k) 0 (on_right i.prefix (encode i.subtree) i.suffix (encode l) i.was);
      is = behind (binary_number k) 0 (on_right i.prefix (encode s.replacement) i.suffix (encode l) i.is);
    };
  }

  pub first_site_lem : (t : Expr) (s : Site) → first_site w t ≡ some s → IsSite t s
  first_site_lem t s e =
      every_at (IsSite t) (first_site w t)
      (both_first (λ s u. IsSite t s) (IsSite t) (first_site w t) (first_rewrite w t) (λ s u i. i) (at_site w _ sites t)) e

  -- ---- no site

  under_one : (k : Unary) (t : Expr) → first_site w (unary k t) ≡ none → (first_site w t ≡ none) × (local_rewrite w (unary k t) ≡ none)
  unfolding first_site
  under_one k t e =
      let p = neither (below 0) (first_site w t) _ e in
      (p.0, map_none here (local_rewrite w (unary k t)) p.1)

  under_two : (k : Binary) (l r : Expr) → first_site w (binary k l r) ≡ none → (first_site w l ≡ none) × (first_site w r ≡ none) × (local_rewrite w (binary k l r) ≡ none)
  unfolding first_site
  under_two k l r e =
      let p = neither (below 0) (first_site w l) _ e in
      let q = neither (below 1) (first_site w r) _ p.1 in
      (p.0, q.0, map_none here (local_rewrite w (binary k l r)) q.1)

  none_at : (t : Expr) → first_site w t ≡ none → (path : List ℕ) → Every (λ s. local_rewrite w s ≡ none) (subtree_at path t)
  unfolding local_rewrite subtree_at
  none_at (leaf k) e [] = refl
  none_at (leaf k) e (i ∷ path) = tt
  none_at (unary k t) e [] = (under_one k t e).1
  none_at (unary k t) e (zero ∷ path) = none_at t (under_one k t e).0 path
  none_at (unary k t) e (suc i ∷ path) = tt
  none_at (binary k l r) e [] = (under_two k l r e).2
  none_at (binary k l r) e (zero ∷ path) = none_at l (under_two k l r e).0 path
  none_at (binary k l r) e (suc zero ∷ path) = none_at r (under_two k l r e).1 path
  none_at (binary k l r) e (suc (suc i) ∷ path) = tt

  -- where there is no first site, no node of the tree has a local rewrite
  pub no_site : (t : Expr) → first_site w t ≡ none → (path : List ℕ) (s : Expr) → subtree_at path t ≡ some s → local_rewrite w s ≡ none
  no_site t e path s f = every_at (λ s. local_rewrite w s ≡ none) (subtree_at path t) (none_at t e path) f
