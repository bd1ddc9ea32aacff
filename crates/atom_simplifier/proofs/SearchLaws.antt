-- The search for the first site. Assumes nothing.
use mathlib.Core.Path.{◌≡◌, refl, sym, ap, subst, ◌∙◌}
use mathlib.Core.List.{List, [], ◌∷◌, ◌++◌}
use mathlib.Core.Option.{Option, none, some}
use Prim.Native.Nat.{ℕ, suc, ◌+◌, ◌*◌, ◌-◌, ◌^◌, ◌≤◌, ◌<◌}
use native.Mathlib.Omega.{arith}
use lib.ListN.{length, take, drop, get_or, set, length-append, take-append-drop}
use lib.Seq.{take_at, drop-drop, length-take-le}
use mir.Syntax.{w64}
use mir.Val.{Fits}
use borrow.Rule.Slice.PartMut.{put_mid}
use Rattle.std.specs.Prelude.{Some, None}
use Rattle.std.specs.Prelude as answered
use Rattle.std.specs.declared.ops.ControlFlow.{ControlFlow}
use Rattle.std.specs.declared.ops.ControlFlow.TheVariants.{Continue, Break}
use Rattle.expr.specs.declared.Arity.{Arity}
use Rattle.expr.specs.declared.Arity.TheVariants as arity
use Rattle.expr.specs.declared.tree.Tree.{Tree}
use Rattle.expr.specs.Outcome.{accepted}
use Rattle.expr.specs.Expr.{Expr, unary, encode, depth}
use Rattle.expr.specs.ExprLaws.{depth_pos}
use Rattle.expr.specs.Parse.{arity_of}
use Rattle.expr.specs.Answers.{children_of}
use Rattle.expr.specs.Parts.{tail}
use Rattle.expr.specs.TailLaws.{tail_drop, length_tail}
use Rattle.expr.specs.Front.{Leads, Exactly, Whole, tree_at, left_of}
use Rattle.expr.specs.FrontLaws.{LeafNode, leaf_node, arity_one, arity_two}
use Rattle.expr.specs.PartLaws.{tail_short, exact_tree, exact_whole}
use Rattle.expr.specs.LentLaws.{put_tail}
use Rattle.expr.specs.Optional.{map, ◌or_else◌}
use Rattle.expr.specs.Trees.{tree_of}
use Rattle.rewriting.specs.AtomSimplifier as def
use Rattle.rewriting.specs.AtomSimplifier.{local_rewrite, here, below, first_site}
use Rattle.rewriting.specs.SiteLaws.{first_site_lem}
use Rattle.atom_simplifier.specs.declared.local.Decision.{Decision}
use Rattle.atom_simplifier.specs.declared.search.Site.{Site}
use Rattle.atom_simplifier.specs.Promises.{Meaning, Decides, at_root, IsFound, SearchIs, Searched}
use Rattle.atom_simplifier.proofs.WalkLaws.{front, front_inside, node_inside, single, node_is, child_leads, pair, left_leads, both_are, right_leads, two_length, right_inside}

-- ---- answers

module _ (o : Option def.Site) (n : ℕ) (before after : List ℕ) (r : ControlFlow Site ℕ) (h : Searched o n before after r) where
  told : (q : ControlFlow Site ℕ) → r ≡ q → SearchIs o n before after q
  told q e = subst (SearchIs o n before after) e h.is

  module _ (m : ℕ) (e : r ≡ Continue m) where
    pub none_is : (o ≡ none) × (m ≡ n) × (after ≡ before)
    unfolding SearchIs
    none_is = told (Continue m) e

    pub none_words : m ≡ n
    none_words = none_is.1

  pub found_is : (s : Site) → r ≡ Break s → (site : def.Site) × (o ≡ some site) × IsFound site before after s
  unfolding SearchIs
  found_is s e = told (Break s) e

-- a site that is found is the first, whatever comes after it
first_found : (o z : Option def.Site) (n m : ℕ) (before after : List ℕ) (r a : ControlFlow Site ℕ) (s : Site) → Searched o n before after r → r ≡ Break s → a ≡ Break s → Searched (o or_else z) m before after a
unfolding SearchIs
first_found o z n m before after r a s h e g =
    let f = found_is o n before after r h s e in
    record { is = subst (SearchIs (o or_else z) m before after) (sym g) (f.0, ap (λ (p : Option def.Site). p or_else z) f.1, f.2) }

-- the root, where no child has a site
at_root_lem : (w : ℕ) (root : Tree) (t : Expr) (d : answered.Option Decision) (r : ControlFlow Site ℕ) (before after : List ℕ) (o : Option def.Site) → after ≡ before → tree_of root ≡ t
    → Decides root.words.now d (local_rewrite w (tree_of root)) → r ≡ at_root root d → o ≡ map here (local_rewrite w t) → Searched o (length (encode t)) before after r
unfolding SearchIs Meaning
at_root_lem w root t d r before after o k e h g i =
    subst (λ (p : Option def.Site). Searched p (length (encode t)) before after r) (sym i)
    (subst (Searched (map here (local_rewrite w t)) (length (encode t)) before after) (sym g)
    (go d (local_rewrite w t) (subst (λ (u : Expr). Decides root.words.now d (local_rewrite w u)) e h)))
  where
    go : (c : answered.Option Decision) (p : Option Expr) → Decides root.words.now c p → Searched (map here p) (length (encode t)) before after (at_root root c)
    go None none m = record { is = (refl, ap length root.whole.words ∙ ap (λ (u : Expr). length (encode u)) e, k) }
    go None (some u) m = absurd m.is
    go (Some c) none m = absurd (let y = m.is in cc)
    go (Some c) (some u) m = record { is = (here u, refl, record { bytes = record { is = k }; levels_is = refl; makes = m.is }) }

-- ---- the node at the front, as its arity tells

module _ (ws : List ℕ) (x : Leads ws) where
  -- its words, of those that begin with them
  module _ (n : ℕ) (e : n ≡ length (encode (tree_at ws))) where
    exact : Exactly (take n ws) (tree_at ws)
    exact = let f = front ws x in record { words = ap (take n) f.words ∙ take_at (encode (tree_at ws)) f.rest n (sym e); operands = f.operands }

    whole_front : Whole (take n ws)
    whole_front = exact_whole (take n ws) (tree_at ws) exact

    same_tree : tree_at (take n ws) ≡ tree_at ws
    same_tree = exact_tree (take n ws) (tree_at ws) exact

    front_length : n ≡ length (take n ws)
    front_length = e ∙ sym (ap length exact.words)

    front_short : length ws ≤ 1024 → length (take n ws) ≤ 1024
    front_short h = omega (arith, front_length, front_inside ws x n e)

module _ (ws : List ℕ) (x : Leads ws) (v : Arity) (h : accepted (children_of v) ≡ arity_of (get_or ws 0 0)) where
  -- a leaf
  module _ (e : v ≡ arity.Zero) where
    l : LeafNode ws (tree_at ws)
    l = leaf_node ws v h (tree_at ws) e (front ws x)

    pub leaf_searched : (w : ℕ) (path : List ℕ) → Searched (first_site w (tree_at ws)) (length (encode (tree_at ws))) path path (Continue 2)
    unfolding SearchIs first_site local_rewrite encode
    leaf_searched w path = record { is = (ap (first_site w) l.is, sym (ap (λ (t : Expr). length (encode t)) l.is), refl) }

  -- a node over one child
  module _ (e : v ≡ arity.One) where
    is : tree_at ws ≡ unary (single ws x (arity_one ws v h e)).kind (tree_at (tail 2 ws))
    is = node_is ws x (arity_one ws v h e)

    pub child_depth : (path : List ℕ) → depth (tree_at ws) ≤ length path + 1 → depth (tree_at (tail 2 ws)) ≤ length path
    unfolding depth
    child_depth path d = omega (arith, ap depth is)

    module _ (n : ℕ) (c : n ≡ length (encode (tree_at (tail 2 ws)))) where
      one_words : 2 + n ≡ length (encode (tree_at ws))
      unfolding encode
      one_words = omega (arith, ap (λ (t : Expr). length (encode t)) is)

      pub one_taken : 2 + n ≡ length (take (2 + n) ws)
      one_taken = front_length ws x (2 + n) one_words

      pub one_short : length ws ≤ 1024 → length (take (2 + n) ws) ≤ 1024
      one_short = front_short ws x (2 + n) one_words

      pub one_fits : length ws ≤ 1024 → Fits w64 (2 + n)
      one_fits m = omega (arith, front_inside ws x (2 + n) one_words)

      pub one_whole : Whole (take (2 + n) ws)
      one_whole = whole_front ws x (2 + n) one_words

    module _ (w n : ℕ) (before after : List ℕ) (r : ControlFlow Site ℕ) (q : Searched (map (below 0) (first_site w (tree_at (tail 2 ws)))) n before after r) where
      sites : first_site w (tree_at ws) ≡ (map (below 0) (first_site w (tree_at (tail 2 ws))) or_else map here (local_rewrite w (tree_at ws)))
      unfolding first_site
      sites =
          ap (first_site w) is
          ∙ ap (λ (t : Expr). map (below 0) (first_site w (tree_at (tail 2 ws))) or_else map here (local_rewrite w t)) (sym is)

      pub one_found : (s : Site) → r ≡ Break s → (a : ControlFlow Site ℕ) → a ≡ Break s → Searched (first_site w (tree_at ws)) (length (encode (tree_at ws))) before after a
      one_found s f a g =
          subst (λ (o : Option def.Site). Searched o (length (encode (tree_at ws))) before after a) (sym sites)
          (first_found _ (map here (local_rewrite w (tree_at ws))) n (length (encode (tree_at ws))) before after r a s q f g)

      pub one_root : (m : ℕ) → r ≡ Continue m → n ≡ length (encode (tree_at (tail 2 ws))) → (root : Tree) (d : answered.Option Decision) (a : ControlFlow Site ℕ) → a ≡ at_root root d
          → Decides root.words.now d (local_rewrite w (tree_of root)) → root.words.now ≡ take (2 + m) ws → Searched (first_site w (tree_at ws)) (length (encode (tree_at ws))) before after a
      one_root m f c root d a i g j =
          let z = none_is _ n before after r q m f in
          at_root_lem w root (tree_at ws) d a before after (first_site w (tree_at ws)) z.2 (ap tree_at j ∙ same_tree ws x (2 + m) (one_words m (z.1 ∙ c))) g i
          (sites ∙ ap (λ (o : Option def.Site). o or_else map here (local_rewrite w (tree_at ws))) z.0)

-- a node over two children
module _ (ws : List ℕ) (x : Leads ws) (e : arity_of (get_or ws 0 0) ≡ accepted 2) where
  pub left_depth : (path : List ℕ) → depth (tree_at ws) ≤ length path + 1 → depth (tree_at (tail 2 ws)) ≤ length path
  unfolding depth
  left_depth path d = omega (arith, ap depth (both_are ws x e (2 + length (encode (tree_at (tail 2 ws)))) refl))

  module _ (right : ℕ) (c : right ≡ 2 + length (encode (tree_at (tail 2 ws)))) where
    pub right_depth : (path : List ℕ) → depth (tree_at ws) ≤ length path + 1 → depth (tree_at (tail right ws)) ≤ length path
    unfolding depth
    right_depth path d = omega (arith, ap depth (both_are ws x e right c))

    pub right_first : 1 ≤ right
    right_first = omega (arith, c)

    module _ (n : ℕ) (k : n ≡ length (encode (tree_at (tail right ws)))) where
      two_words : right + n ≡ length (encode (tree_at ws))
      two_words = omega (arith, two_length ws x e right c)

      pub two_taken : right + n ≡ length (take (right + n) ws)
      two_taken = front_length ws x (right + n) two_words

      pub two_short : length ws ≤ 1024 → length (take (right + n) ws) ≤ 1024
      two_short = front_short ws x (right + n) two_words

      pub two_fits : length ws ≤ 1024 → Fits w64 (right + n)
      two_fits i = omega (arith, front_inside ws x (right + n) two_words)

      pub two_whole : Whole (take (right + n) ws)
      two_whole = whole_front ws x (right + n) two_words

      -- the first word of a node over two children is the number of its kind
      first : get_or (take (right + n) ws) 0 0 ≡ get_or ws 0 0
      unfolding encode
      first = ap (λ (l : List ℕ). get_or l 0 0) ((exact ws x (right + n) two_words).words ∙ ap encode (pair ws x e).is) ∙ sym (pair ws x e).number_is

      pub two_arity : arity_of (get_or (take (right + n) ws) 0 0) ≡ accepted 2
      two_arity = ap arity_of first ∙ e

      pub two_place : right ≡ 2 + length (encode (left_of (tree_at (take (right + n) ws))))
      two_place =
          c ∙ ap (λ (t : Expr). 2 + length (encode (left_of t))) (sym (same_tree ws x (right + n) two_words ∙ both_are ws x e right c))

    module _ (w n : ℕ) (before after : List ℕ) (r : ControlFlow Site ℕ) (p : Searched (map (below 1) (first_site w (tree_at (tail right ws)))) n before after r) where
      abbrev o : Option def.Site
      o = map (below 1) (first_site w (tree_at (tail right ws))) or_else map here (local_rewrite w (tree_at ws))

      pub right_found : (s : Site) → r ≡ Break s → (a : ControlFlow Site ℕ) → a ≡ Break s → Searched o (length (encode (tree_at ws))) before after a
      right_found s g a i = first_found _ (map here (local_rewrite w (tree_at ws))) n (length (encode (tree_at ws))) before after r a s p g i

      pub two_root : (m : ℕ) → r ≡ Continue m → n ≡ length (encode (tree_at (tail right ws))) → (root : Tree) (d : answered.Option Decision) (a : ControlFlow Site ℕ) → a ≡ at_root root d
          → Decides root.words.now d (local_rewrite w (tree_of root)) → root.words.now ≡ take (right + m) ws → Searched o (length (encode (tree_at ws))) before after a
      two_root m g i root d a z y j =
          let n₀ = none_is _ n before after r p m g in
          at_root_lem w root (tree_at ws) d a before after o n₀.2 (ap tree_at j ∙ same_tree ws x (right + m) (two_words m (n₀.1 ∙ i))) y z
          (ap (λ (u : Option def.Site). u or_else map here (local_rewrite w (tree_at ws))) n₀.0)

  module _ (w : ℕ) where
    -- the children's sites and the root's
    both_sites : (right : ℕ) → right ≡ 2 + length (encode (tree_at (tail 2 ws)))
        → first_site w (tree_at ws) ≡ (map (below 0) (first_site w (tree_at (tail 2 ws))) or_else map (below 1) (first_site w (tree_at (tail right ws))) or_else map here (local_rewrite w (tree_at ws)))
    unfolding first_site
    both_sites right c =
        ap (first_site w) (both_are ws x e right c)
        ∙ ap (λ (t : Expr). map (below 0) (first_site w (tree_at (tail 2 ws))) or_else map (below 1) (first_site w (tree_at (tail right ws))) or_else map here (local_rewrite w t)) (sym (both_are ws x e right c))

    module _ (n : ℕ) (before mid : List ℕ) (r : ControlFlow Site ℕ) (q : Searched (map (below 0) (first_site w (tree_at (tail 2 ws)))) n before mid r) where
      pub left_found : (s : Site) → r ≡ Break s → (a : ControlFlow Site ℕ) → a ≡ Break s → Searched (first_site w (tree_at ws)) (length (encode (tree_at ws))) before mid a
      left_found s f a g =
          let right = 2 + length (encode (tree_at (tail 2 ws))) in
          subst (λ (u : Option def.Site). Searched u (length (encode (tree_at ws))) before mid a) (sym (both_sites right refl))
          (first_found _ (map (below 1) (first_site w (tree_at (tail right ws))) or_else map here (local_rewrite w (tree_at ws))) n (length (encode (tree_at ws))) before mid r a s q f g)

      module _ (m : ℕ) (f : r ≡ Continue m) (c : n ≡ length (encode (tree_at (tail 2 ws)))) where
        none_left : (map (below 0) (first_site w (tree_at (tail 2 ws))) ≡ none) × (m ≡ n) × (mid ≡ before)
        none_left = none_is _ n before mid r q m f

        pub left_place : 2 + m ≡ 2 + length (encode (tree_at (tail 2 ws)))
        left_place = omega (arith, none_left.1)

        pub left_fits : length ws ≤ 1024 → Fits w64 (2 + m)
        left_fits i = omega (arith, right_inside ws x e (2 + m) left_place)

        -- the lent bytes are as they were
        pub mid_depth : depth (tree_at ws) ≤ length before + 1 → depth (tree_at ws) ≤ length mid + 1
        mid_depth d = omega (arith, ap length none_left.2)

        pub then_right : (after : List ℕ) (y : ControlFlow Site ℕ)
            → Searched (map (below 1) (first_site w (tree_at (tail (2 + m) ws))) or_else map here (local_rewrite w (tree_at ws))) (length (encode (tree_at ws))) mid after y
            → Searched (first_site w (tree_at ws)) (length (encode (tree_at ws))) before after y
        then_right after y g =
            subst (λ (l : List ℕ). Searched (first_site w (tree_at ws)) (length (encode (tree_at ws))) l after y) none_left.2
            (subst (λ (u : Option def.Site). Searched u (length (encode (tree_at ws))) mid after y)
            (sym (both_sites (2 + m) left_place ∙ ap (λ (u : Option def.Site). u or_else map (below 1) (first_site w (tree_at (tail (2 + m) ws))) or_else map here (local_rewrite w (tree_at ws))) none_left.0)) g)

-- ---- `find_in_child`

module _ (ws : List ℕ) (by : ℕ) where
  pub part_falls : (t : ℕ) → 3 * length ws ≡ t → 1 ≤ by → by ≤ length ws → 3 * length (tail by ws) + 2 < t
  part_falls t e f g = omega (arith, length_tail by ws)

  module _ (path : List ℕ) (d : depth (tree_at (tail by ws)) ≤ length path) where
    pub path_left : 1 ≤ length path
    path_left = omega (arith, depth_pos (tree_at (tail by ws)))

    pub path_deep : depth (tree_at (tail by ws)) ≤ length (tail 1 path) + 1
    path_deep = omega (arith, length_tail 1 path, path_left)

    pub path_written : (q : List ℕ) → 0 < length (put_mid 1 (length path - 1) path q)
    path_written q = let e = ap length (put_tail 1 path q) in omega (arith, length-append (take 1 path) q, length-take-le 1 path path_left)

    module _ (w n : ℕ) (q : List ℕ) (r : ControlFlow Site ℕ) (h : Searched (first_site w (tree_at (tail by ws))) n (tail 1 path) q r) where
      pub child_none : (m : ℕ) (byte : ℕ) → r ≡ Continue m → Searched (map (below byte) (first_site w (tree_at (tail by ws)))) n path (put_mid 1 (length path - 1) path q) (Continue m)
      unfolding SearchIs
      child_none m byte e =
          let z = none_is _ n (tail 1 path) q r h m e in
          record {
            is = (
              ap (map (below byte)) z.0,
              z.1,
              put_tail 1 path q ∙ ap (λ (p : List ℕ). take 1 path ++ p) (z.2 ∙ tail_drop 1 path) ∙ take-append-drop 1 path,
            );
          }

      module _ (s : Site) (e : r ≡ Break s) where
        f : (site : def.Site) × (first_site w (tree_at (tail by ws)) ≡ some site) × IsFound site (tail 1 path) q s
        f = found_is _ n (tail 1 path) q r h s e

        pub levels_fit : length path < 2 ^ 64 → Fits w64 (s.levels + 1)
        levels_fit g = omega (arith, f.2.levels_is, (first_site_lem w (tree_at (tail by ws)) f.0 f.1).short)

        pub child_found : (byte : ℕ)
            → Searched (map (below byte) (first_site w (tree_at (tail by ws)))) n path (set (put_mid 1 (length path - 1) path q) 0 byte) (Break (record { node = s.node; levels = s.levels + 1; local = s.local }))
        unfolding SearchIs
        child_found byte = record {
          is = (
            below byte f.0,
            ap (map (below byte)) f.1,
            record {
              bytes = record {
                is =
                    ap (λ (p : List ℕ). set p 0 byte) (put_tail 1 path q) ∙ bytes path path_left
                    ∙ ap (λ (p : List ℕ). byte ∷ p) (f.2.bytes.is ∙ ap (λ (p : List ℕ). f.0.path ++ drop (length f.0.path) p) (tail_drop 1 path))
                    ∙ ap (λ (p : List ℕ). byte ∷ (f.0.path ++ p)) (drop-drop (length f.0.path) 1 path ∙ ap (λ (j : ℕ). drop j path) (let k : 1 + length f.0.path ≡ suc (length f.0.path) = omega arith in k));
              };
              levels_is = let k : s.levels + 1 ≡ suc s.levels = omega arith in k ∙ ap suc f.2.levels_is;
              makes = f.2.makes;
            },
          );
        }
          where
            bytes : (p : List ℕ) → 1 ≤ length p → set (take 1 p ++ q) 0 byte ≡ byte ∷ q
            bytes [] k = absurd (omega arith)
            bytes (y ∷ ys) k = refl

pub ruleset searching = (node_inside, arity_one, none_words, leaf_searched, child_leads, child_depth, one_taken, one_short, one_fits, one_whole, one_found, one_root, arity_two, left_leads, left_depth, left_found, left_place, left_fits, mid_depth, then_right)

pub ruleset from_right = (none_words, right_leads, right_depth, right_first, right_inside, two_taken, two_short, two_fits, two_whole, two_arity, two_place, right_found, two_root)

pub ruleset in_child = (part_falls, tail_short, path_left, path_deep, path_written, child_none, levels_fit, child_found)
