-- A node whose children have no site, brought to the end of its list in its own place. Assumes nothing.
use mathlib.Core.Path.{◌≡◌, refl, sym, ap, subst, ◌∙◌}
use mathlib.Core.List.{List, [], ◌∷◌, ◌++◌, append_assoc}
use mathlib.Core.Option.{none, some}
use Prim.Native.Nat.{ℕ, suc, ◌+◌, ◌*◌, ◌-◌, ◌≤◌, ◌<◌}
use native.Mathlib.Omega.{arith}
use lib.Dec.{T}
use lib.Ieee.Bits.{is_true}
use lib.ListN.{length, drop, get_or, length-append, length-drop, take-append-drop}
use lib.Seq.{drop_at, drop-drop, length-take-le}
use mir.Facts.{yes_and}
use Rattle.std.specs.Prelude.{Some, None}
use Rattle.std.specs.Prelude as answered
use Rattle.expr.specs.Outcome.{accepted}
use Rattle.expr.specs.declared.kind.Leaf.TheVariants.{Constant}
use Rattle.expr.specs.declared.kind.Unary.{Unary}
use Rattle.expr.specs.declared.kind.Unary.TheVariants.{Not}
use Rattle.expr.specs.declared.kind.Binary.{Binary}
use Rattle.expr.specs.Expr.{Expr, leaf, unary, binary, unary_number, unary_operand, binary_number, encode, nodes}
use Rattle.expr.specs.ExprLaws.{nodes_pos, length_encode}
use Rattle.expr.specs.KindLaws.{number_arity}
use Rattle.expr.specs.Parse as kinds
use Rattle.expr.specs.Parse.{arity_of, operands_ok}
use Rattle.expr.specs.Parts.{part, Laid}
use Rattle.expr.specs.Front.{Front, Exactly, Whole, tree_at, left_of, right_of}
use Rattle.expr.specs.FrontLaws.{front_length}
use Rattle.expr.specs.PartLaws.{front_tree, front_part, starts_front, exact_tree, exact_whole}
use Rattle.expr.specs.SubtreeLaws.{even_part}
use Rattle.rewriting.specs.AtomSimplifier.{constant, not, local_rewrite, first_rewrite}
use Rattle.rewriting.specs.ShapeLaws.{Less, over, Change, less, turned_over, local_change}
use Rattle.rewriting.specs.KeptLaws.{local_operands}
use Rattle.rewriting.specs.EndLaws.{Ends, done, NoneBelow, leaf_still, unary_below, binary_below, ends_here, ends_local, part_still}
use Rattle.rewriting.specs.ChainLaws.{count_small}
use Rattle.atom_simplifier.specs.declared.local.Decision.{Decision}
use Rattle.atom_simplifier.specs.declared.local.Decision.TheVariants as local
use Rattle.atom_simplifier.specs.declared.local.Decision.TheVariants.{Join}
use Rattle.atom_simplifier.specs.Promises.{Holds, Joined, Makes, Decides, Writes, Replaceable, Settleable, EndsAt}
use Rattle.atom_simplifier.proofs.DecideLaws.{not_some, none_decided, some_decided, within_inside}

-- the words xs, laid over words that are those of ws from `reach` on
module _ (ws mid after xs : List ℕ) (reach n : ℕ) (l : Laid mid after xs) (e : n ≡ length xs) (h : n ≤ reach) where
  pub covered : drop reach mid ≡ drop reach ws → after ≡ xs ++ (part n reach mid ++ drop reach ws)
  covered f =
      let g : n + (reach - n) ≡ reach = omega arith in
      l.is
      ∙ ap (λ (v : List ℕ). xs ++ v)
      (ap (λ (i : ℕ). drop i mid) (sym e)
      ∙ sym (take-append-drop (reach - n) (drop n mid))
      ∙ ap (λ (v : List ℕ). part n reach mid ++ v) (drop-drop (reach - n) n mid ∙ ap (λ (i : ℕ). drop i mid) g ∙ f))

  pub covers : reach ≤ length mid → n + length (part n reach mid) ≡ reach
  covers g = omega (arith, length-take-le (reach - n) (drop n mid) (omega (arith, length-drop n mid)))

-- the words are as many as before
pub ends_long : (w : ℕ) (t : Expr) (reach : ℕ) (before after : List ℕ) (len count : ℕ) → EndsAt w t reach before after len count → reach ≤ length before → length after ≡ length before
ends_long w t reach before after len count e h =
    ap length e.words
    ∙ omega (arith, length-append (encode e.tree) (e.between ++ drop reach before), length-append e.between (drop reach before), length-drop reach before, e.len_is, e.reaches)

-- ---- the node at the front

-- the first word of a tree is not that of what follows it
pub first_word : (t : Expr) (vs : List ℕ) → get_or (encode t ++ vs) 0 0 ≡ get_or (encode t) 0 0
unfolding encode
first_word (leaf k) vs = refl
first_word (unary k t) vs = refl
first_word (binary k l r) vs = refl

module _ (w : ℕ) (ws : List ℕ) (len : ℕ) (r : Settleable w ws len) where
  own : Front ws (tree_at ws)
  own = starts_front ws r.starts

  pub exact : Exactly (part 0 len ws) (tree_at ws)
  exact = front_part ws (tree_at ws) own len r.len_is

  pub settleable_inside : len ≤ length ws
  settleable_inside = omega (arith, front_length ws (tree_at ws) own, r.len_is)

  pub settleable_whole : Whole (part 0 len ws)
  settleable_whole = exact_whole (part 0 len ws) (tree_at ws) exact

  pub settleable_arity : (n : ℕ) → arity_of (get_or ws 0 0) ≡ accepted n → arity_of (get_or (part 0 len ws) 0 0) ≡ accepted n
  settleable_arity n a = ap arity_of same_word ∙ a
    where
      same_word : get_or (part 0 len ws) 0 0 ≡ get_or ws 0 0
      same_word =
          ap (λ (l : List ℕ). get_or l 0 0) exact.words ∙ sym (first_word (tree_at ws) own.rest)
          ∙ sym (ap (λ (l : List ℕ). get_or l 0 0) own.words)

  pub node_tree : tree_at (part 0 len ws) ≡ tree_at ws
  node_tree = exact_tree (part 0 len ws) (tree_at ws) exact

  pub settleable_short : length (part 0 len ws) ≤ 1024
  settleable_short =
      let e : len - 0 ≡ len = omega arith in
      omega (arith, length-take-le (len - 0) ws (omega (arith, settleable_inside)), r.short)

  pub settleable_right : (right : ℕ) → right ≡ 2 + length (encode (left_of (tree_at ws))) → right ≡ 2 + length (encode (left_of (tree_at (part 0 len ws))))
  settleable_right right e = e ∙ ap (λ (t : Expr). 2 + length (encode (left_of t))) (sym node_tree)

  size : len ≡ 2 * nodes (tree_at ws)
  size = r.len_is ∙ length_encode (tree_at ws)

  -- ---- a node that stays

  module _ (q : answered.Option Decision) (h : Decides (part 0 len ws) q (local_rewrite w (tree_at (part 0 len ws)))) where
    decided : Decides (part 0 len ws) q (local_rewrite w (tree_at ws))
    decided = subst (λ (t : Expr). Decides (part 0 len ws) q (local_rewrite w t)) node_tree h

    pub stays : q ≡ None → EndsAt w (tree_at ws) len ws ws len 0
    stays e =
        let f = starts_front ws r.starts in
        record {
          tree = tree_at ws;
          ends = ends_here w (tree_at ws) r.below (none_decided (part 0 len ws) q _ decided e);
          few = omega arith;
          operands = f.operands;
          len_is = r.len_is;
          between = [];
          words = f.words ∙ ap (λ (l : List ℕ). encode (tree_at ws) ++ l) (sym (ap (drop len) f.words ∙ drop_at (encode (tree_at ws)) f.rest len (sym r.len_is)));
          reaches = omega arith;
        }

-- ---- what a decision in place makes

-- the decisions that `replace` is for
abbrev InPlace : Decision → Type 0
InPlace (local.Part at n) = Unit
InPlace (local.Constant c) = Unit
InPlace (local.Join at n c) = Unit
InPlace (local.DeMorgan right) = ⊥

-- and those after which nothing is left to do
abbrev Last : Decision → Type 0
Last (local.Part at n) = Unit
Last (local.Constant c) = Unit
Last (local.Join at n c) = ⊥
Last (local.DeMorgan right) = ⊥

last_in_place : (d : Decision) → Last d → InPlace d
last_in_place (local.Part at n) l = l
last_in_place (local.Constant c) l = l
last_in_place (local.Join at n c) l = absurd l
last_in_place (local.DeMorgan right) l = l

-- De Morgan's law alone adds a node
in_place_less : (node : List ℕ) (d : Decision) {t u : Expr} → Exactly node t → InPlace d → Makes node d u → Change t u → Less t u
unfolding Makes nodes
in_place_less node d x i m (less c) = c
in_place_less node d x i m (turned_over (over {k} {j} {a} {b} e f)) = absurd (go d i m)
  where
    go : (d : Decision) → InPlace d → Makes node d (binary j (not a) (not b)) → ⊥
    go (local.Part at n) i m =
        omega (arith, within_inside node (encode (binary j (not a) (not b))) at m.within, ap length x.words, length_encode (not (binary k a b)), length_encode (binary j (not a) (not b)))
    go (local.Constant c) i m = omega (arith, ap nodes m)
    go (local.Join at n c) i m = omega (arith, nodes_pos b, ap (λ (v : Expr). nodes (right_of v)) m.is)
    go (local.DeMorgan right) i m = i

module _ (node : List ℕ) (t : Expr) (x : Exactly node t) where
  -- a part at an even place, of fewer nodes than the node, has no site
  held_still : (w : ℕ) → NoneBelow w t → (at n : ℕ) (u : Expr) → Holds node at n u → nodes u < nodes t → first_rewrite w u ≡ none
  held_still w b at n u h f =
      let p = h.within in
      part_still w t u b (even_part t u p.prefix p.suffix h.half (sym x.words ∙ p.words) (sym p.place ∙ h.even)) f

  last_still : (w : ℕ) → NoneBelow w t → (d : Decision) (u : Expr) → Last d → Makes node d u → nodes u < nodes t → first_rewrite w u ≡ none
  unfolding Makes
  last_still w b (local.Part at n) u l m f = held_still w b at n u m f
  last_still w b (local.Constant c) u l m f = ap (first_rewrite w) m ∙ leaf_still w (Constant c)
  last_still w b (local.Join at n c) u l m f = absurd l
  last_still w b (local.DeMorgan right) u l m f = absurd l

  -- what the kind rules out
  module _ (d : Decision) (u : Expr) (m : Makes node d u) where
    two_last : arity_of (get_or node 0 0) ≡ accepted 2 → ((at n c : ℕ) → d ≡ local.Join at n c → ⊥) → Last d
    unfolding Makes encode
    two_last a z = go d refl m
      where
        go : (e : Decision) → d ≡ e → Makes node e u → Last e
        go (local.Part at n) f m = tt
        go (local.Constant c) f m = tt
        go (local.Join at n c) f m = absurd (z at n c f)
        go (local.DeMorgan right) f m = let y = ap (λ (l : List ℕ). arity_of (get_or l 0 0)) m.was in let q : ◌≡◌ {A = ℕ} 1 2 = cc (number_arity (kinds.one Not)) in absurd (omega arith)

    one_last : arity_of (get_or node 0 0) ≡ accepted 1 → ((right : ℕ) → d ≡ local.DeMorgan right → ⊥) → Last d
    unfolding Makes
    one_last a z = go d refl m
      where
        go : (e : Decision) → d ≡ e → Makes node e u → Last e
        go (local.Part at n) f m = tt
        go (local.Constant c) f m = tt
        go (local.Join at n c) f m = let y = ap arity_of m.number in let q : ◌≡◌ {A = ℕ} 1 2 = cc (number_arity (kinds.two m.kind)) in absurd (omega arith)
        go (local.DeMorgan right) f m = absurd (z right f)

-- ---- the node replaced

module _ (w : ℕ) (ws : List ℕ) (len : ℕ) (r : Settleable w ws len) (q : answered.Option Decision) (h : Decides (part 0 len ws) q (local_rewrite w (tree_at (part 0 len ws)))) (d : Decision) (s : q ≡ Some d) where
  abbrev node : List ℕ
  node = part 0 len ws

  abbrev t : Expr
  t = tree_at ws

  module _ (i : InPlace d) where
    made : (u : Expr) × (local_rewrite w t ≡ some u) × Makes node d u
    made = some_decided node q _ (decided w ws len r q h) d s

    abbrev u : Expr
    u = made.0

    fewer : nodes u < nodes t
    fewer = (in_place_less node d (exact w ws len r) i made.2 (local_change w t u made.1)).fewer

    shorter : length (encode u) < len
    shorter = omega (arith, fewer, size w ws len r, length_encode u)

    replaceable : Replaceable ws len d
    replaceable = record {
      inside = settleable_inside w ws len r;
      whole = settleable_whole w ws len r;
      writable = record { tree = u; makes = made.2; fits = omega (arith, shorter) };
    }

    module _ (after : List ℕ) (n : ℕ) (wr : Writes node d ws after n) where
      n_is : n ≡ length (encode u)
      n_is = wr.count u made.2

      -- the words of the node that are left over
      abbrev left_over : List ℕ
      left_over = part n len ws

      replaced : after ≡ encode u ++ (left_over ++ drop len ws)
      replaced = covered ws ws after (encode u) len n (wr.laid u made.2) n_is (omega (arith, shorter, n_is)) refl

      reaches : n + length left_over ≡ len
      reaches = covers ws ws after (encode u) len n (wr.laid u made.2) n_is (omega (arith, shorter, n_is)) (settleable_inside w ws len r)

      operands : T (operands_ok u)
      operands = subst T (sym (local_operands w t u made.1 (is_true (operands_ok t) (starts_front ws r.starts).operands))) tt

      after_front : Front after u
      after_front = record { rest = left_over ++ drop len ws; words = replaced; operands = operands }

      -- nothing is left to do
      last_settled : Last d → EndsAt w t len ws after n 1
      last_settled l = record {
        tree = u;
        ends = ends_local w t u u 0 r.below made.1 (done (last_still node t (exact w ws len r) w r.below d u l made.2 fewer));
        few = omega arith;
        operands = operands;
        len_is = n_is;
        between = left_over;
        words = replaced;
        reaches = reaches;
      }

      after_tree : tree_at after ≡ u
      after_tree = front_tree after u after_front

      -- what comes of the replacement is what comes of the node
      again_settled : (second : List ℕ) (m count : ℕ) → EndsAt w (tree_at after) n after second m count → EndsAt w t len ws second m (1 + count)
      again_settled second m count e = record {
        tree = e.tree;
        ends = all;
        few = count_small w all (omega (arith, size w ws len r, r.short));
        operands = e.operands;
        len_is = e.len_is;
        between = e.between ++ left_over;
        words =
            e.words
            ∙ ap (λ (l : List ℕ). encode e.tree ++ (e.between ++ l)) (ap (drop n) replaced ∙ drop_at (encode u) (left_over ++ drop len ws) n (sym n_is))
            ∙ ap (λ (l : List ℕ). encode e.tree ++ l) (sym (append_assoc e.between left_over (drop len ws)));
        reaches = omega (arith, e.reaches, reaches, length-append e.between left_over);
      }
        where
          all : Ends w t e.tree (1 + count)
          all =
              subst (Ends w t e.tree) (let f : suc count ≡ 1 + count = omega arith in f)
              (ends_local w t u e.tree count r.below made.1 (subst (λ (v : Expr). Ends w v e.tree count) after_tree e.ends))

  -- ---- `settle_two`

  module _ (a : arity_of (get_or ws 0 0) ≡ accepted 2) (z : (at n c : ℕ) → d ≡ Join at n c → ⊥) where
    two_rests : Last d
    two_rests =
        let m = some_decided node q _ (decided w ws len r q h) d s in
        two_last node t (exact w ws len r) d m.0 m.2 (settleable_arity w ws len r 2 a) z

    pub two_replaceable : Replaceable ws len d
    two_replaceable = replaceable (last_in_place d two_rests)

    pub two_settled : (after : List ℕ) (n : ℕ) → Writes node d ws after n → EndsAt w t len ws after n 1
    two_settled after n wr = last_settled (last_in_place d two_rests) after n wr two_rests

  -- ---- `settle_one`

  module _ (a : arity_of (get_or ws 0 0) ≡ accepted 1) (z : (right : ℕ) → d ≡ local.DeMorgan right → ⊥) where
    one_rests : Last d
    one_rests =
        let m = some_decided node q _ (decided w ws len r q h) d s in
        one_last node t (exact w ws len r) d m.0 m.2 (settleable_arity w ws len r 1 a) z

    pub one_replaceable : Replaceable ws len d
    one_replaceable = replaceable (last_in_place d one_rests)

    pub one_settled : (after : List ℕ) (n : ℕ) → Writes node d ws after n → EndsAt w t len ws after n 1
    one_settled after n wr = last_settled (last_in_place d one_rests) after n wr one_rests

  -- ---- the node's kind over a part and a constant, which is looked at again

  module _ (at m c : ℕ) (e : d ≡ Join at m c) where
    joins : InPlace d
    joins = subst InPlace (sym e) tt

    pub join_replaceable : Replaceable ws len d
    join_replaceable = replaceable joins

    is_join : Joined node at m c (u joins)
    unfolding Makes
    is_join = subst (λ (x : Decision). Makes node x (u joins)) e (made joins).2

    operand_less : nodes is_join.operand < nodes t
    unfolding nodes
    operand_less = omega (arith, fewer joins, ap nodes is_join.is)

    module _ (after : List ℕ) (n : ℕ) (wr : Writes node d ws after n) where
      -- the tree that is looked at again
      again_is : tree_at after ≡ binary is_join.kind is_join.operand (constant c)
      again_is = after_tree joins after n wr ∙ is_join.is

      pub again_settleable : Settleable w after n
      again_settleable = record {
        starts = record { tree = u joins; front = after_front joins after n wr };
        len_is = n_is joins after n wr ∙ ap (λ (v : Expr). length (encode v)) (sym (after_tree joins after n wr));
        short = omega (arith, shorter joins, n_is joins after n wr, r.short);
        below =
            subst (NoneBelow w) (sym again_is)
            (binary_below w is_join.kind is_join.operand (constant c)
            (held_still node t (exact w ws len r) w r.below at m is_join.operand is_join.holds operand_less) (leaf_still w (Constant c)));
      }

      pub again_arity : arity_of (get_or after 0 0) ≡ accepted 2
      unfolding encode
      again_arity =
          ap (λ (l : List ℕ). arity_of (get_or l 0 0)) (replaced joins after n wr ∙ ap (λ (v : Expr). encode v ++ (left_over joins after n wr ++ drop len ws)) is_join.is)
          ∙ number_arity (kinds.two is_join.kind)

      again_size : n ≡ 4 + length (encode is_join.operand)
      unfolding encode
      again_size = n_is joins after n wr ∙ ap (λ (v : Expr). length (encode v)) is_join.is ∙ omega (arith, length-append (encode is_join.operand) (encode (constant c)))

      -- the constant's words are the last two
      pub again_right : n - 2 ≡ 2 + length (encode (left_of (tree_at after)))
      again_right = omega (arith, again_size, ap (λ (v : Expr). length (encode (left_of v))) again_is)

      pub again_falls : (k : ℕ) → len ≡ k → n < k
      again_falls k f = omega (arith, shorter joins, n_is joins after n wr)

      pub again_fits : 2 ≤ n
      again_fits = omega (arith, again_size)

      pub join_settled : (second : List ℕ) (k count : ℕ) → EndsAt w (tree_at after) n after second k count → EndsAt w t len ws second k (1 + count)
      join_settled second k count f = again_settled joins after n wr second k count f

-- ---- children without a site under a node

module _ (w : ℕ) (k : Unary) (c : Expr) (rest ws : List ℕ) (e : ws ≡ unary_number k ∷ unary_operand k ∷ (encode c ++ rest)) (o : T (operands_ok (unary k c))) where
  one_front : Front ws (unary k c)
  unfolding encode
  one_front = record { rest = rest; words = e; operands = o }

  pub one_tree : tree_at ws ≡ unary k c
  one_tree = front_tree ws (unary k c) one_front

  pub one_settleable : first_rewrite w c ≡ none → (n : ℕ) → n ≡ 2 + length (encode c) → n ≤ 1024 → Settleable w ws n
  unfolding encode
  one_settleable s n f h = record {
    starts = record { tree = unary k c; front = one_front };
    len_is = f ∙ (let g : 2 + length (encode c) ≡ length (encode (unary k c)) = omega arith in g) ∙ ap (λ (v : Expr). length (encode v)) (sym one_tree);
    short = h;
    below = subst (NoneBelow w) (sym one_tree) (unary_below w k c s);
  }

  pub one_arity : arity_of (get_or ws 0 0) ≡ accepted 1
  one_arity = ap (λ (l : List ℕ). arity_of (get_or l 0 0)) e ∙ number_arity (kinds.one k)

module _ (w : ℕ) (k : Binary) (l r : Expr) (rest ws : List ℕ) (e : ws ≡ binary_number k ∷ 0 ∷ (encode l ++ (encode r ++ rest))) (o : T (operands_ok l)) (p : T (operands_ok r)) where
  two_front : Front ws (binary k l r)
  unfolding encode operands_ok
  two_front = record {
    rest = rest;
    words = e ∙ ap (λ (v : List ℕ). binary_number k ∷ 0 ∷ v) (sym (append_assoc (encode l) (encode r) rest));
    operands = yes_and (operands_ok l) (operands_ok r) o p;
  }

  pub two_tree : tree_at ws ≡ binary k l r
  two_tree = front_tree ws (binary k l r) two_front

  pub two_settleable : first_rewrite w l ≡ none → first_rewrite w r ≡ none → (n : ℕ) → n ≡ 2 + length (encode l) + length (encode r) → n ≤ 1024 → Settleable w ws n
  unfolding encode
  two_settleable s t n f h = record {
    starts = record { tree = binary k l r; front = two_front };
    len_is = f ∙ omega (arith, length-append (encode l) (encode r)) ∙ ap (λ (v : Expr). length (encode v)) (sym two_tree);
    short = h;
    below = subst (NoneBelow w) (sym two_tree) (binary_below w k l r s t);
  }

  pub two_arity : arity_of (get_or ws 0 0) ≡ accepted 2
  two_arity = ap (λ (v : List ℕ). arity_of (get_or v 0 0)) e ∙ number_arity (kinds.two k)

  pub two_right : (n : ℕ) → n ≡ 2 + length (encode l) → n ≡ 2 + length (encode (left_of (tree_at ws)))
  two_right n f = f ∙ ap (λ (v : Expr). 2 + length (encode (left_of v))) (sym two_tree)

-- the node's own words, as a tree
pub ruleset settleable_tree = (settleable_inside, settleable_whole, settleable_arity, settleable_right, settleable_short)

pub ruleset rewriting_two = (not_some, stays, two_replaceable, two_settled, join_replaceable, again_settleable, again_arity, again_right, again_falls, again_fits, join_settled)
