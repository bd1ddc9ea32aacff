-- The end tree, built from the words of the input. Assumes nothing.
use mathlib.Core.Path.{◌≡◌, refl, sym, ap, ap₂, subst, ◌∙◌}
use mathlib.Core.List.{List, [], ◌∷◌, ◌++◌}
use Prim.Native.Nat.{ℕ, ◌+◌, ◌*◌, ◌-◌, ◌≤◌, ◌<◌}
use native.Mathlib.Omega.{arith}
use lib.Dec.{T}
use lib.ListN.{length, take, drop, get_or, length-append}
use lib.Seq.{take_at}
use mir.Facts.{yes_and}
use mir.Syntax.{w64}
use mir.Val.{Fits}
use borrow.Rule.Slice.PartMut.{put_mid}
use Rattle.expr.specs.declared.Arity.{Arity}
use Rattle.expr.specs.declared.Arity.TheVariants as arity
use Rattle.expr.specs.Outcome.{accepted}
use Rattle.expr.specs.declared.kind.Binary.{Binary}
use Rattle.expr.specs.Expr.{Expr, unary, binary, unary_number, unary_operand, binary_number, encode, nodes}
use Rattle.expr.specs.ExprLaws.{nodes_pos, length_encode}
use Rattle.expr.specs.Parse.{arity_of, operand_ok, operands_ok}
use Rattle.expr.specs.Answers.{children_of}
use Rattle.expr.specs.Parts.{tail, Laid}
use Rattle.expr.specs.TailLaws.{length_tail}
use Rattle.expr.specs.Front.{Leads, tree_at, left_of}
use Rattle.expr.specs.FrontLaws.{UnaryNode, leaf_node, arity_one, arity_two}
use Rattle.expr.specs.PartLaws.{tail_short}
use Rattle.expr.specs.LentLaws.{put_tail, laid_length}
use Rattle.rewriting.specs.AtomSimplifier.{first_rewrite}
use Rattle.rewriting.specs.EndLaws.{Ends, done, no_site, leaf_still, ends_left, ends_right, ends_unary}
use Rattle.rewriting.specs.NodesLaws.{ends_nodes}
use Rattle.rewriting.specs.ChainLaws.{count_small}
use Rattle.atom_simplifier.specs.Promises.{loaded, Settleable, EndsAt, Loaded, LeftDone, HasLeft, Comes, IsBuilt, RightBuilt}
use Rattle.atom_simplifier.proofs.WalkLaws.{front, front_inside, node_inside, single, node_is, child_leads, pair, left_leads, both_are, right_leads, two_length}
use Rattle.atom_simplifier.proofs.SettleLaws.{one_tree, one_settleable, one_arity, two_tree, two_settleable, two_arity, two_right}

-- ---- the node's own words

module _ (w : ℕ) (ws before first : List ℕ) (l : Laid before first (loaded w (get_or ws 0 0) (get_or ws 1 0))) where
  pub is_loaded : Loaded w ws first
  is_loaded = record { rest = drop (length (loaded w (get_or ws 0 0) (get_or ws 1 0))) before; words = l.is }

  pub loaded_long : 2 ≤ length before → length first ≡ length before
  unfolding loaded
  loaded_long h = laid_length before first (get_or ws 0 0 ∷ get_or ws 1 0 ∷ []) l h

  pub loaded_room : (n : ℕ) → 2 ≤ length before → n ≤ length before → n ≤ length first
  loaded_room n h r = omega (arith, loaded_long h)

-- the words behind the node's own
module _ (w : ℕ) (ws work : List ℕ) (l : Loaded w ws work) where
  head : work ≡ get_or ws 0 0 ∷ get_or ws 1 0 ∷ l.rest
  unfolding loaded
  head = l.words

  pub head_long : 2 ≤ length work
  head_long = omega (arith, ap length head)

-- ---- the trees of the input

module _ (ws : List ℕ) (x : Leads ws) where
  tree_room : length (encode (tree_at ws)) ≤ length ws
  tree_room = front_inside ws x (length (encode (tree_at ws))) refl

  small : length ws ≤ 1024 → nodes (tree_at ws) ≤ 1024
  small h = omega (arith, tree_room, length_encode (tree_at ws))

  pub own_room : (work : List ℕ) → length (encode (tree_at ws)) ≤ length work → 2 ≤ length work
  own_room work h = omega (arith, length_encode (tree_at ws), nodes_pos (tree_at ws))

-- an end has no more words than its tree
ends_short : (w : ℕ) (ws before after : List ℕ) (read len count : ℕ) → IsBuilt w ws before after read len count → len ≤ read
ends_short w ws before after read len count i = omega (arith, i.comes.len_is, i.read_is, length_encode i.comes.tree, length_encode (tree_at ws), ends_nodes w i.comes.ends)

-- ---- a leaf

module _ (w : ℕ) (ws : List ℕ) (x : Leads ws) (v : Arity) (h : accepted (children_of v) ≡ arity_of (get_or ws 0 0)) where
  pub leaf_built : v ≡ arity.Zero → (before first : List ℕ) → Laid before first (loaded w (get_or ws 0 0) (get_or ws 1 0)) → length (encode (tree_at ws)) ≤ length before → IsBuilt w ws before first 2 2 0
  unfolding encode
  leaf_built e before first l r =
      let f = front ws x in
      let n = leaf_node ws v h (tree_at ws) e f in
      let i = is_loaded w ws before first l in
      record {
        comes = record {
          tree = tree_at ws;
          ends = done (ap (first_rewrite w) n.is ∙ leaf_still w n.kind);
          few = omega arith;
          operands = f.operands;
          len_is = sym (ap (λ (t : Expr). length (encode t)) n.is);
          rest = i.rest;
          words = head w ws first i ∙ ap₂ (λ (k o : ℕ). k ∷ o ∷ i.rest) n.number_is n.operand_is ∙ ap (λ (t : Expr). encode t ++ i.rest) (sym n.is);
          long = loaded_long w ws before first l (own_room ws x before r);
        };
        read_is = sym (ap (λ (t : Expr). length (encode t)) n.is);
      }

-- what was built over the loaded words was built over the words before
pub built_before : (w : ℕ) (ws before first after : List ℕ) (read len count : ℕ) → length first ≡ length before → IsBuilt w ws first after read len count → IsBuilt w ws before after read len count
built_before w ws before first after read len count e i = record {
  comes = record {
    tree = i.comes.tree;
    ends = i.comes.ends;
    few = i.comes.few;
    operands = i.comes.operands;
    len_is = i.comes.len_is;
    rest = i.comes.rest;
    words = i.comes.words;
    long = i.comes.long ∙ e;
  };
  read_is = i.read_is;
}

-- ---- a node over one child

module _ (w : ℕ) (ws : List ℕ) (x : Leads ws) (e : arity_of (get_or ws 0 0) ≡ accepted 1) (first : List ℕ) (l : Loaded w ws first) where
  abbrev node : UnaryNode ws (tree_at ws)
  node = single ws x e

  is : tree_at ws ≡ unary node.kind (tree_at (tail 2 ws))
  is = node_is ws x e

  pub child_room : length (encode (tree_at ws)) ≤ length first → length (encode (tree_at (tail 2 ws))) ≤ length (tail 2 first)
  unfolding encode
  child_room r = omega (arith, length_tail 2 first, ap (λ (t : Expr). length (encode t)) is)

  module _ (second : List ℕ) (read n count : ℕ) (i : IsBuilt w (tail 2 ws) (tail 2 first) second read n count) where
    abbrev work : List ℕ
    work = put_mid 2 (length first - 2) first second

    work_is : work ≡ unary_number node.kind ∷ unary_operand node.kind ∷ (encode i.comes.tree ++ i.comes.rest)
    work_is =
        put_tail 2 first second
        ∙ ap₂ (λ (x y : List ℕ). x ++ y) (ap (take 2) (head w ws first l) ∙ ap₂ (λ (k o : ℕ). k ∷ o ∷ []) node.number_is node.operand_is) i.comes.words

    operands : T (operands_ok (unary node.kind i.comes.tree))
    unfolding operands_ok
    operands = yes_and (operand_ok (unary_number node.kind) (unary_operand node.kind)) (operands_ok i.comes.tree) node.in_range i.comes.operands

    own_length : 2 + length (encode (tree_at (tail 2 ws))) ≤ length ws
    unfolding encode
    own_length = omega (arith, tree_room ws x, ap (λ (t : Expr). length (encode t)) is)

    pub child_settleable : length ws ≤ 1024 → Settleable w work (2 + n)
    child_settleable m =
        one_settleable w node.kind i.comes.tree i.comes.rest work work_is operands (no_site w i.comes.ends) (2 + n) (omega (arith, i.comes.len_is))
        (omega (arith, ends_short w (tail 2 ws) (tail 2 first) second read n count i, i.read_is, own_length))

    pub child_arity : arity_of (get_or work 0 0) ≡ accepted 1
    child_arity = one_arity w node.kind i.comes.tree i.comes.rest work work_is operands

    pub child_len_fits : length ws ≤ 1024 → Fits w64 (2 + n)
    child_len_fits m = omega (arith, ends_short w (tail 2 ws) (tail 2 first) second read n count i, i.read_is, own_length)

    pub child_read_fits : length ws ≤ 1024 → Fits w64 (2 + read)
    child_read_fits m = omega (arith, i.read_is, own_length)

    module _ (after : List ℕ) (m count₂ : ℕ) (d : EndsAt w (tree_at work) (2 + n) work after m count₂) where
      all : Ends w (tree_at ws) d.tree (count + count₂)
      all =
          subst (λ (t : Expr). Ends w t d.tree (count + count₂)) (sym is)
          (ends_unary w node.kind (tree_at (tail 2 ws)) i.comes.tree d.tree count count₂ i.comes.ends
          (subst (λ (t : Expr). Ends w t d.tree count₂) (one_tree w node.kind i.comes.tree i.comes.rest work work_is operands) d.ends))

      work_long : length work ≡ length first
      work_long =
          ap length work_is
          ∙ omega (arith, ap length i.comes.words, i.comes.long, length_tail 2 first, head_long w ws first l)

      pub child_count_fits : length ws ≤ 1024 → Fits w64 (count + count₂)
      child_count_fits k = let c = count_small w all (small ws x k) in omega arith

      pub one_long : length after ≡ length work → length after ≡ length first
      one_long k = k ∙ work_long

      pub one_built : length ws ≤ 1024 → length after ≡ length work → IsBuilt w ws first after (2 + read) m (count + count₂)
      unfolding encode
      one_built k f = record {
        comes = record {
          tree = d.tree;
          ends = all;
          few = count_small w all (small ws x k);
          operands = d.operands;
          len_is = d.len_is;
          rest = d.between ++ drop (2 + n) work;
          words = d.words;
          long = f ∙ work_long;
        };
        read_is = omega (arith, i.read_is, ap (λ (t : Expr). length (encode t)) is);
      }

-- ---- a node over two children

module _ (w : ℕ) (ws : List ℕ) (x : Leads ws) (e : arity_of (get_or ws 0 0) ≡ accepted 2) (first : List ℕ) (l : Loaded w ws first) (room : length (encode (tree_at ws)) ≤ length first) where
  abbrev kind : Binary
  kind = (pair ws x e).kind

  operand_zero : get_or ws 1 0 ≡ 0
  unfolding encode
  operand_zero = let f = front ws x in ap (λ (v : List ℕ). get_or v 1 0) (f.words ∙ ap (λ (t : Expr). encode t ++ f.rest) (pair ws x e).is)

  pub left_room : length (encode (tree_at (tail 2 ws))) ≤ length (tail 2 first)
  left_room = omega (arith, two_length ws x e (2 + length (encode (tree_at (tail 2 ws)))) refl, length_tail 2 first)

  module _ (second : List ℕ) (read n count : ℕ) (i : IsBuilt w (tail 2 ws) (tail 2 first) second read n count) where
    from : 2 + read ≡ 2 + length (encode (tree_at (tail 2 ws)))
    from = omega (arith, i.read_is)

    lengths : length (encode (tree_at ws)) ≡ 2 + read + length (encode (tree_at (tail (2 + read) ws)))
    lengths = two_length ws x e (2 + read) from

    abbrev half : List ℕ
    half = put_mid 2 (length first - 2) first second

    half_is : half ≡ binary_number kind ∷ 0 ∷ (encode i.comes.tree ++ i.comes.rest)
    half_is =
        put_tail 2 first second
        ∙ ap₂ (λ (x y : List ℕ). x ++ y) (ap (take 2) (head w ws first l) ∙ ap₂ (λ (k o : ℕ). k ∷ o ∷ []) (pair ws x e).number_is operand_zero) i.comes.words

    half_long : length half ≡ length first
    half_long = ap length half_is ∙ omega (arith, ap length i.comes.words, i.comes.long, length_tail 2 first, head_long w ws first l)

    less : n ≤ read
    less = ends_short w (tail 2 ws) (tail 2 first) second read n count i

    pub right_begins : Leads (tail (2 + read) ws)
    right_begins = right_leads ws x e (2 + read) from

    pub from_inside : 2 + read ≤ length ws
    from_inside = omega (arith, lengths, tree_room ws x)

    pub from_fits : length ws ≤ 1024 → Fits w64 (2 + read)
    from_fits h = omega (arith, from_inside)

    pub from_scaled : length ws ≤ 1024 → Fits w64 ((2 + read) * 8)
    from_scaled h = omega (arith, from_inside)

    pub at_fits : length ws ≤ 1024 → Fits w64 (2 + n)
    at_fits h = omega (arith, from_inside, less)

    left_done : LeftDone w kind i.comes.tree half (2 + n)
    left_done = record { rest = i.comes.rest; words = half_is; at_is = omega (arith, i.comes.len_is); operands = i.comes.operands; still = no_site w i.comes.ends }

    pub has_left : HasLeft w half (2 + n)
    has_left = record { kind = kind; left = i.comes.tree; done = left_done }

    pub right_room : 2 + n + length (encode (tree_at (tail (2 + read) ws))) ≤ length half
    right_room = omega (arith, half_long, lengths, room, less)

    pub right_short : length ws ≤ 1024 → 2 + n + length (encode (tree_at (tail (2 + read) ws))) ≤ 1024
    right_short h = omega (arith, lengths, tree_room ws x, less)

    module _ (after : List ℕ) (read₂ m count₂ : ℕ) (j : RightBuilt w (tail (2 + read) ws) (2 + n) half after read₂ m count₂) where
      end : Comes w (binary kind i.comes.tree (tree_at (tail (2 + read) ws))) half after m count₂
      end = j.comes kind i.comes.tree left_done

      all_two : Ends w (tree_at ws) end.tree (count + count₂)
      all_two =
          subst (λ (t : Expr). Ends w t end.tree (count + count₂)) (sym (both_are ws x e (2 + read) from))
          (ends_left w kind (tree_at (tail 2 ws)) (tree_at (tail (2 + read) ws)) i.comes.tree end.tree count count₂ i.comes.ends end.ends)

      pub two_read_fits : length ws ≤ 1024 → Fits w64 (2 + read + read₂)
      two_read_fits h = omega (arith, j.read_is, lengths, tree_room ws x)

      pub two_count_fits : Fits w64 (count + count₂)
      two_count_fits = omega (arith, i.comes.few, end.few)

      pub two_long : length after ≡ length first
      two_long = end.long ∙ half_long

      pub two_built : length ws ≤ 1024 → IsBuilt w ws first after (2 + read + read₂) m (count + count₂)
      two_built h = record {
        comes = record {
          tree = end.tree;
          ends = all_two;
          few = count_small w all_two (small ws x h);
          operands = end.operands;
          len_is = end.len_is;
          rest = end.rest;
          words = end.words;
          long = two_long;
        };
        read_is = omega (arith, j.read_is, lengths);
      }

-- ---- the right child and the node

module _ (w : ℕ) (ws work : List ℕ) (at : ℕ) (k : Binary) (l : Expr) (h : LeftDone w k l work at) (second : List ℕ) (read n count : ℕ) (i : IsBuilt w ws (tail at work) second read n count) where
  abbrev over : List ℕ
  over = put_mid at (length work - at) work second

  over_is : over ≡ binary_number k ∷ 0 ∷ (encode l ++ (encode i.comes.tree ++ i.comes.rest))
  over_is =
      put_tail at work second
      ∙ ap₂ (λ (x y : List ℕ). x ++ y)
      (ap (take at) h.words ∙ take_at (binary_number k ∷ 0 ∷ encode l) h.rest at (omega (arith, h.at_is)))
      i.comes.words

  over_short : n ≤ length (encode (tree_at ws))
  over_short = omega (arith, ends_short w ws (tail at work) second read n count i, i.read_is)

  pub over_fits : at + length (encode (tree_at ws)) ≤ 1024 → Fits w64 (at + n)
  over_fits g = omega (arith, over_short)

  pub over_settleable : at + length (encode (tree_at ws)) ≤ 1024 → Settleable w over (at + n)
  over_settleable g =
      two_settleable w k l i.comes.tree i.comes.rest over over_is h.operands i.comes.operands h.still (no_site w i.comes.ends) (at + n)
      (omega (arith, h.at_is, i.comes.len_is)) (omega (arith, over_short))

  pub over_arity : arity_of (get_or over 0 0) ≡ accepted 2
  over_arity = two_arity w k l i.comes.tree i.comes.rest over over_is h.operands i.comes.operands

  pub over_right : at ≡ 2 + length (encode (left_of (tree_at over)))
  over_right = two_right w k l i.comes.tree i.comes.rest over over_is h.operands i.comes.operands at h.at_is

  over_long : at ≤ length work → length over ≡ length work
  over_long g =
      ap length over_is
      ∙ omega (arith, length-append (encode l) (encode i.comes.tree ++ i.comes.rest), ap length i.comes.words, i.comes.long, length_tail at work, h.at_is)

  module _ (after : List ℕ) (m count₂ : ℕ) (d : EndsAt w (tree_at over) (at + n) over after m count₂) where
    pub right_count_fits : Fits w64 (count + count₂)
    right_count_fits = omega (arith, i.comes.few, d.few)

    over_ends : Ends w (binary k l (tree_at ws)) d.tree (count + count₂)
    over_ends =
        ends_right w k l (tree_at ws) i.comes.tree d.tree count count₂ h.still i.comes.ends
        (subst (λ (t : Expr). Ends w t d.tree count₂) (two_tree w k l i.comes.tree i.comes.rest over over_is h.operands i.comes.operands) d.ends)

    over_comes : at + length (encode (tree_at ws)) ≤ length work → at + length (encode (tree_at ws)) ≤ 1024 → length after ≡ length over → Comes w (binary k l (tree_at ws)) work after m (count + count₂)
    unfolding nodes
    over_comes g f e = record {
      tree = d.tree;
      ends = over_ends;
      few = count_small w over_ends (omega (arith, length_encode l, length_encode (tree_at ws), h.at_is));
      operands = d.operands;
      len_is = d.len_is;
      rest = d.between ++ drop (at + n) over;
      words = d.words;
      long = e ∙ over_long (omega arith);
    }

pub right_long : (w : ℕ) (ws work : List ℕ) (at : ℕ) → HasLeft w work at → (second : List ℕ) (read n count : ℕ) → IsBuilt w ws (tail at work) second read n count
    → (after : List ℕ) → at + length (encode (tree_at ws)) ≤ length work → length after ≡ length (put_mid at (length work - at) work second) → length after ≡ length work
right_long w ws work at h second read n count i after g e = e ∙ over_long w ws work at h.kind h.left h.done second read n count i (omega arith)

pub right_built : (w : ℕ) (ws work : List ℕ) (at : ℕ) (second : List ℕ) (read n count : ℕ) → IsBuilt w ws (tail at work) second read n count
    → let over = put_mid at (length work - at) work second in
    (after : List ℕ) (m count₂ : ℕ) → EndsAt w (tree_at over) (at + n) over after m count₂
    → at + length (encode (tree_at ws)) ≤ length work → at + length (encode (tree_at ws)) ≤ 1024 → length after ≡ length over → RightBuilt w ws at work after read m (count + count₂)
right_built w ws work at second read n count i after m count₂ d g f e = record {
  comes = λ k l h. over_comes w ws work at k l h second read n count i after m count₂ d g f e;
  read_is = i.read_is;
}

-- ---- places

module _ (ws work : List ℕ) (at : ℕ) (g : at + length (encode (tree_at ws)) ≤ length work) where
  pub place_inside : at ≤ length work
  place_inside = omega arith

  pub behind_room : length (encode (tree_at ws)) ≤ length (tail at work)
  behind_room = omega (arith, length_tail at work)

  pub place_scaled : at + length (encode (tree_at ws)) ≤ 1024 → Fits w64 (at * 8)
  place_scaled f = omega arith

-- ---- the measure falls from call to call

pub node_falls : (ws : List ℕ) (m : ℕ) → 2 * length ws + 1 ≡ m → 2 * length ws < m
node_falls ws m e = omega arith

pub part_falls : (ws : List ℕ) → Leads ws → (from m : ℕ) → 2 * length ws ≡ m → 2 ≤ from → 2 * length (tail from ws) + 1 < m
part_falls ws s from m e h = omega (arith, length_tail from ws, node_inside ws s)

pub right_falls : (ws : List ℕ) (m : ℕ) → 2 * length ws + 2 ≡ m → 2 * length ws + 1 < m
right_falls ws m e = omega arith

pub part_right_falls : (ws : List ℕ) → Leads ws → (from m : ℕ) → 2 * length ws ≡ m → 2 ≤ from → 2 * length (tail from ws) + 2 < m
part_right_falls ws s from m e h = omega (arith, length_tail from ws, node_inside ws s)

pub two_least : (n : ℕ) → 2 ≤ 2 + n
two_least n = omega arith

pub ruleset building = (node_inside, own_room, is_loaded, loaded_long, loaded_room, leaf_built, arity_one, arity_two, built_before, node_falls)

pub ruleset building_one = (node_inside, head_long, child_leads, tail_short, child_room, child_settleable, child_arity, child_len_fits, child_read_fits, child_count_fits, one_long, one_built, part_falls, two_least)

pub ruleset building_right = (place_inside, behind_room, place_scaled, over_fits, over_settleable, over_arity, over_right, right_count_fits, right_long, right_built, right_falls)

pub ruleset building_two = (node_inside, head_long, left_leads, tail_short, left_room, right_begins, from_inside, from_fits, from_scaled, at_fits, has_left, right_room, right_short, two_read_fits, two_count_fits, two_long, two_built, part_falls, part_right_falls, two_least)
