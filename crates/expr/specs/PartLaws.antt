-- The parts of a node's own words that are its children. Assumes nothing.
use Rattle.std.specs.Prelude.{◌≡◌, refl, ℕ, ◌+◌, ◌*◌, ◌-◌, ◌≤◌, ◌<◌}
use Rattle.std.proofs.Common.{sym, subst, ◌∙◌, length-take, length-drop}
use Rattle.std.proofs.Math.Path.{ap}
use mathlib.Core.List.{List, [], ◌∷◌, ◌++◌, append-nil}
use native.Mathlib.Omega.{arith}
use Rattle.std.proofs.Math.ListN.{length, take, drop, get_or, length-append}
use Rattle.std.proofs.Math.Seq.{take_at, drop_at}
use Rattle.std.proofs.Math.Facts.{and_yes}
use Rattle.std.proofs.lemmas.List.{take-append-drop}
use Rattle.expr.specs.Outcome.{accepted}
use Rattle.expr.specs.Expr.{Expr, leaf, unary, binary, unary_number, unary_operand, binary_number, encode, nodes, depth}
use Rattle.expr.specs.declared.kind.Unary.{Unary}
use Rattle.expr.specs.declared.kind.Binary.{Binary}
use Rattle.expr.specs.ExprLaws.{nodes_pos, depth_nodes, length_encode}
use Rattle.expr.specs.Parse.{Kind, none, one, two, arity, arity_of, operand_ok, operands_ok, subtree}
use Rattle.expr.specs.ParseLaws.{subtree_encode}
use Rattle.expr.specs.KindLaws.{number, operand, number_arity}
use Rattle.expr.specs.Front.{Front, Starts, Leads, read_tree, tree_at, Exactly, Whole, left_of, right_of}
use Rattle.expr.specs.Parts.{tail, part}
use Rattle.expr.specs.TailLaws.{tail_drop, length_tail}

-- ---- a part is no longer than the words

module _ (ws : List ℕ) (m : ℕ) (h : length ws ≤ m) where
  pub tail_short : (a : ℕ) → length (tail a ws) ≤ m
  tail_short a = omega (arith, length_tail a ws)

  pub part_short : (a e : ℕ) → length (part a e ws) ≤ m
  part_short a e = omega (arith, length-take (e - a) (drop a ws), length-drop a ws)

pub part_length : (ws : List ℕ) (a n : ℕ) → a + n ≤ length ws → length (part a (a + n) ws) ≡ n
part_length ws a n h = length-take (a + n - a) (drop a ws) ∙ omega (arith, length-drop a ws)

-- ---- the tree is known by its words

module _ (ws : List ℕ) (t : Expr) where
  pub front_tree : Front ws t → tree_at ws ≡ t
  unfolding tree_at
  front_tree f =
      let deep : depth t ≤ length ws = omega (arith, depth_nodes t, length_encode t, ap length f.words, length-append (encode t) f.rest) in
      ap (λ (l : List ℕ). read_tree (subtree (length ws) l)) f.words ∙ ap read_tree (subtree_encode t (length ws) f.rest deep f.operands)

  -- the tree's own words, of those that begin with them
  pub front_part : Front ws t → (n : ℕ) → n ≡ length (encode t) → Exactly (part 0 n ws) t
  front_part f n e =
      let m : length (encode t) ≡ n - 0 = omega arith in
      record { words = ap (take (n - 0)) f.words ∙ take_at (encode t) f.rest (n - 0) m; operands = f.operands }

  pub exact_front : Exactly ws t → Front ws t
  exact_front x = record { rest = []; words = x.words ∙ sym (append-nil (encode t)); operands = x.operands }

  pub exact_tree : Exactly ws t → tree_at ws ≡ t
  exact_tree x = front_tree (exact_front x)

  pub exact_whole : Exactly ws t → Whole ws
  exact_whole x = subst (Exactly ws) (sym (exact_tree x)) x

  pub exact_length : Exactly ws t → length ws ≡ 2 * nodes t
  exact_length x = ap length x.words ∙ length_encode t

  pub exact_kind : Exactly ws t → 0 < length ws
  exact_kind x = omega (arith, exact_length x, nodes_pos t)

  pub exact_operand : Exactly ws t → 1 < length ws
  exact_operand x = omega (arith, exact_length x, nodes_pos t)

  pub exact_node : Exactly ws t → 2 ≤ length ws
  exact_node x = omega (arith, exact_length x, nodes_pos t)

pub starts_front : (ws : List ℕ) → Starts ws → Front ws (tree_at ws)
starts_front ws s = subst (Front ws) (sym (front_tree ws s.tree s.front)) s.front

-- words that begin with those of a tree, in either form
module _ (ws : List ℕ) where
  pub starts_lead : Starts ws → Leads ws
  starts_lead s = front_part ws (tree_at ws) (starts_front ws s) (length (encode (tree_at ws))) refl

  pub lead_starts : Leads ws → Starts ws
  lead_starts x = record {
    tree = tree_at ws;
    front = record {
      rest = drop (length (encode (tree_at ws)) - 0) ws;
      words =
          sym (take-append-drop (length (encode (tree_at ws)) - 0) ws)
          ∙ ap (λ (l : List ℕ). l ++ drop (length (encode (tree_at ws)) - 0) ws) x.words;
      operands = x.operands;
    };
  }

-- ---- a node, as its arity tells

-- a node over one child: its two words, and the child's after them
pub record OneChild (ws : List ℕ) (t : Expr) : Type 0 where
  pub kind : Unary
  pub is : t ≡ unary kind (left_of t)
  pub number_is : get_or ws 0 0 ≡ unary_number kind
  pub operand_is : get_or ws 1 0 ≡ unary_operand kind
  pub below : Exactly (tail 2 ws) (left_of t)

-- a node over two children: the right one's words begin where the left one's end
pub record TwoChildren (ws : List ℕ) (t : Expr) : Type 0 where
  pub kind : Binary
  pub is : t ≡ binary kind (left_of t) (right_of t)
  pub number_is : get_or ws 0 0 ≡ binary_number kind
  pub children : tail 2 ws ≡ encode (left_of t) ++ encode (right_of t)
  pub left_below : Exactly (part 2 (2 + length (encode (left_of t))) ws) (left_of t)
  pub right_below : Exactly (tail (2 + length (encode (left_of t))) ws) (right_of t)

module _ (ws : List ℕ) where
  -- a tree's first word asks for as many children as the tree has
  arity_told : (κ : Kind) (vs : List ℕ) (n : ℕ) → ws ≡ number κ ∷ operand κ ∷ vs → arity_of (get_or ws 0 0) ≡ accepted n → n ≡ arity κ
  arity_told κ vs n e a = let f = ap (λ (l : List ℕ). arity_of (get_or l 0 0)) e in let g = number_arity κ in cc

  pub one_child : (t : Expr) → Exactly ws t → arity_of (get_or ws 0 0) ≡ accepted 1 → OneChild ws t
  unfolding encode operands_ok
  one_child (leaf k) x a = absurd (omega (arith, arity_told (none k) [] 1 x.words a))
  one_child (unary k t) x a = record {
    kind = k;
    is = refl;
    number_is = ap (λ (l : List ℕ). get_or l 0 0) x.words;
    operand_is = ap (λ (l : List ℕ). get_or l 1 0) x.words;
    below = record {
      words = tail_drop 2 ws ∙ ap (λ (l : List ℕ). drop {A = ℕ} 2 l) x.words;
      operands = (and_yes (operand_ok (unary_number k) (unary_operand k)) (operands_ok t) x.operands).1;
    };
  }
  one_child (binary k l r) x a = absurd (omega (arith, arity_told (two k) (encode l ++ encode r) 1 x.words a))

  pub two_children : (t : Expr) → Exactly ws t → arity_of (get_or ws 0 0) ≡ accepted 2 → TwoChildren ws t
  unfolding encode operands_ok
  two_children (leaf k) x a = absurd (omega (arith, arity_told (none k) [] 2 x.words a))
  two_children (unary k t) x a = absurd (omega (arith, arity_told (one k) (encode t) 2 x.words a))
  two_children (binary k l r) x a =
      let o = and_yes (operands_ok l) (operands_ok r) x.operands in
      let n : length (encode l) ≡ 2 + length (encode l) - 2 = omega arith in
      record {
        kind = k;
        is = refl;
        number_is = ap (λ (l : List ℕ). get_or l 0 0) x.words;
        children = tail_drop 2 ws ∙ ap (λ (v : List ℕ). drop {A = ℕ} 2 v) x.words;
        left_below = record {
          words = ap (λ (v : List ℕ). take (2 + length (encode l) - 2) (drop 2 v)) x.words ∙ take_at (encode l) (encode r) (2 + length (encode l) - 2) n;
          operands = o.0;
        };
        right_below = record {
          words =
              tail_drop (2 + length (encode l)) ws
              ∙ ap (drop (2 + length (encode l))) x.words
              ∙ drop_at (binary_number k ∷ 0 ∷ encode l) (encode r) (2 + length (encode l)) (omega arith);
          operands = o.1;
        };
      }

-- ---- the children's parts, as calls are handed them

module _ (ws : List ℕ) (t : Expr) (x : Exactly ws t) where
  module _ (a : arity_of (get_or ws 0 0) ≡ accepted 1) where
    pub child_whole : Whole (tail 2 ws)
    child_whole = exact_whole (tail 2 ws) (left_of t) (one_child ws t x a).below

    pub child_tree : tree_at (tail 2 ws) ≡ left_of t
    child_tree = exact_tree (tail 2 ws) (left_of t) (one_child ws t x a).below

  module _ (a : arity_of (get_or ws 0 0) ≡ accepted 2) (right : ℕ) (e : right ≡ 2 + length (encode (left_of t))) where
    pub left_exact : Exactly (part 2 right ws) (left_of t)
    left_exact = subst (λ (i : ℕ). Exactly (part 2 i ws) (left_of t)) (sym e) (two_children ws t x a).left_below

    pub right_exact : Exactly (tail right ws) (right_of t)
    right_exact = subst (λ (i : ℕ). Exactly (tail i ws) (right_of t)) (sym e) (two_children ws t x a).right_below

    pub left_whole : Whole (part 2 right ws)
    left_whole = exact_whole (part 2 right ws) (left_of t) left_exact

    pub left_tree : tree_at (part 2 right ws) ≡ left_of t
    left_tree = exact_tree (part 2 right ws) (left_of t) left_exact

    pub right_whole : Whole (tail right ws)
    right_whole = exact_whole (tail right ws) (right_of t) right_exact

    pub right_tree : tree_at (tail right ws) ≡ right_of t
    right_tree = exact_tree (tail right ws) (right_of t) right_exact

    pub right_within : right < length ws
    unfolding encode
    right_within =
        let n = two_children ws t x a in
        omega (arith, ap length x.words, ap (λ (u : Expr). length (encode u)) n.is, length-append (encode (left_of t)) (encode (right_of t)), length_encode (right_of t), nodes_pos (right_of t))

    pub right_most : right ≤ length ws
    right_most = omega (arith, right_within)

pub ruleset parts = (tail_short, part_short, exact_kind, exact_operand, exact_node, exact_whole, child_whole, left_whole, right_whole, right_within, right_most)
