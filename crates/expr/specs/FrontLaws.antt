-- The node at the front of a tree's words, and the parts where its children begin. Assumes nothing.
use Rattle.std.specs.Prelude.{◌≡◌, refl, ℕ, ◌+◌, ◌*◌, ◌^◌, ◌≤◌, ◌<◌, T, drop, Result, Ok, Err}
use Rattle.std.specs.Result.{IsOk}
use Rattle.std.proofs.Common.{sym, subst, ◌∙◌, Fits}
use Rattle.std.proofs.Math.Path.{ap}
use mathlib.Core.List.{List, [], ◌∷◌, ◌++◌, append_assoc, append-nil}
use native.Mathlib.Omega.{arith}
use Rattle.std.proofs.Math.ListN.{length, get_or, length-append}
use Rattle.std.proofs.Math.Seq.{drop_at}
use Rattle.std.proofs.Math.Facts.{and_yes}
use Rattle.std.specs.Int.{w64}
use Rattle.expr.specs.declared.refusal.Reason.{Reason}
use Rattle.expr.specs.declared.refusal.Refusal.{Refusal}
use Rattle.expr.specs.declared.Arity.{Arity}
use Rattle.expr.specs.declared.Arity.TheVariants.{Zero, One, Two}
use Rattle.expr.specs.Outcome.{Outcome, refused, accepted, mapped}
use Rattle.expr.specs.OutcomeLaws.{Made, mapped_made, mapped_accepted, refused_mapped}
use Rattle.expr.specs.Expr.{Expr, leaf, unary, binary, leaf_number, leaf_operand, unary_number, unary_operand, binary_number, encode, nodes}
use Rattle.expr.specs.declared.kind.Leaf.{Leaf}
use Rattle.expr.specs.declared.kind.Unary.{Unary}
use Rattle.expr.specs.declared.kind.Binary.{Binary}
use Rattle.expr.specs.ExprLaws.{nodes_pos, length_encode}
use Rattle.expr.specs.Parse.{Kind, none, one, two, arity, arity_of, operand_ok, operands_ok, parse}
use Rattle.expr.specs.ParseLaws.{parse_sound}
use Rattle.expr.specs.KindLaws.{number, number_arity}
use Rattle.expr.specs.Answers.{children_of, arity_outcome}
use Rattle.expr.specs.Front.{Front, Starts, Spans, Read}
use Rattle.expr.specs.Parts.{tail}
use Rattle.expr.specs.TailLaws.{tail_drop, length_tail}

-- ---- the tree at the front

-- the first word is the number of the tree's kind
abbrev root_of : Expr → Kind
root_of (leaf k) = none k
root_of (unary k t) = one k
root_of (binary k l r) = two k

module _ (ws : List ℕ) where
  first_word : (t : Expr) → Front ws t → get_or ws 0 0 ≡ number (root_of t)
  unfolding encode
  first_word (leaf k) f = ap (λ (l : List ℕ). get_or l 0 0) f.words
  first_word (unary k t) f = ap (λ (l : List ℕ). get_or l 0 0) f.words
  first_word (binary k l r) f = ap (λ (v : List ℕ). get_or v 0 0) f.words

  -- the words after the node's own
  after : (k o : ℕ) (vs : List ℕ) → ws ≡ k ∷ o ∷ vs → tail 2 ws ≡ vs
  after k o vs e = tail_drop 2 ws ∙ ap (λ (l : List ℕ). drop {A = ℕ} 2 l) e

  unary_below : (k : Unary) (t : Expr) → Front ws (unary k t) → Front (tail 2 ws) t
  unfolding encode operands_ok
  unary_below k t f = record {
    rest = f.rest;
    words = after (unary_number k) (unary_operand k) (encode t ++ f.rest) f.words;
    operands = (and_yes (operand_ok (unary_number k) (unary_operand k)) (operands_ok t) f.operands).1;
  }

  module _ (k : Binary) (l r : Expr) (f : Front ws (binary k l r)) where
    children_are : tail 2 ws ≡ encode l ++ (encode r ++ f.rest)
    unfolding encode
    children_are = after (binary_number k) 0 ((encode l ++ encode r) ++ f.rest) f.words ∙ append_assoc (encode l) (encode r) f.rest

    left_below : Front (tail 2 ws) l
    unfolding operands_ok
    left_below = record { rest = encode r ++ f.rest; words = children_are; operands = (and_yes (operands_ok l) (operands_ok r) f.operands).0 }

    right_below : Front (tail (length (encode l)) (tail 2 ws)) r
    unfolding operands_ok
    right_below = record {
      rest = f.rest;
      words =
          tail_drop (length (encode l)) (tail 2 ws) ∙ ap (drop (length (encode l))) children_are
          ∙ drop_at (encode l) (encode r ++ f.rest) (length (encode l)) refl;
      operands = (and_yes (operands_ok l) (operands_ok r) f.operands).1;
    }

-- ---- the node, as its arity tells

-- the tree is a leaf, and the first two words are its kind and operand
pub record LeafNode (ws : List ℕ) (t : Expr) : Type 0 where
  pub kind : Leaf
  pub is : t ≡ leaf kind
  pub number_is : get_or ws 0 0 ≡ leaf_number kind
  pub operand_is : get_or ws 1 0 ≡ leaf_operand kind
  pub in_range : T (operand_ok (leaf_number kind) (leaf_operand kind))

-- a node over one child, whose words begin after the node's
pub record UnaryNode (ws : List ℕ) (t : Expr) : Type 0 where
  pub kind : Unary
  pub child : Expr
  pub is : t ≡ unary kind child
  pub number_is : get_or ws 0 0 ≡ unary_number kind
  pub operand_is : get_or ws 1 0 ≡ unary_operand kind
  pub in_range : T (operand_ok (unary_number kind) (unary_operand kind))
  pub below : Front (tail 2 ws) child

-- a node over two children; the words of the right one begin after those of the left one
pub record BinaryNode (ws : List ℕ) (t : Expr) : Type 0 where
  pub kind : Binary
  pub left : Expr
  pub right : Expr
  pub is : t ≡ binary kind left right
  pub number_is : get_or ws 0 0 ≡ binary_number kind
  pub left_below : Front (tail 2 ws) left
  pub right_below : Front (tail (length (encode left)) (tail 2 ws)) right

-- what the first word says of the number of children holds of the tree
module _ (ws : List ℕ) (a : Arity) (e : accepted (children_of a) ≡ arity_of (get_or ws 0 0)) where
  told : (t : Expr) → Front ws t → (b : Arity) → a ≡ b → children_of b ≡ arity (root_of t)
  told t f b g =
      let z : ◌≡◌ {A = Outcome ℕ} (accepted (children_of b)) (accepted (arity (root_of t))) =
      ap (λ (c : Arity). accepted (children_of c)) (sym g) ∙ e ∙ ap arity_of (first_word ws t f) ∙ number_arity (root_of t) in
      cc

  -- no tree of another kind is at the front
  apart : {A : Type 0} (t : Expr) → Front ws t → (b : Arity) → a ≡ b → (children_of b ≡ arity (root_of t) → ⊥) → A
  apart t f b g h = absurd (h (told t f b g))

  pub leaf_node : (t : Expr) → a ≡ Zero → Front ws t → LeafNode ws t
  unfolding encode operands_ok
  leaf_node (leaf k) g f = record {
    kind = k;
    is = refl;
    number_is = first_word ws (leaf k) f;
    operand_is = ap (λ (l : List ℕ). get_or l 1 0) f.words;
    in_range = f.operands;
  }
  leaf_node (unary k t) g f = apart (unary k t) f Zero g (λ z. omega arith)
  leaf_node (binary k l r) g f = apart (binary k l r) f Zero g (λ z. omega arith)

  pub unary_node : (t : Expr) → a ≡ One → Front ws t → UnaryNode ws t
  unfolding encode operands_ok
  unary_node (leaf k) g f = apart (leaf k) f One g (λ z. omega arith)
  unary_node (unary k t) g f = record {
    kind = k;
    child = t;
    is = refl;
    number_is = first_word ws (unary k t) f;
    operand_is = ap (λ (l : List ℕ). get_or l 1 0) f.words;
    in_range = (and_yes (operand_ok (unary_number k) (unary_operand k)) (operands_ok t) f.operands).0;
    below = unary_below ws k t f;
  }
  unary_node (binary k l r) g f = apart (binary k l r) f One g (λ z. omega arith)

  pub binary_node : (t : Expr) → a ≡ Two → Front ws t → BinaryNode ws t
  binary_node (leaf k) g f = apart (leaf k) f Two g (λ z. omega arith)
  binary_node (unary k t) g f = apart (unary k t) f Two g (λ z. omega arith)
  binary_node (binary k l r) g f = record {
    kind = k;
    left = l;
    right = r;
    is = refl;
    number_is = first_word ws (binary k l r) f;
    left_below = left_below ws k l r f;
    right_below = right_below ws k l r f;
  }

  -- the right child begins where the left one's words end
  right_front : (n : ℕ) → Spans (tail 2 ws) n → (g : a ≡ Two) (t : Expr) (f : Front ws t) → Front (tail n (tail 2 ws)) (binary_node t g f).right
  right_front n s g t f =
      let b = binary_node t g f in
      subst (λ (i : ℕ). Front (tail i (tail 2 ws)) b.right) (sym (s.spans b.left b.left_below)) b.right_below

-- ---- the calls of a walk

pub front_length : (ws : List ℕ) (t : Expr) → Front ws t → length (encode t) ≤ length ws
front_length ws t f = omega (arith, ap length f.words, length-append (encode t) f.rest)

module _ (ws : List ℕ) (s : Starts ws) where
  pub has_node : 2 ≤ length ws
  has_node = omega (arith, front_length ws s.tree s.front, length_encode s.tree, nodes_pos s.tree)

  pub has_kind : 0 < length ws
  has_kind = omega (arith, has_node)

  pub has_operand : 1 < length ws
  has_operand = omega (arith, has_node)

  -- the words left fall with each call
  pub child_falls : (m : ℕ) → length ws ≡ m → length (tail 2 ws) < m
  child_falls m e = omega (arith, has_node, length_tail 2 ws)

  pub right_falls : (n m : ℕ) → length ws ≡ m → length (tail n (tail 2 ws)) < m
  right_falls n m e = omega (arith, has_node, length_tail n (tail 2 ws), length_tail 2 ws)

  module _ (a : Arity) (e : accepted (children_of a) ≡ arity_of (get_or ws 0 0)) where
    pub child_starts : a ≡ One → Starts (tail 2 ws)
    child_starts g = let n = unary_node ws a e s.tree g s.front in record { tree = n.child; front = n.below }

    module _ (g : a ≡ Two) where
      here : BinaryNode ws s.tree
      here = binary_node ws a e s.tree g s.front

      pub left_starts : Starts (tail 2 ws)
      left_starts = record { tree = here.left; front = here.left_below }

      module _ (n : ℕ) (l : Spans (tail 2 ws) n) where
        pub right_starts : Starts (tail n (tail 2 ws))
        right_starts = record { tree = (binary_node ws a e s.tree g s.front).right; front = right_front ws a e n l g s.tree s.front }

        pub left_within : n ≤ length (tail 2 ws)
        left_within = omega (arith, l.spans here.left here.left_below, front_length (tail 2 ws) here.left here.left_below)

-- ---- how many words the tree takes

module _ (ws : List ℕ) (a : Arity) (e : accepted (children_of a) ≡ arity_of (get_or ws 0 0)) where
  pub leaf_spans : a ≡ Zero → Spans ws 2
  unfolding encode
  leaf_spans g = record { spans = λ t f. ap (λ (u : Expr). length (encode u)) (sym (leaf_node ws a e t g f).is) }

  module _ (n : ℕ) (s : Spans (tail 2 ws) n) where
    pub unary_spans : a ≡ One → Spans ws (n + 2)
    unfolding encode
    unary_spans g = record {
      spans = λ t f.
          let u = unary_node ws a e t g f in
          omega (arith, s.spans u.child u.below, ap (λ (v : Expr). length (encode v)) u.is);
    }

    module _ (m : ℕ) (r : Spans (tail n (tail 2 ws)) m) (g : a ≡ Two) where
      pub binary_spans : Spans ws (n + m + 2)
      unfolding encode
      binary_spans = record {
        spans = λ t f.
            let b = binary_node ws a e t g f in
            omega (
              arith,
              s.spans b.left b.left_below,
              r.spans b.right (right_front ws a e n s g t f),
              ap (λ (v : Expr). length (encode v)) b.is,
              length-append (encode b.left) (encode b.right),
            );
      }

-- the number of words that a tree takes fits in a word, as they are in the lent list
module _ (ws : List ℕ) (s : Starts ws) (h : length ws < 2 ^ 64) where
  taken : (n : ℕ) → Spans ws n → n ≤ length ws
  taken n p = omega (arith, p.spans s.tree s.front, front_length ws s.tree s.front)

  module _ (a : Arity) (e : accepted (children_of a) ≡ arity_of (get_or ws 0 0)) (n : ℕ) (l : Spans (tail 2 ws) n) where
    pub unary_fits : a ≡ One → Fits w64 (n + 2)
    unary_fits g = omega (arith, taken (n + 2) (unary_spans ws a e n l g))

    module _ (g : a ≡ Two) (m : ℕ) (r : Spans (tail n (tail 2 ws)) m) where
      pub both_fit : Fits w64 (n + m)
      both_fit = omega (arith, taken (n + m + 2) (binary_spans ws a e n l m r g))

      pub binary_fits : Fits w64 (n + m + 2)
      binary_fits = omega (arith, taken (n + m + 2) (binary_spans ws a e n l m r g))

pub right_scaled : (ws : List ℕ) (s : Starts ws) (a : Arity) → accepted (children_of a) ≡ arity_of (get_or ws 0 0) → a ≡ Two
    → (n : ℕ) → Spans (tail 2 ws) n → length ws * 8 < 2 ^ 63 → Fits w64 (n * 8)
right_scaled ws s a e g n l h = omega (arith, left_within ws s a e g n l, length_tail 2 ws)

-- a tree's first word is the number of a kind, whose arity is known
module _ (ws : List ℕ) (x : Result Arity Refusal) (e : arity_outcome x ≡ arity_of (get_or ws 0 0)) where
  pub has_arity : Starts ws → IsOk x
  has_arity s = go x (e ∙ ap arity_of (first_word ws s.tree s.front) ∙ number_arity (root_of s.tree))
    where
      go : (y : Result Arity Refusal) → arity_outcome y ≡ accepted (arity (root_of s.tree)) → IsOk y
      go (Ok a) h = refl
      go (Err r) h = absurd (let z : ◌≡◌ {A = ℕ} 0 1 = cc in omega arith)

  pub known_arity : (a : Arity) → x ≡ Ok a → accepted (children_of a) ≡ arity_of (get_or ws 0 0)
  known_arity a f = ap arity_outcome (sym f) ∙ e

-- the arity by the number of children that a walk finds
module _ (ws : List ℕ) (a : Arity) (e : accepted (children_of a) ≡ arity_of (get_or ws 0 0)) where
  pub arity_one : a ≡ One → arity_of (get_or ws 0 0) ≡ accepted 1
  arity_one f = sym e ∙ ap (λ (b : Arity). accepted (children_of b)) f

  pub arity_two : a ≡ Two → arity_of (get_or ws 0 0) ≡ accepted 2
  arity_two f = sym e ∙ ap (λ (b : Arity). accepted (children_of b)) f

-- what every need of a call on a child's part is found by
pub ruleset walk = (has_node, has_kind, has_operand, child_falls, right_falls, child_starts, left_starts, right_starts, left_within, leaf_spans, unary_spans, binary_spans, unary_fits, both_fit, binary_fits, right_scaled, has_arity, known_arity)

-- ---- what holds of a node, from what the calls have found of its children

module _ (ws : List ℕ) (a : Arity) (e : accepted (children_of a) ≡ arity_of (get_or ws 0 0)) (t : Expr) (f : Front ws t) where
  module _ (P : Expr → Type 0) where
    pub leaf_holds : a ≡ Zero → ((k : Leaf) → get_or ws 0 0 ≡ leaf_number k → get_or ws 1 0 ≡ leaf_operand k → P (leaf k)) → P t
    leaf_holds g h = let n = leaf_node ws a e t g f in subst P (sym n.is) (h n.kind n.number_is n.operand_is)

    pub unary_holds : (Q : Expr → Type 0) (m : ℕ) → a ≡ One → Read (tail 2 ws) m Q
        → ((k : Unary) (u : Expr) → get_or ws 0 0 ≡ unary_number k → get_or ws 1 0 ≡ unary_operand k → Q u → P (unary k u)) → P t
    unary_holds Q m g q h =
        let n = unary_node ws a e t g f in
        subst P (sym n.is) (h n.kind n.child n.number_is n.operand_is (q.holds n.child n.below))

    pub binary_holds : (Q R : Expr → Type 0) (l m : ℕ) → a ≡ Two → Read (tail 2 ws) l Q → Read (tail l (tail 2 ws)) m R
        → ((k : Binary) (u v : Expr) → get_or ws 0 0 ≡ binary_number k → Q u → R v → P (binary k u v)) → P t
    binary_holds Q R l m g q r h =
        let n = binary_node ws a e t g f in
        subst P (sym n.is)
        (h n.kind n.left n.right n.number_is (q.holds n.left n.left_below) (r.holds n.right (right_front ws a e l q.spans g t f)))

-- ---- a whole list of words, once it is checked

pub parse_front : (ws : List ℕ) (t : Expr) → parse ws ≡ accepted t → Front ws t
parse_front ws t e =
    let a = parse_sound ws t e in
    record { rest = []; words = a.words ∙ sym (append-nil (encode t)); operands = a.valid.operands }

-- the words are those of a tree
pub record IsTree (ws : List ℕ) : Type 0 where
  pub tree : Expr
  pub is : parse ws ≡ accepted tree

pub is_tree : (ws : List ℕ) (n : ℕ) → accepted n ≡ mapped nodes (parse ws) → IsTree ws
is_tree ws n e = let m : Made nodes (parse ws) n = mapped_made nodes (parse ws) e in record { tree = m.answer; is = m.was }

module _ (ws : List ℕ) (t : IsTree ws) where
  pub tree_starts : Starts ws
  tree_starts = record { tree = t.tree; front = parse_front ws t.tree t.is }

  pub tree_short : length ws ≤ 1024
  tree_short = let a = parse_sound ws t.tree t.is in omega (arith, ap length a.words, length_encode t.tree, a.valid.count)

  -- what a walk has found of the tree at the front is the answer for the words
  pub answered : {A : Type 0} (f : Expr → A) (n : ℕ) (y : A) → Read ws n (λ u. y ≡ f u) → accepted y ≡ mapped f (parse ws)
  answered f n y h = ap accepted (h.holds t.tree (parse_front ws t.tree t.is)) ∙ sym (mapped_accepted t.is f)

-- a refusal is handed on
pub turned_down : {A : Type 0} (o : Outcome Expr) (r : Reason) → refused r ≡ mapped nodes o → (f : Expr → A) → refused r ≡ mapped f o
turned_down o r e f = refused_mapped nodes f o e
