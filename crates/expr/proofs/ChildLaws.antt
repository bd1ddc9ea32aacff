-- A tree that is read, and the trees below a node, by the parts of its words. Assumes nothing.
use Rattle.std.specs.Result.{is_ok, IsOk}
use Rattle.std.specs.Prelude.{Result, Ok, Err, ◌≡◌, refl, Bool, true, false, ◌&&◌, List, ℕ, ◌+◌, ◌/◌, ◌%◌, ◌≤◌, ◌<◌, ◌++◌, eqb, length, get_or}
use Rattle.std.proofs.Common.{sym, ap, ap₂, ◌∙◌, arith, Fits, w64, length-append, eq-eqb, ne_eqb, lt-ltb, le-ltb}
use Rattle.std.proofs.Math.Option.{none, some}
use Rattle.expr.specs.declared.refusal.Reason.{Reason}
use Rattle.expr.specs.declared.refusal.Refusal.{Refusal}
use Rattle.expr.specs.declared.kind.Leaf.{Leaf}
use Rattle.expr.specs.declared.kind.Leaf.TheVariants.{Constant, Variable}
use Rattle.expr.specs.declared.kind.Unary.{Unary}
use Rattle.expr.specs.declared.kind.Unary.TheVariants.{Not, Neg, Shr, ZExt, SExt, Trunc}
use Rattle.expr.specs.declared.kind.Binary.{Binary}
use Rattle.expr.specs.declared.kind.Binary.TheVariants.{Add, Mul, And, Or, Xor, Concat}
use Rattle.expr.specs.declared.Arity.{Arity}
use Rattle.expr.specs.declared.Arity.TheVariants.{Zero, One, Two}
use Rattle.expr.specs.Refusals.{refusal, reason_of}
use Rattle.expr.specs.Room.{room_for}
use Rattle.expr.specs.Outcome.{Outcome, refused, accepted, mapped}
use Rattle.expr.specs.OutcomeLaws.{no_answer}
use Rattle.expr.specs.Expr.{Expr, leaf, unary, binary, leaf_number, leaf_operand, unary_number, unary_operand, binary_number, encode, nodes}
use Rattle.expr.specs.Parse as kinds
use Rattle.expr.specs.Parse.{arity_of, parse}
use Rattle.expr.specs.ParseLaws.{parse_sound}
use Rattle.expr.specs.KindLaws.{number_arity, same_binary}
use Rattle.expr.specs.Answers.{outcome, arity_outcome, children_of}
use Rattle.expr.specs.Span.{span_of}
use Rattle.expr.specs.SpanLaws.{span_counted, span_not_refused}
use Rattle.expr.specs.Optional.{only_if}
use Rattle.expr.specs.Parts.{tail, part}
use Rattle.expr.specs.TailLaws.{length_tail}
use Rattle.expr.specs.Front.{Front, Starts, Leads, Exactly, Whole, tree_at, left_of, right_of}
use Rattle.expr.specs.FrontLaws.{is_tree, tree_short, leaf_node, has_arity, known_arity, arity_one, arity_two}
use Rattle.expr.specs.PartLaws.{parts, starts_lead, exact_length, exact_tree, exact_whole, exact_front, one_child, two_children, child_tree, left_tree, right_tree}
use Rattle.expr.proofs.FoldLaws.{leaf_fits, unary_operand_fits}
use Rattle.expr.specs.Trees.{constant_of, operand_of, operands_of}

-- ---- `read`

module _ (ws : List ℕ) (n : ℕ) (e : accepted n ≡ mapped nodes (parse ws)) where
  exact : Exactly ws (is_tree ws n e).tree
  exact = let t = is_tree ws n e in let a = parse_sound ws t.tree t.is in record { words = a.words; operands = a.valid.operands }

  pub read_whole : Whole ws
  read_whole = exact_whole ws (is_tree ws n e).tree exact

  pub read_short : length ws ≤ 1024
  read_short = tree_short ws (is_tree ws n e)

  pub read_tree : accepted (tree_at ws) ≡ parse ws
  read_tree = ap accepted (exact_tree ws (is_tree ws n e).tree exact) ∙ sym (is_tree ws n e).is

pub read_refused : (ws : List ℕ) (r : Reason) → refused r ≡ mapped nodes (parse ws) → refused r ≡ parse ws
read_refused ws r e = go (parse ws) e
  where
    go : (o : Outcome Expr) → refused r ≡ mapped nodes o → refused r ≡ o
    go (refused s) f = ap refused (cc)
    go (accepted t) f = absurd (no_answer f)

pub ruleset reading = (read_whole, read_short, read_tree, read_refused)

-- ---- the first two words

module _ (ws : List ℕ) (x : Whole ws) where
  pub half : length ws / 2 ≡ nodes (tree_at ws)
  half = omega (arith, exact_length ws (tree_at ws) x)

  pub whole_starts : Starts ws
  whole_starts = record { tree = tree_at ws; front = exact_front ws (tree_at ws) x }

  pub whole_front : Front ws (tree_at ws)
  whole_front = exact_front ws (tree_at ws) x

  pub whole_leads : Leads ws
  whole_leads = starts_lead ws whole_starts

module _ (ws : List ℕ) where
  word : (t : Expr) → Exactly ws t → get_or (encode t) 0 0 ≡ get_or ws 0 0
  word t x = sym (ap (λ (l : List ℕ). get_or l 0 0) x.words)

  second : (t : Expr) → Exactly ws t → get_or (encode t) 1 0 ≡ get_or ws 1 0
  second t x = sym (ap (λ (l : List ℕ). get_or l 1 0) x.words)

  no_word : (t : Expr) → Exactly ws t → (get_or ws 0 0 ≡ 0 → ⊥) → none ≡ constant_of t
  unfolding encode
  no_word (leaf (Constant c)) x f = absurd (f (sym (word (leaf (Constant c)) x)))
  no_word (leaf (Variable i)) x f = refl
  no_word (unary k t) x f = refl
  no_word (binary k l r) x f = refl

  unary_not_0 : (k : Unary) → unary_number k ≡ 0 → ⊥
  unary_not_0 Not e = omega (arith, e)
  unary_not_0 Neg e = omega (arith, e)
  unary_not_0 (Shr n) e = omega (arith, e)
  unary_not_0 (ZExt n) e = omega (arith, e)
  unary_not_0 (SExt n) e = omega (arith, e)
  unary_not_0 (Trunc n) e = omega (arith, e)

  binary_not_0 : (k : Binary) → binary_number k ≡ 0 → ⊥
  binary_not_0 Add e = omega (arith, e)
  binary_not_0 Mul e = omega (arith, e)
  binary_not_0 And e = omega (arith, e)
  binary_not_0 Or e = omega (arith, e)
  binary_not_0 Xor e = omega (arith, e)
  binary_not_0 Concat e = omega (arith, e)

  the_word : (t : Expr) → Exactly ws t → get_or ws 0 0 ≡ 0 → some (get_or ws 1 0) ≡ constant_of t
  unfolding encode
  the_word (leaf (Constant c)) x e = ap (λ (n : ℕ). some n) (sym (second (leaf (Constant c)) x))
  the_word (leaf (Variable i)) x e = absurd (omega (arith, e, word (leaf (Variable i)) x))
  the_word (unary k t) x e = absurd (unary_not_0 k (word (unary k t) x ∙ e))
  the_word (binary k l r) x e = absurd (binary_not_0 k (word (binary k l r) x ∙ e))

  not_one : (j : Unary) (t : Expr) → Exactly ws t → (eqb (get_or ws 0 0) (unary_number j) && eqb (get_or ws 1 0) (unary_operand j)) ≡ false → none ≡ operand_of j t
  unfolding encode operand_of
  not_one j (leaf k) x f = refl
  not_one j (unary k t) x f =
      sym (ap (λ (b : Bool). only_if b t) (ap₂ (λ (m n : ℕ). eqb m (unary_number j) && eqb n (unary_operand j)) (word (unary k t) x) (second (unary k t) x) ∙ f))
  not_one j (binary k l r) x f = refl

  not_two : (j : Binary) (t : Expr) → Exactly ws t → (get_or ws 0 0 ≡ binary_number j → ⊥) → none ≡ operands_of j t
  unfolding encode operands_of
  not_two j (leaf k) x f = refl
  not_two j (unary k t) x f = refl
  not_two j (binary k l r) x f = sym (ap (λ (b : Bool). only_if b (l, r)) (ne_eqb (binary_number k) (binary_number j) (λ e. f (sym (word (binary k l r) x) ∙ e))))

-- ---- `constant`

module _ (ws : List ℕ) (x : Whole ws) where
  pub no_constant : (get_or ws 0 0 ≡ 0 → ⊥) → none ≡ constant_of (tree_at ws)
  no_constant = no_word ws (tree_at ws) x

  pub constant_word : get_or ws 0 0 ≡ 0 → some (get_or ws 1 0) ≡ constant_of (tree_at ws)
  constant_word = the_word ws (tree_at ws) x

-- ---- `both`

module _ (ws : List ℕ) (x : Whole ws) (a : arity_of (get_or ws 0 0) ≡ accepted 2) (l : length ws ≤ 1024) (c : Result ℕ Refusal) (h : outcome c ≡ span_of (tail 2 ws)) where
  rest_is : tail 2 ws ≡ encode (left_of (tree_at ws)) ++ encode (right_of (tree_at ws))
  rest_is = (two_children ws (tree_at ws) x a).children

  rest_even : length (tail 2 ws) % 2 ≡ 0
  rest_even = omega (arith, length_tail 2 ws, exact_length ws (tree_at ws) x)

  rest_short : length (tail 2 ws) ≤ 1024
  rest_short = omega (arith, length_tail 2 ws)

  pub right_read : is_ok c ≡ true
  right_read = by_answer c h
    where
      by_answer : (d : Result ℕ Refusal) → outcome d ≡ span_of (tail 2 ws) → is_ok d ≡ true
      by_answer (Ok n) e = refl
      by_answer (Err r) e = absurd (span_not_refused _ (left_of (tree_at ws)) (encode (right_of (tree_at ws))) rest_is rest_even rest_short (reason_of r) e)

  module _ (n : ℕ) (e : c ≡ Ok n) where
    counted : n ≡ length (encode (left_of (tree_at ws)))
    counted = span_counted _ (left_of (tree_at ws)) (encode (right_of (tree_at ws))) rest_is rest_even rest_short n (ap outcome (sym e) ∙ h)

    pub right_counted : 2 + n ≡ 2 + length (encode (left_of (tree_at ws)))
    right_counted = ap (λ (i : ℕ). 2 + i) counted

    pub right_fits : Fits w64 (2 + n)
    right_fits = omega (arith, counted, ap length rest_is, length-append (encode (left_of (tree_at ws))) (encode (right_of (tree_at ws))), rest_short)

module _ (ws : List ℕ) (x : Whole ws) (a : arity_of (get_or ws 0 0) ≡ accepted 2) (right : ℕ) (e : right ≡ 2 + length (encode (left_of (tree_at ws)))) where
  pub both_left : tree_at (part 2 right ws) ≡ left_of (tree_at ws)
  both_left = left_tree ws (tree_at ws) x a right e

  pub both_right : tree_at (tail right ws) ≡ right_of (tree_at ws)
  both_right = right_tree ws (tree_at ws) x a right e

pub ruleset right_place = (parts, right_read, right_counted, right_fits)

pub ruleset both_parts = (parts, both_left, both_right)

-- ---- `operands`

module _ (ws : List ℕ) (x : Whole ws) (o : Binary) (n : ℕ) (e : n ≡ binary_number o) where
  pub no_operands : (get_or ws 0 0 ≡ n → ⊥) → none ≡ operands_of o (tree_at ws)
  no_operands f = not_two ws o (tree_at ws) x (λ g. f (g ∙ sym e))

  module _ (f : get_or ws 0 0 ≡ n) where
    pub operands_arity : arity_of (get_or ws 0 0) ≡ accepted 2
    operands_arity = ap arity_of (f ∙ e) ∙ number_arity (kinds.two o)

    pub operands_are : (l r : Expr) → l ≡ left_of (tree_at ws) → r ≡ right_of (tree_at ws) → some (l, r) ≡ operands_of o (tree_at ws)
    unfolding operands_of
    operands_are l r g h =
        let c = two_children ws (tree_at ws) x operands_arity in
        let k : c.kind ≡ o = same_binary c.kind o (sym c.number_is ∙ f ∙ e) in
        ap₂ (λ (t u : Expr). some (t, u)) g h
        ∙ sym (ap (operands_of o) c.is
        ∙ ap (λ (b : Bool). only_if b (left_of (tree_at ws), right_of (tree_at ws))) (eq-eqb (binary_number c.kind) (binary_number o) (ap binary_number k)))

pub ruleset operand_pairs = (parts, no_operands, operands_arity, operands_are)

-- ---- `operand`

module _ (ws : List ℕ) (x : Whole ws) (o : Unary) (n m : ℕ) (e : n ≡ unary_number o) (g : m ≡ unary_operand o) where
  pub no_operand_kind : (get_or ws 0 0 ≡ n → ⊥) → none ≡ operand_of o (tree_at ws)
  no_operand_kind f = not_one ws o (tree_at ws) x (ap (λ (b : Bool). b && eqb (get_or ws 1 0) (unary_operand o)) (ne_eqb (get_or ws 0 0) (unary_number o) (λ h. f (h ∙ sym e))))

  pub no_operand_held : (get_or ws 1 0 ≡ m → ⊥) → none ≡ operand_of o (tree_at ws)
  no_operand_held f = not_one ws o (tree_at ws) x (and-no (eqb (get_or ws 0 0) (unary_number o)) (ne_eqb (get_or ws 1 0) (unary_operand o) (λ h. f (h ∙ sym g))))
    where
      and-no : (b : Bool) {c : Bool} → c ≡ false → (b && c) ≡ false
      and-no true h = h
      and-no false h = refl

  module _ (f : get_or ws 0 0 ≡ n) where
    pub operand_arity : arity_of (get_or ws 0 0) ≡ accepted 1
    operand_arity = ap arity_of (f ∙ e) ∙ number_arity (kinds.one o)

    pub operand_is : get_or ws 1 0 ≡ m → some (tree_at (tail 2 ws)) ≡ operand_of o (tree_at ws)
    unfolding operand_of
    operand_is h =
        let c = one_child ws (tree_at ws) x operand_arity in
        ap (λ (t : Expr). some t) (child_tree ws (tree_at ws) x operand_arity)
        ∙ sym (ap (operand_of o) c.is
        ∙ ap (λ (b : Bool). only_if b (left_of (tree_at ws)))
        (ap₂ ◌&&◌ (eq-eqb (unary_number c.kind) (unary_number o) (sym c.number_is ∙ f ∙ e)) (eq-eqb (unary_operand c.kind) (unary_operand o) (sym c.operand_is ∙ h ∙ g))))

pub ruleset single_operands = (parts, no_operand_kind, no_operand_held, operand_arity, operand_is)

-- ---- `node`

module _ (ws : List ℕ) (x : Whole ws) (d : Result Arity Refusal) (h : arity_outcome d ≡ arity_of (get_or ws 0 0)) where
  pub known : IsOk d
  known = has_arity ws d h (whole_starts ws x)

  module _ (a : Arity) (e : d ≡ Ok a) where
    told : accepted (children_of a) ≡ arity_of (get_or ws 0 0)
    told = known_arity ws d h a e

    pub one_is : a ≡ One → arity_of (get_or ws 0 0) ≡ accepted 1
    one_is = arity_one ws a told

    pub two_is : a ≡ Two → arity_of (get_or ws 0 0) ≡ accepted 2
    two_is = arity_two ws a told

    pub leaf_held : a ≡ Zero → get_or ws 0 0 ≡ 1 → get_or ws 1 0 ≤ 4294967295
    leaf_held g = leaf_fits ws (whole_starts ws x) a told g

    pub unary_held : a ≡ One → get_or ws 1 0 ≤ 4294967295
    unary_held g = unary_operand_fits ws (whole_starts ws x) a told g

    pub node_leaf : a ≡ Zero → (y : Leaf) → ((k : Leaf) → get_or ws 0 0 ≡ leaf_number k → get_or ws 1 0 ≡ leaf_operand k → y ≡ k) → leaf y ≡ tree_at ws
    node_leaf g y f = let n = leaf_node ws a told (tree_at ws) g (exact_front ws (tree_at ws) x) in ap leaf (f n.kind n.number_is n.operand_is) ∙ sym n.is

    pub node_one : (g : a ≡ One) (y : Unary) → ((k : Unary) → get_or ws 0 0 ≡ unary_number k → get_or ws 1 0 ≡ unary_operand k → y ≡ k) → unary y (tree_at (tail 2 ws)) ≡ tree_at ws
    node_one g y f =
        let n = one_child ws (tree_at ws) x (one_is g) in
        ap₂ (λ (k : Unary) (t : Expr). unary k t) (f n.kind n.number_is n.operand_is) (child_tree ws (tree_at ws) x (one_is g)) ∙ sym n.is

    pub node_two : (g : a ≡ Two) (y : Binary) → ((k : Binary) → get_or ws 0 0 ≡ binary_number k → y ≡ k) → (l r : Expr) → l ≡ left_of (tree_at ws) → r ≡ right_of (tree_at ws) → binary y l r ≡ tree_at ws
    node_two g y f l r i j =
        let n = two_children ws (tree_at ws) x (two_is g) in
        ap (λ (k : Binary). binary k l r) (f n.kind n.number_is)
        ∙ ap₂ (λ (t u : Expr). binary n.kind t u) i j
        ∙ sym n.is

pub ruleset node_laws = (parts, known, one_is, two_is, leaf_held, unary_held, node_leaf, node_one, node_two)

-- ---- `with_room`

module _ (need : Expr → ℕ) (room : ℕ) (t : Expr) where
  pub no_room : room < need t → refused (refusal 9) ≡ room_for need room t
  unfolding room_for
  no_room h = sym (rw (lt-ltb room (need t) h))

  pub has_room : need t ≤ room → accepted t ≡ room_for need room t
  unfolding room_for
  has_room h = sym (rw (le-ltb room (need t) h))
