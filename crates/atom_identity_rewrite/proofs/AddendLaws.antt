-- The walk that gathers a tree's addends, and where they stand. Assumes nothing.
use mathlib.Core.Path.{◌≡◌, refl, sym, ap, subst, ◌∙◌}
use mathlib.Core.Bool.{Bool, true, false, not}
use mathlib.Core.List.{List, [], ◌∷◌, ◌++◌, append_assoc, append-nil}
use Prim.Native.Nat.{ℕ, suc, ◌+◌, ◌*◌, ◌-◌, ◌%◌, ◌≤◌, ◌<◌}
use native.Mathlib.Omega.{arith}
use lib.Dec.{T}
use lib.ListN.{length, take, drop, get_or, set, replicate, length-append, length-set, length-drop, length-replicate, get_or-replicate, drop_of_length-le}
use lib.Seq.{take_at, drop_at, drop-drop, length-take-le, take-suc-set, get_or-drop, get_or-set_same, get_or-set_other}
use mir.Facts.{and_yes}
use mir.Syntax.{w64}
use mir.Val.{Fits}
use borrow.Author.Tests.{ne_eqb, eq-eqb}
use Rattle.std.specs.Prelude as std
use Rattle.std.specs.Prelude.{if◌then◌else◌}
use Rattle.std.specs.Result.{is_ok}
use Rattle.expr.specs.declared.refusal.Refusal.{Refusal}
use Rattle.expr.specs.declared.Arity.TheVariants.{One, Two}
use Rattle.expr.specs.Expr.{Expr, leaf, unary, binary, unary_number, unary_operand, binary_number, encode}
use Rattle.expr.specs.declared.kind.Unary.{Unary}
use Rattle.expr.specs.declared.kind.Unary.TheVariants.{Neg}
use Rattle.expr.specs.declared.kind.Binary.{Binary}
use Rattle.expr.specs.declared.kind.Binary.TheVariants.{Add}
use Rattle.expr.specs.ExprLaws.{nodes_pos, length_encode}
use Rattle.expr.specs.Refusals.{reason_of}
use Rattle.expr.specs.Parse.{arity_of, operand_ok, operands_ok}
use Rattle.expr.specs.Parse as kinds
use Rattle.expr.specs.KindLaws.{number_arity}
use Rattle.expr.specs.Answers.{outcome}
use Rattle.expr.specs.Span.{span_of}
use Rattle.expr.specs.SpanLaws.{span_counted, span_not_refused}
use Rattle.expr.specs.Parts.{tail}
use Rattle.expr.specs.TailLaws.{tail_drop, length_tail}
use Rattle.expr.specs.Front.{Front, tree_at}
use Rattle.expr.specs.FrontLaws.{UnaryNode, BinaryNode, unary_node, binary_node}
use Rattle.expr.specs.PartLaws.{exact_front, exact_length}
use Rattle.expr.specs.Trees.{same_kind}
use Rattle.expr.specs.declared.tree.Tree.{Tree}
use Rattle.rewriting.specs.MatchLaws.{neg_number}
use Rattle.rewriting.specs.AtomIdentityRewrite as def
use Rattle.rewriting.specs.AtomIdentityRewrite.{is_neg_kind, push_addend, flatten_addends}
use Rattle.atom_identity_rewrite.specs.declared.addends.Addend.{Addend}
use Rattle.atom_identity_rewrite.specs.Places.{Stands, AddendsAre}

-- the addends of a tree whose words start at `at`, each by its place
unfoldable pub placed : Expr → ℕ → Bool → List Addend
placed (leaf k) at s = record { start = at; len = 2; negated = s } ∷ []
placed (unary k t) at s = if is_neg_kind k then placed t (at + 2) (not s) else record { start = at; len = length (encode (unary k t)); negated = s } ∷ []
placed (binary k l r) at s =
    if same_kind k Add then placed l (at + 2) s ++ placed r (at + 2 + length (encode l)) s
    else record { start = at; len = length (encode (binary k l r)); negated = s } ∷ []

-- ---- how many addends a tree has

few_of : (b : Bool) (xs ys : List Addend) (n : ℕ) → 4 * length xs ≤ n → 4 * length ys ≤ n → 4 * length (if b then xs else ys) ≤ n
few_of true xs ys n p q = p
few_of false xs ys n p q = q

-- a sum of n addends has n - 1 Adds and at least n other nodes, of two words each
few : (t : Expr) (at : ℕ) (s : Bool) → 4 * length (placed t at s) ≤ length (encode t) + 2
unfolding placed encode
few (leaf k) at s = omega arith
few (unary k t) at s =
    few_of (is_neg_kind k) (placed t (at + 2) (not s)) _ (length (encode (unary k t)) + 2) (omega (arith, few t (at + 2) (not s))) (omega (arith, length_encode t, nodes_pos t))
few (binary k l r) at s =
    few_of (same_kind k Add) (placed l (at + 2) s ++ placed r (at + 2 + length (encode l)) s) _ (length (encode (binary k l r)) + 2)
    (omega (arith, few l (at + 2) s, few r (at + 2 + length (encode l)) s, length-append (placed l (at + 2) s) (placed r (at + 2 + length (encode l)) s), length-append (encode l) (encode r)))
    (omega (arith, length-append (encode l) (encode r), length_encode l, nodes_pos l))

-- ---- the node at the front

-- any other node is one addend
single : (ws : List ℕ) (t : Expr) → Front ws t → (get_or ws 0 0 ≡ 2 → ⊥) → (get_or ws 0 0 ≡ 8 → ⊥) → (at : ℕ) (s : Bool) → placed t at s ≡ record { start = at; len = length (encode t); negated = s } ∷ []
unfolding placed encode
single ws (leaf k) f p q at s = refl
single ws (unary k t) f p q at s =
    ap (λ (b : Bool). if b then placed t (at + 2) (not s) else record { start = at; len = length (encode (unary k t)); negated = s } ∷ [])
    (neg_number k ∙ ne_eqb (unary_number k) 8 (λ e. q (ap (λ (l : List ℕ). get_or l 0 0) f.words ∙ e)))
single ws (binary k l r) f p q at s =
    ap (λ (b : Bool). if b then placed l (at + 2) s ++ placed r (at + 2 + length (encode l)) s else record { start = at; len = length (encode (binary k l r)); negated = s } ∷ [])
    (ne_eqb (binary_number k) 2 (λ e. p (ap (λ (l : List ℕ). get_or l 0 0) f.words ∙ e)))

-- ---- where the addends stand

module _ (ws : List ℕ) where
  stands : (before : List ℕ) (t : Expr) (rest : List ℕ) (at : ℕ) → length before ≡ at → ws ≡ before ++ (encode t ++ rest) → T (operands_ok t) → Stands ws at (length (encode t)) t
  stands before t rest at n e ok =
      let m : length (encode t) ≡ at + length (encode t) - at = omega arith in
      record {
        inside = omega (arith, ap length e, length-append before (encode t ++ rest), length-append (encode t) rest);
        exactly = record {
          words =
              ap (λ (l : List ℕ). take (at + length (encode t) - at) (drop at l)) e
              ∙ ap (take (at + length (encode t) - at)) (drop_at before (encode t ++ rest) at n)
              ∙ take_at (encode t) rest (at + length (encode t) - at) m;
          operands = ok;
        };
      }

  are_of : (b : Bool) (as₁ as₂ : List Addend) (xs₁ xs₂ : List def.Addend) → AddendsAre ws as₁ xs₁ → AddendsAre ws as₂ xs₂ → AddendsAre ws (if b then as₁ else as₂) (if b then xs₁ else xs₂)
  are_of true as₁ as₂ xs₁ xs₂ p q = p
  are_of false as₁ as₂ xs₁ xs₂ p q = q

  are_append : (as₁ as₂ : List Addend) (xs₁ xs₂ : List def.Addend) → AddendsAre ws as₁ xs₁ → AddendsAre ws as₂ xs₂ → AddendsAre ws (as₁ ++ as₂) (xs₁ ++ xs₂)
  unfolding AddendsAre
  are_append [] as₂ [] xs₂ p q = q
  are_append [] as₂ (x ∷ xs₁) xs₂ p q = absurd p
  are_append (a ∷ as₁) as₂ [] xs₂ p q = absurd p
  are_append (a ∷ as₁) as₂ (x ∷ xs₁) xs₂ p q = (p.0, are_append as₁ as₂ xs₁ xs₂ p.1 q)

  are_one : (at n : ℕ) (s : Bool) (t : Expr) → Stands ws at n t → AddendsAre ws (record { start = at; len = n; negated = s } ∷ []) (record { expr = t; negated = s } ∷ [])
  unfolding AddendsAre
  are_one at n s t p = (record { stands = p; sign = refl }, tt)

  placed_are : (t : Expr) (s : Bool) (before rest : List ℕ) (at : ℕ) → length before ≡ at → ws ≡ before ++ (encode t ++ rest) → T (operands_ok t) → AddendsAre ws (placed t at s) (push_addend s t)
  unfolding placed push_addend encode operands_ok
  placed_are (leaf k) s before rest at n e ok = are_one at 2 s (leaf k) (stands before (leaf k) rest at n e ok)
  placed_are (unary k t) s before rest at n e ok =
      are_of (is_neg_kind k) (placed t (at + 2) (not s)) _ (push_addend (not s) t) _
      (placed_are t (not s) (before ++ (unary_number k ∷ unary_operand k ∷ [])) rest (at + 2) (omega (arith, length-append before (unary_number k ∷ unary_operand k ∷ [])))
      (e ∙ sym (append_assoc before (unary_number k ∷ unary_operand k ∷ []) (encode t ++ rest)))
      (and_yes (operand_ok (unary_number k) (unary_operand k)) (operands_ok t) ok).1)
      (are_one at (length (encode (unary k t))) s (unary k t) (stands before (unary k t) rest at n e ok))
  placed_are (binary k l r) s before rest at n e ok =
      let ahead : List ℕ = before ++ (binary_number k ∷ 0 ∷ []) in
      let m : length ahead ≡ at + 2 = omega (arith, length-append before (binary_number k ∷ 0 ∷ [])) in
      let w : ws ≡ ahead ++ (encode l ++ (encode r ++ rest)) =
      e ∙ ap (λ (v : List ℕ). before ++ (binary_number k ∷ 0 ∷ v)) (append_assoc (encode l) (encode r) rest) ∙ sym (append_assoc before (binary_number k ∷ 0 ∷ []) (encode l ++ (encode r ++ rest)))
      in
      let both = and_yes (operands_ok l) (operands_ok r) ok in
      are_of (same_kind k Add) (placed l (at + 2) s ++ placed r (at + 2 + length (encode l)) s) _ (push_addend s l ++ push_addend s r) _
      (are_append (placed l (at + 2) s) (placed r (at + 2 + length (encode l)) s) (push_addend s l) (push_addend s r)
      (placed_are l s ahead (encode r ++ rest) (at + 2) m w both.0)
      (placed_are r s (ahead ++ encode l) rest (at + 2 + length (encode l)) (omega (arith, m, length-append ahead (encode l))) (w ∙ sym (append_assoc ahead (encode l) (encode r ++ rest))) both.1))
      (are_one at (length (encode (binary k l r))) s (binary k l r) (stands before (binary k l r) rest at n e ok))

-- the two lists have the same length
are_length : (ws : List ℕ) (list : List Addend) (xs : List def.Addend) → AddendsAre ws list xs → length list ≡ length xs
unfolding AddendsAre
are_length ws [] [] h = refl
are_length ws [] (x ∷ xs) h = absurd h
are_length ws (a ∷ more) [] h = absurd h
are_length ws (a ∷ more) (x ∷ xs) h = ap suc (are_length ws more xs h.1)

-- ---- `flatten_addends`

-- a subtree that is still to be read, and whether it is subtracted
pub record Owed : Type 0 where
  pub negated : Bool
  pub tree : Expr

unfoldable pub words_of : List Owed → List ℕ
words_of [] = []
words_of (o ∷ more) = encode o.tree ++ words_of more

unfoldable pub Sound : List Owed → Type 0
Sound [] = Unit
Sound (o ∷ more) = T (operands_ok o.tree) × Sound more

-- the first one's sign stands last
unfoldable pub SignsAre : List Owed → List Bool → Type 0
SignsAre [] signs = Unit
SignsAre (o ∷ more) signs = (get_or signs (length more) false ≡ o.negated) × SignsAre more signs

unfoldable pub placed_all : List Owed → ℕ → List Addend
placed_all [] at = []
placed_all (o ∷ more) at = placed o.tree at o.negated ++ placed_all more (at + length (encode o.tree))

-- the words from `at` on are those of the subtrees due, and with their addends the list is complete
pub record Gathered (ws : List ℕ) (list : List Addend) (count : ℕ) (signs : List Bool) (pending : List Owed) (at : ℕ) : Type 0 where
  pub sound : Sound pending
  pub words : drop at ws ≡ words_of pending
  pub signs_are : SignsAre pending signs
  pub all : placed (tree_at ws) 0 false ≡ take count list ++ placed_all pending at

pub record Gathering (sum : Tree) (list : List Addend) (count : ℕ) (signs : List Bool) (due at : ℕ) : Type 0 where
  pub within : at ≤ length sum.words.now
  pub counted : count ≤ 256
  pub has_list : length list ≡ 256
  pub has_signs : length signs ≡ 512
  pub pending : List Owed
  pub due_is : due ≡ length pending
  pub gathered : Gathered sum.words.now list count signs pending at

-- each subtree has a node at least
two_each : (l : List Owed) → 2 * length l ≤ length (words_of l)
unfolding words_of
two_each [] = omega arith
two_each (o ∷ more) = omega (arith, two_each more, length-append (encode o.tree) (words_of more), length_encode o.tree, nodes_pos o.tree)

even_words : (l : List Owed) → length (words_of l) % 2 ≡ 0
unfolding words_of
even_words [] = refl
even_words (o ∷ more) = omega (arith, even_words more, length-append (encode o.tree) (words_of more), length_encode o.tree)

-- what is written behind the signs leaves them
kept : (l : List Owed) (signs : List Bool) (i : ℕ) (b : Bool) → length l ≤ i → SignsAre l signs → SignsAre l (set signs i b)
unfolding SignsAre
kept [] signs i b h p = tt
kept (o ∷ more) signs i b h p = (get_or-set_other signs i (length more) b false (λ e. omega arith) ∙ p.0, kept more signs i b (omega arith) p.1)

record Split (l : List Owed) : Type 0 where
  pub next : Owed
  pub more : List Owed
  pub is : l ≡ next ∷ more

split : (l : List Owed) → 0 < length l → Split l
split [] h = absurd (omega arith)
split (o ∷ more) h = record { next = o; more = more; is = refl }

-- a turn, by the tree that is next
module _ (ws : List ℕ) (list : List Addend) (count : ℕ) (signs : List Bool) (s : Bool) (more : List Owed) (at : ℕ) where
  add_turn : (k : Binary) (l r : Expr) → binary_number k ≡ 2 → suc (length more) < length signs → Gathered ws list count signs (record { negated = s; tree = binary k l r } ∷ more) at
      → Gathered ws list count (set signs (suc (length more)) s) (record { negated = s; tree = l } ∷ record { negated = s; tree = r } ∷ more) (at + 2)
  unfolding encode operands_ok placed words_of Sound SignsAre placed_all
  add_turn k l r e h g =
      let ok = and_yes (operands_ok l) (operands_ok r) g.sound.0 in
      let n : at + length (encode (binary k l r)) ≡ at + 2 + length (encode l) + length (encode r) = omega (arith, length-append (encode l) (encode r)) in
      record {
        sound = (ok.0, (ok.1, g.sound.1));
        words = sym (drop-drop 2 at ws) ∙ ap (λ (v : List ℕ). drop {A = ℕ} 2 v) g.words ∙ append_assoc (encode l) (encode r) (words_of more);
        signs_are = (
          get_or-set_same signs (suc (length more)) s false h,
          (get_or-set_other signs (suc (length more)) (length more) s false (λ z. omega arith) ∙ g.signs_are.0, kept more signs (suc (length more)) s (omega arith) g.signs_are.1),
        );
        all =
            g.all
            ∙ ap (λ (b : Bool). take count list ++ ((if b then placed l (at + 2) s ++ placed r (at + 2 + length (encode l)) s else record { start = at; len = length (encode (binary k l r)); negated = s } ∷ []) ++ placed_all more (at + length (encode (binary k l r))))) (eq-eqb (binary_number k) 2 e)
            ∙ ap (λ (v : List Addend). take count list ++ v) (append_assoc (placed l (at + 2) s) (placed r (at + 2 + length (encode l)) s) (placed_all more (at + length (encode (binary k l r)))))
            ∙ ap (λ (i : ℕ). take count list ++ (placed l (at + 2) s ++ (placed r (at + 2 + length (encode l)) s ++ placed_all more i))) n;
      }

  neg_turn : (k : Unary) (t : Expr) → unary_number k ≡ 8 → length more < length signs → Gathered ws list count signs (record { negated = s; tree = unary k t } ∷ more) at
      → Gathered ws list count (set signs (length more) (not s)) (record { negated = not s; tree = t } ∷ more) (at + 2)
  unfolding encode operands_ok placed words_of Sound SignsAre placed_all
  neg_turn k t e h g =
      let n : at + length (encode (unary k t)) ≡ at + 2 + length (encode t) = omega arith in
      record {
        sound = ((and_yes (operand_ok (unary_number k) (unary_operand k)) (operands_ok t) g.sound.0).1, g.sound.1);
        words = sym (drop-drop 2 at ws) ∙ ap (λ (v : List ℕ). drop {A = ℕ} 2 v) g.words;
        signs_are = (get_or-set_same signs (length more) (not s) false h, kept more signs (length more) (not s) (omega arith) g.signs_are.1);
        all =
            g.all
            ∙ ap (λ (b : Bool). take count list ++ ((if b then placed t (at + 2) (not s) else record { start = at; len = length (encode (unary k t)); negated = s } ∷ []) ++ placed_all more (at + length (encode (unary k t))))) (neg_number k ∙ eq-eqb (unary_number k) 8 e)
            ∙ ap (λ (i : ℕ). take count list ++ (placed t (at + 2) (not s) ++ placed_all more i)) n;
      }

  one_turn : (t : Expr) → placed t at s ≡ record { start = at; len = length (encode t); negated = s } ∷ [] → count < length list → Gathered ws list count signs (record { negated = s; tree = t } ∷ more) at
      → Gathered ws (set list count (record { start = at; len = length (encode t); negated = s })) (count + 1) signs more (at + length (encode t))
  unfolding words_of Sound SignsAre placed_all
  one_turn t e h g =
      let a : Addend = record { start = at; len = length (encode t); negated = s } in
      let rest : List Addend = placed_all more (at + length (encode t)) in
      record {
        sound = g.sound.1;
        words = sym (drop-drop (length (encode t)) at ws) ∙ ap (drop (length (encode t))) g.words ∙ drop_at (encode t) (words_of more) (length (encode t)) refl;
        signs_are = g.signs_are.1;
        all =
            g.all ∙ ap (λ (v : List Addend). take count list ++ (v ++ rest)) e ∙ sym (append_assoc (take count list) (a ∷ []) rest)
            ∙ ap (λ (v : List Addend). v ++ rest) (sym (take-suc-set list count a h) ∙ ap (λ (i : ℕ). take i (set list count a)) (let z : suc count ≡ count + 1 = omega arith in z));
      }

pub gathering_first : (sum : Tree) (a : Addend) → Gathering sum (replicate 256 a) 0 (replicate 512 false) 1 0
unfolding words_of Sound SignsAre placed_all
gathering_first sum a = record {
  within = omega arith;
  counted = omega arith;
  has_list = length-replicate {0} {A = Addend} 256 a;
  has_signs = length-replicate {0} {A = Bool} 512 false;
  pending = record { negated = false; tree = tree_at sum.words.now } ∷ [];
  due_is = refl;
  gathered = record {
    sound = (sum.whole.operands, tt);
    words = sum.whole.words ∙ sym (append-nil (encode (tree_at sum.words.now)));
    signs_are = (get_or-replicate 512 0 false false (omega arith), tt);
    all = sym (append-nil (placed (tree_at sum.words.now) 0 false));
  };
}

module _ (sum : Tree) (list : List Addend) (count : ℕ) (signs : List Bool) (due at : ℕ) (g : Gathering sum list count signs due at) where
  abbrev ws : List ℕ
  ws = sum.words.now

  -- all the addends of the tree
  total : length (placed (tree_at ws) 0 false) ≤ 256
  total = omega (arith, few (tree_at ws) 0 false, exact_length ws (tree_at ws) sum.whole, length_encode (tree_at ws), sum.short)

  module _ (h : due ≤ 0) where
    all_taken : take count list ≡ placed (tree_at ws) 0 false
    unfolding placed_all
    all_taken =
        let none-due : length g.pending ≤ 0 = omega (arith, g.due_is) in
        let e : g.pending ≡ [] = drop_of_length-le g.pending none-due in
        sym (g.gathered.all ∙ ap (λ (l : List Owed). take count list ++ placed_all l at) e ∙ append-nil (take count list))

    pub gathered_are : AddendsAre ws (take count list) (flatten_addends (tree_at ws))
    gathered_are =
        let x = sum.whole in
        let f = exact_front ws (tree_at ws) x in
        subst (λ (l : List Addend). AddendsAre ws l (flatten_addends (tree_at ws))) (sym all_taken) (placed_are ws (tree_at ws) false [] f.rest 0 refl f.words x.operands)

    pub gathered_count : count ≡ length (flatten_addends (tree_at ws))
    gathered_count = sym (length-take-le count list (omega (arith, g.counted, g.has_list))) ∙ are_length ws (take count list) (flatten_addends (tree_at ws)) gathered_are

  module _ (pos : 0 < due) where
    abbrev here : Split g.pending
    here = split g.pending (omega (arith, g.due_is))

    abbrev more : List Owed
    more = here.more

    abbrev tree : Expr
    tree = here.next.tree

    abbrev sign : Bool
    sign = here.next.negated

    state : Gathered ws list count signs (record { negated = sign; tree = tree } ∷ more) at
    state = subst (λ (l : List Owed). Gathered ws list count signs l at) here.is g.gathered

    last : due ≡ suc (length more)
    last = g.due_is ∙ ap length here.is

    top : due - 1 ≡ length more
    top = omega (arith, last)

    left : length ws - at ≡ length (encode tree) + length (words_of more)
    unfolding words_of
    left = sym (length-drop at ws) ∙ ap length state.words ∙ length-append (encode tree) (words_of more)

    front : Front (drop at ws) tree
    unfolding words_of Sound
    front = record { rest = words_of more; words = state.words; operands = state.sound.0 }

    kind_is : get_or (drop at ws) 0 0 ≡ get_or ws at 0
    kind_is = get_or-drop at ws 0 0 ∙ ap (λ (i : ℕ). get_or ws i 0) (let z : at + 0 ≡ at = omega arith in z)

    sign_is : get_or signs (due - 1) false ≡ sign
    unfolding SignsAre
    sign_is = ap (λ (i : ℕ). get_or signs i false) top ∙ state.signs_are.0

    -- the bounds of every turn
    node_left : at + 2 ≤ length ws
    node_left = omega (arith, left, g.within, length_encode tree, nodes_pos tree)

    pub kind_left : at < length ws
    kind_left = omega (arith, node_left)

    pub top_below : due - 1 < 512
    top_below = omega (arith, last, left, two_each more, length_encode tree, nodes_pos tree, sum.short)

    -- ---- an Add

    module _ (e : get_or ws at 0 ≡ 2) where
      node : BinaryNode (drop at ws) tree
      node = binary_node (drop at ws) Two (sym (ap arity_of (kind_is ∙ e) ∙ number_arity (kinds.two Add))) tree refl front

      pub due_below : due < 512
      unfolding encode
      due_below =
          omega (arith, last, left, two_each more, ap (λ (t : Expr). length (encode t)) node.is, length-append (encode node.left) (encode node.right), length_encode node.left, nodes_pos node.left, length_encode node.right, nodes_pos node.right, sum.short)

      pub due_fits : Fits w64 (due + 1)
      due_fits = omega (arith, due_below)

      pub gathering_add : Gathering sum list count (set signs due (get_or signs (due - 1) false)) (due + 1) (at + 2)
      gathering_add = record {
        within = node_left;
        counted = g.counted;
        has_list = g.has_list;
        has_signs = length-set signs due (get_or signs (due - 1) false) ∙ g.has_signs;
        pending = record { negated = sign; tree = node.left } ∷ record { negated = sign; tree = node.right } ∷ more;
        due_is = omega (arith, last);
        gathered = subst (λ (l : List Bool). Gathered ws list count l (record { negated = sign; tree = node.left } ∷ record { negated = sign; tree = node.right } ∷ more) (at + 2))
            (ap (λ (i : ℕ). set signs i sign) (sym last) ∙ ap (set signs due) (sym sign_is))
            (add_turn ws list count signs sign more at node.kind node.left node.right (sym node.number_is ∙ kind_is ∙ e) (omega (arith, last, due_below, g.has_signs))
            (subst (λ (t : Expr). Gathered ws list count signs (record { negated = sign; tree = t } ∷ more) at) node.is state));
      }

    -- ---- a Neg

    module _ (e : get_or ws at 0 ≡ 8) where
      turned : UnaryNode (drop at ws) tree
      turned = unary_node (drop at ws) One (sym (ap arity_of (kind_is ∙ e) ∙ number_arity (kinds.one Neg))) tree refl front

      pub gathering_neg : Gathering sum list count (set signs (due - 1) (not (get_or signs (due - 1) false))) due (at + 2)
      gathering_neg = record {
        within = node_left;
        counted = g.counted;
        has_list = g.has_list;
        has_signs = length-set signs (due - 1) (not (get_or signs (due - 1) false)) ∙ g.has_signs;
        pending = record { negated = not sign; tree = turned.child } ∷ more;
        due_is = last;
        gathered = subst (λ (l : List Bool). Gathered ws list count l (record { negated = not sign; tree = turned.child } ∷ more) (at + 2))
            (ap (λ (i : ℕ). set signs i (not sign)) (sym top) ∙ ap (λ (b : Bool). set signs (due - 1) (not b)) (sym sign_is))
            (neg_turn ws list count signs sign more at turned.kind turned.child (sym turned.number_is ∙ kind_is ∙ e) (omega (arith, top, top_below, g.has_signs))
            (subst (λ (t : Expr). Gathered ws list count signs (record { negated = sign; tree = t } ∷ more) at) turned.is state));
      }

    -- ---- any other node

    behind : Front (tail at ws) tree
    behind = subst (λ (l : List ℕ). Front l tree) (sym (tail_drop at ws)) front

    behind_even : length (tail at ws) % 2 ≡ 0
    behind_even = omega (arith, length_tail at ws, left, length_encode tree, even_words more)

    behind_short : length (tail at ws) ≤ 1024
    behind_short = omega (arith, length_tail at ws, sum.short)

    module _ (no_add : get_or ws at 0 ≡ 2 → ⊥) (no_neg : get_or ws at 0 ≡ 8 → ⊥) where
      one_placed : placed tree at sign ≡ record { start = at; len = length (encode tree); negated = sign } ∷ []
      one_placed = single (drop at ws) tree front (λ e. no_add (sym kind_is ∙ e)) (λ e. no_neg (sym kind_is ∙ e)) at sign

      pub count_below : count < 256
      unfolding placed_all
      count_below =
          omega (arith, total, ap length state.all, length-append (take count list) (placed tree at sign ++ placed_all more (at + length (encode tree))), length-append (placed tree at sign) (placed_all more (at + length (encode tree))), ap length one_placed, length-take-le count list (omega (arith, g.counted, g.has_list)))

      module _ (c : std.Result ℕ Refusal) (h : outcome c ≡ span_of (tail at ws)) where
        pub length_read : is_ok c ≡ true
        length_read = by_answer c h
          where
            by_answer : (d : std.Result ℕ Refusal) → outcome d ≡ span_of (tail at ws) → is_ok d ≡ true
            by_answer (std.Ok n) e = refl
            by_answer (std.Err r) e = absurd (span_not_refused (tail at ws) tree behind.rest behind.words behind_even behind_short (reason_of r) e)

        module _ (n : ℕ) (e : c ≡ std.Ok n) where
          len_is : n ≡ length (encode tree)
          len_is = span_counted (tail at ws) tree behind.rest behind.words behind_even behind_short n (ap outcome (sym e) ∙ h)

          pub past_fits : Fits w64 (at + n)
          past_fits = omega (arith, len_is, left, g.within, sum.short)

          pub past_falls : length ws - (at + n) < length ws - at
          past_falls = omega (arith, len_is, left, length_encode tree, nodes_pos tree)

          pub gathering_one : Gathering sum (set list count (record { start = at; len = n; negated = get_or signs (due - 1) false })) (count + 1) signs (due - 1) (at + n)
          gathering_one = record {
            within = omega (arith, len_is, left, g.within);
            counted = omega (arith, count_below);
            has_list = length-set list count _ ∙ g.has_list;
            has_signs = g.has_signs;
            pending = more;
            due_is = top;
            gathered =
                subst (λ (b : Bool). Gathered ws (set list count (record { start = at; len = n; negated = b })) (count + 1) signs more (at + n)) (sym sign_is)
                (subst (λ (m : ℕ). Gathered ws (set list count (record { start = at; len = m; negated = sign })) (count + 1) signs more (at + m)) (sym len_is)
                (one_turn ws list count signs sign more at tree one_placed (omega (arith, count_below, g.has_list)) state));
          }

pub ruleset gathers = (gathering_first, gathered_are, gathered_count, kind_left, top_below, due_below, due_fits, gathering_add, gathering_neg, length_read, count_below, past_fits, past_falls, gathering_one)
