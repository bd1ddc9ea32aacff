-- What a decision makes of a node's words. Assumes nothing.
use mathlib.Core.Path.{◌≡◌, refl, sym, ap, ap₂, subst, ◌∙◌}
use mathlib.Core.List.{List, [], ◌∷◌, ◌++◌, append_assoc, append-nil}
use mathlib.Core.Option.{Option, none, some}
use Prim.Native.Nat.{ℕ, ◌+◌, ◌*◌, ◌-◌, ◌≤◌}
use native.Mathlib.Omega.{arith}
use lib.ListN.{length, take, drop, get_or, length-append}
use lib.Seq.{take_at, drop_at}
use Rattle.std.specs.Prelude.{Some, None}
use Rattle.std.specs.Prelude as answered
use Rattle.expr.specs.declared.kind.Binary.{Binary}
use Rattle.expr.specs.Expr.{Expr, binary, binary_number, encode, nodes}
use Rattle.expr.specs.ExprLaws.{length_encode}
use Rattle.expr.specs.Outcome.{accepted}
use Rattle.expr.specs.Parse.{arity_of}
use Rattle.expr.specs.Parts.{tail, part}
use Rattle.expr.specs.Front.{Exactly, Whole, tree_at, left_of, right_of}
use Rattle.expr.specs.Trees.{operands_of}
use Rattle.expr.specs.OptionalLaws.{every_at}
use Rattle.rewriting.specs.MatchLaws.{operands}
use Rattle.expr.specs.Parts as slice
use Rattle.expr.specs.PartLaws.{two_children, left_exact, right_exact}
use Rattle.atom_simplifier.specs.declared.local.Decision.{Decision}
use Rattle.atom_simplifier.specs.Promises.{Within, Holds, Makes, Meaning, Decides}

module _ (ws : List ℕ) where
  pub decides_none : (o : Option Expr) → o ≡ none → Decides ws None o
  unfolding Meaning
  decides_none o e = subst (Decides ws None) (sym e) (record { is = refl })

  pub decides_some : (d : Decision) (o : Option Expr) (u : Expr) → o ≡ some u → Makes ws d u → Decides ws (Some d) o
  unfolding Meaning
  decides_some d o u e m = subst (Decides ws (Some d)) (sym e) (record { is = m })

  module _ (q : answered.Option Decision) (o : Option Expr) (h : Decides ws q o) where
    -- there is no decision exactly where the definition gives none
    pub none_decided : q ≡ None → o ≡ none
    unfolding Meaning
    none_decided e = go o (subst (λ (r : answered.Option Decision). Meaning ws r o) e h.is)
      where
        go : (p : Option Expr) → Meaning ws None p → p ≡ none
        go none m = refl
        go (some u) m = absurd m

    pub some_decided : (d : Decision) → q ≡ Some d → (u : Expr) × (o ≡ some u) × Makes ws d u
    unfolding Meaning
    some_decided d e = go o (subst (λ (r : answered.Option Decision). Meaning ws r o) e h.is)
      where
        go : (p : Option Expr) → Meaning ws (Some d) p → (u : Expr) × (p ≡ some u) × Makes ws d u
        go none m = absurd (let y = m in cc)
        go (some u) m = (u, refl, m)

-- what is not there
pub not_some : {A : Type 0} (v : answered.Option A) → ((a : A) → v ≡ Some a → ⊥) → v ≡ None
not_some None f = refl
not_some (Some a) f = absurd (f a refl)

-- ---- places

module _ (ws part : List ℕ) (at : ℕ) (p : Within ws at part) where
  -- the tree of a part
  pub part_holds : (half : ℕ) → at ≡ 2 * half → (t : Expr) → Exactly part t → Holds ws at (length part) t
  part_holds half e t x = record { within = subst (Within ws at) x.words p; words = ap length x.words; half = half; even = e }

  -- a part of a part
  pub part_within : (prefix inner suffix : List ℕ) → part ≡ prefix ++ (inner ++ suffix) → Within ws (at + length prefix) inner
  part_within prefix inner suffix e = record {
    prefix = p.prefix ++ prefix;
    suffix = suffix ++ p.suffix;
    words =
        p.words
        ∙ ap (λ (l : List ℕ). p.prefix ++ (l ++ p.suffix)) e
        ∙ (let s : p.prefix ++ ((prefix ++ (inner ++ suffix)) ++ p.suffix) ≡ (p.prefix ++ prefix) ++ (inner ++ (suffix ++ p.suffix)) = simp append_assoc in s);
    place = omega (arith, p.place, length-append p.prefix prefix);
  }

  -- it lies inside the words, and is what is cut out there
  pub within_inside : at + length part ≤ length ws
  within_inside = omega (arith, ap length p.words, length-append p.prefix (part ++ p.suffix), length-append part p.suffix, p.place)

  pub within_part : (n : ℕ) → n ≡ length part → slice.part at (at + n) ws ≡ part
  within_part n e =
      let m : length part ≡ at + n - at = omega arith in
      ap (λ (l : List ℕ). take (at + n - at) (drop at l)) p.words
      ∙ ap (take (at + n - at)) (drop_at p.prefix (part ++ p.suffix) at (sym p.place))
      ∙ take_at part p.suffix (at + n - at) m

-- a node's words: its own two, and those of its operands
module _ (k : Binary) (ws ls rs : List ℕ) (x : Whole ws) (y : Whole ls) (z : Whole rs) (e : some (tree_at ls, tree_at rs) ≡ operands_of k (tree_at ws)) where
  by_kind : ws ≡ binary_number k ∷ 0 ∷ (ls ++ rs)
  unfolding encode
  by_kind =
      x.words
      ∙ ap encode (every_at (λ (p : Expr × Expr). tree_at ws ≡ binary k p.0 p.1) (operands_of k (tree_at ws)) (operands k (tree_at ws)) (sym e))
      ∙ ap₂ (λ (us vs : List ℕ). binary_number k ∷ 0 ∷ (us ++ vs)) (sym y.words) (sym z.words)

  pub placed_words : ws ≡ get_or ws 0 0 ∷ 0 ∷ (ls ++ rs)
  placed_words = by_kind ∙ ap (λ (n : ℕ). n ∷ 0 ∷ (ls ++ rs)) (sym (ap (λ (us : List ℕ). get_or us 0 0) by_kind))

  module _ (at : ℕ) (h : at + length ws ≤ 1024) where
    pub left_inside : at + 2 + length ls ≤ 1024
    left_inside = omega (arith, ap length by_kind, length-append ls rs)

    pub right_inside : at + 2 + length ls + length rs ≤ 1024
    right_inside = omega (arith, ap length by_kind, length-append ls rs)

-- the operands of a node that is itself a part
module _ (ws node : List ℕ) (at : ℕ) (p : Within ws at node) (k : ℕ) (ls rs : List ℕ) (e : node ≡ k ∷ 0 ∷ (ls ++ rs)) where
  pub left_within : Within ws (at + 2) ls
  left_within = part_within ws node at p (k ∷ 0 ∷ []) ls rs e

  pub right_within : Within ws (at + 2 + length ls) rs
  right_within =
      let f : List ℕ = k ∷ 0 ∷ ls in
      let n : at + length f ≡ at + 2 + length ls = omega arith in
      subst (λ (i : ℕ). Within ws i rs) n (part_within ws node at p f rs [] (e ∙ ap (λ (us : List ℕ). f ++ us) (sym (append-nil rs))))

-- the whole of the words
pub all_within : (ws : List ℕ) → Within ws 0 ws
all_within ws = record { prefix = []; suffix = []; words = sym (append-nil ws); place = refl }

-- the operands of the node itself
module _ (node : List ℕ) (t : Expr) (x : Exactly node t) (a : arity_of (get_or node 0 0) ≡ accepted 2) (right : ℕ) (q : right ≡ 2 + length (encode (left_of t))) (ls rs : List ℕ) (f : ls ≡ part 2 right node) (g : rs ≡ tail right node) where
  pub left_words : Exactly ls (left_of t)
  left_words = subst (λ (us : List ℕ). Exactly us (left_of t)) (sym f) (left_exact node t x a right q)

  pub right_words : Exactly rs (right_of t)
  right_words = subst (λ (us : List ℕ). Exactly us (right_of t)) (sym g) (right_exact node t x a right q)

  halves : node ≡ get_or node 0 0 ∷ 0 ∷ (ls ++ rs)
  unfolding encode
  halves =
      let n = two_children node t x a in
      x.words ∙ ap encode n.is
      ∙ ap (λ (k : ℕ). k ∷ 0 ∷ (encode (left_of t) ++ encode (right_of t))) (sym n.number_is)
      ∙ ap₂ (λ (us vs : List ℕ). get_or node 0 0 ∷ 0 ∷ (us ++ vs)) (sym left_words.words) (sym right_words.words)

  pub left_behind : Within node 2 ls
  left_behind = left_within node node 0 (all_within node) (get_or node 0 0) ls rs halves

  pub right_behind : Within node right rs
  right_behind =
      let n : 0 + 2 + length ls ≡ right = omega (arith, q, ap length left_words.words) in
      subst (λ (i : ℕ). Within node i rs) n (right_within node node 0 (all_within node) (get_or node 0 0) ls rs halves)

  -- the right one's place is even
  pub right_even : right ≡ 2 * (1 + nodes (left_of t))
  right_even = omega (arith, q, length_encode (left_of t))

  pub left_holds : Holds node 2 (length ls) (left_of t)
  left_holds = part_holds node ls 2 left_behind 1 refl (left_of t) left_words

  pub right_holds : Holds node right (length rs) (right_of t)
  right_holds = part_holds node rs right right_behind (1 + nodes (left_of t)) right_even (right_of t) right_words

pub ruleset placed = (placed_words, left_inside, right_inside)
