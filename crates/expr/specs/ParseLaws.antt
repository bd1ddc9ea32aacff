-- Words are accepted exactly if they are the words of a valid tree, and then they give that tree. Assumes nothing.
use Rattle.std.specs.Prelude.{◌≡◌, Bool, true, false, not, ◌&&◌, ℕ, zero, suc, ◌*◌, ◌%◌, ◌≤◌, T, leb, eqb, length, if◌then◌else◌}
use Rattle.std.proofs.Math.Path.{refl, sym, ap, ap₂}
use Rattle.std.proofs.Common.{◌∙◌, subst, pos_of_ne-zero, arith, leb→le}
use mathlib.Core.List.{List, [], ◌∷◌, ◌++◌, append_assoc, append-nil}
use Rattle.std.proofs.Math.Facts.{and_yes, yes_and, yes_leb, yes_eqb, no_eqb}
use Rattle.std.proofs.lemmas.Bool.{eqb-false}
use Rattle.arith.specs.ChoiceLaws.{if_yes, if_no}
use Rattle.expr.specs.Refusals.{refusal}
use Rattle.expr.specs.Outcome.{Outcome, refused, accepted, ◌and_then◌}
use Rattle.expr.specs.Expr.{Expr, leaf, unary, binary, unary_number, unary_operand, binary_number, encode, nodes, depth}
use Rattle.expr.specs.declared.kind.Binary.{Binary}
use Rattle.expr.specs.declared.kind.Binary.TheVariants.{Add, Mul, And, Or, Xor, Concat}
use Rattle.expr.specs.Parse.{Kind, none, one, two, kinds, kind_at, operand_ok, node_kind, children, node, subtree, word_count_ok, whole, parse, operands_ok, Valid, Accepts}
use Rattle.expr.specs.OutcomeLaws.{then_accepted}
use Rattle.expr.specs.KindLaws.{number, operand, kind_back, Reads, kind_reads}
use Rattle.expr.specs.ExprLaws.{length_encode, nodes_pos, depth_pos}

-- ---- the number of words

pub count_yes : (n : ℕ) → 1 ≤ n → n ≤ 512 → T (word_count_ok (2 * n))
unfolding word_count_ok
count_yes n a b =
    yes_and (not (eqb (2 * n) 0)) (leb (2 * n) 1024 && eqb (2 * n % 2) 0) (no_eqb {a = 2 * n} {b = 0} (λ (e : 2 * n ≡ 0). absurd (omega arith)))
    (yes_and (leb (2 * n) 1024) (eqb (2 * n % 2) 0) (yes_leb {a = 2 * n} {b = 1024} (omega arith)) (yes_eqb {a = 2 * n % 2} {b = 0} (omega arith)))

pub count_most : (n : ℕ) → T (word_count_ok n) → n ≤ 1024
unfolding word_count_ok
count_most n h =
    let p = and_yes (not (eqb n 0)) (leb n 1024 && eqb (n % 2) 0) h in
    leb→le n 1024 (and_yes (leb n 1024) (eqb (n % 2) 0) p.1).0

-- ---- the words of a valid tree give the tree

node_kind_lem : (κ : Kind) (d : ℕ) → T (operand_ok (number κ) (operand κ)) → node_kind (suc d) (number κ) (operand κ) ≡ accepted κ
unfolding node_kind
node_kind_lem κ d h =
    then_accepted (kind_back κ) _
    ∙ if_no (not (operand_ok (number κ) (operand κ))) _ _ (not_not (operand_ok (number κ) (operand κ)) h)
    ∙ if_no (eqb (suc d) 0) _ _ (no_eqb (λ (e : suc d ≡ 0). absurd (omega arith)))
  where
    not_not : (b : Bool) → T b → T (not (not b))
    not_not true t = tt
    not_not false t = t

two_ok : (k : Binary) → T (operand_ok (binary_number k) 0)
unfolding operand_ok
two_ok Add = tt
two_ok Mul = tt
two_ok And = tt
two_ok Or = tt
two_ok Xor = tt
two_ok Concat = tt

pub subtree_encode : (t : Expr) (d : ℕ) (rest : List ℕ) → depth t ≤ d → T (operands_ok t) → subtree d (encode t ++ rest) ≡ accepted (t, rest)
unfolding subtree node encode operands_ok depth
subtree_encode t zero rest h ok = absurd (omega (arith, depth_pos t))
subtree_encode (leaf k) (suc d) rest h ok = then_accepted (node_kind_lem (none k) d ok) _
subtree_encode (unary k t) (suc d) rest h ok =
    let p = and_yes (operand_ok (unary_number k) (unary_operand k)) (operands_ok t) ok in
    then_accepted (node_kind_lem (one k) d p.0) _
    ∙ then_accepted (subtree_encode t d rest (omega arith) p.1) _
subtree_encode (binary k l r) (suc d) rest h ok =
    let p = and_yes (operands_ok l) (operands_ok r) ok in
    then_accepted (node_kind_lem (two k) d (two_ok k)) _
    ∙ then_accepted (ap (subtree d) (append_assoc (encode l) (encode r) rest) ∙ subtree_encode l d (encode r ++ rest) (omega arith) p.0) _
    ∙ then_accepted (subtree_encode r d rest (omega arith) p.1) _

pub parse_encode : (t : Expr) → Valid t → parse (encode t) ≡ accepted t
unfolding parse
parse_encode t v =
    if_yes (word_count_ok (length (encode t))) _ _ (subst (λ (n : ℕ). T (word_count_ok n)) (sym (length_encode t)) (count_yes (nodes t) (nodes_pos t) v.count))
    ∙ then_accepted (ap (subtree 64) (sym (append-nil (encode t))) ∙ subtree_encode t 64 [] v.levels v.operands) whole

-- ---- what is accepted is the words of a valid tree

-- the words begin with those of a tree of at most d levels whose operands are in range, and the rest follows
pub record Begins (d : ℕ) (ws : List ℕ) (t : Expr) (rest : List ℕ) : Type 0 where
  pub words : ws ≡ encode t ++ rest
  pub levels : depth t ≤ d
  pub operands : T (operands_ok t)

-- a node that is not refused has a kind with its two words, an operand in range and a level
pub record NodeRead (levels k o : ℕ) (κ : Kind) : Type 0 where
  pub reads : Reads o k κ
  pub in_range : T (operand_ok k o)
  pub level : 1 ≤ levels

pub node_read : (levels k o : ℕ) {κ : Kind} → node_kind levels k o ≡ accepted κ → NodeRead levels k o κ
unfolding node_kind
node_read levels k o {κ} e = known (kind_at k (kinds o)) refl e
  where
    limits : Bool → Bool → Kind → Outcome Kind
    limits ok none_left μ = if not ok then refused (refusal 4) else if none_left then refused (refusal 5) else accepted μ

    within : (ok none_left : Bool) (μ : Kind) → operand_ok k o ≡ ok → eqb levels 0 ≡ none_left → limits ok none_left μ ≡ accepted κ → T (operand_ok k o) × (1 ≤ levels) × (μ ≡ κ)
    within true false μ p q g = (subst T (sym p) tt, pos_of_ne-zero (eqb-false levels 0 q), cc)
    within true true μ p q g = absurd (let z : ◌≡◌ {A = ℕ} 0 1 = cc in omega arith)
    within false none_left μ p q g = absurd (let z : ◌≡◌ {A = ℕ} 0 1 = cc in omega arith)

    known : (x : Outcome Kind) → kind_at k (kinds o) ≡ x → (x and_then limits (operand_ok k o) (eqb levels 0)) ≡ accepted κ → NodeRead levels k o κ
    known (refused r) f g = absurd (let z : ◌≡◌ {A = ℕ} 0 1 = cc in omega arith)
    known (accepted μ) f g =
        let w = within (operand_ok k o) (eqb levels 0) μ refl refl g in
        subst (NodeRead levels k o) w.2 (record { reads = kind_reads o k f; in_range = w.0; level = w.1 })

-- what a reading of the words has found
abbrev Found : ℕ → List ℕ → Outcome (Expr × List ℕ) → Type 0
Found d ws (refused r) = Unit
Found d ws (accepted p) = Begins d ws p.0 p.1

module _ (d : ℕ) (next : List ℕ → Outcome (Expr × List ℕ)) (found : (ws : List ℕ) → Found d ws (next ws)) where
  then_found : (ws vs : List ℕ) (o : Outcome (Expr × List ℕ)) (f : Expr × List ℕ → Outcome (Expr × List ℕ)) → Found d ws o
      → ((p : Expr × List ℕ) → Begins d ws p.0 p.1 → Found (suc d) vs (f p)) → Found (suc d) vs (o and_then f)
  then_found ws vs (refused r) f g h = tt
  then_found ws vs (accepted p) f g h = h p g

  children_found : (k o : ℕ) (ws : List ℕ) (κ : Kind) → k ≡ number κ → o ≡ operand κ → T (operand_ok k o) → Found (suc d) (k ∷ o ∷ ws) (children next κ ws)
  unfolding encode depth operands_ok
  children_found k o ws (none j) e f h = record {
    words = ap₂ (λ (a b : ℕ). a ∷ b ∷ ws) e f;
    levels = omega arith;
    operands = rw (← e, ← f) h;
  }
  children_found k o ws (one j) e f h =
      then_found ws (k ∷ o ∷ ws) (next ws) _ (found ws) (λ p b. record {
        words = (λ i. e i ∷ f i ∷ b.words i);
        levels = omega (arith, b.levels);
        operands = yes_and (operand_ok (unary_number j) (unary_operand j)) (operands_ok p.0) (rw (← e, ← f) h) b.operands;
      })
  children_found k o ws (two j) e f h =
      then_found ws (k ∷ o ∷ ws) (next ws) _ (found ws) (λ p b.
      then_found p.1 (k ∷ o ∷ ws) (next p.1) _ (found p.1) (λ q c. record {
        words = (λ i. e i ∷ f i ∷ b.words i) ∙ ap (λ (l : List ℕ). binary_number j ∷ 0 ∷ l) (ap (λ (l : List ℕ). encode p.0 ++ l) c.words ∙ sym (append_assoc (encode p.0) (encode q.0) q.1));
        levels = omega (arith, b.levels, c.levels);
        operands = yes_and (operands_ok p.0) (operands_ok q.0) b.operands c.operands;
      }))

  node_found : (ws : List ℕ) → Found (suc d) ws (node (suc d) next ws)
  unfolding node
  node_found [] = tt
  node_found (k ∷ []) = tt
  node_found (k ∷ o ∷ ws) = go (node_kind (suc d) k o) refl
    where
      go : (x : Outcome Kind) → node_kind (suc d) k o ≡ x → Found (suc d) (k ∷ o ∷ ws) (x and_then (λ κ. children next κ ws))
      go (refused r) e = tt
      go (accepted κ) e = let n = node_read (suc d) k o e in children_found k o ws κ n.reads.number_is (n.reads.operand_is n.in_range) n.in_range

-- where no level is left no node is read
none_found : (next : List ℕ → Outcome (Expr × List ℕ)) (ws : List ℕ) → Found 0 ws (node 0 next ws)
unfolding node
none_found next [] = tt
none_found next (k ∷ []) = tt
none_found next (k ∷ o ∷ ws) = go (node_kind 0 k o) refl
  where
    go : (x : Outcome Kind) → node_kind 0 k o ≡ x → Found 0 (k ∷ o ∷ ws) (x and_then (λ κ. children next κ ws))
    go (refused r) e = tt
    go (accepted κ) e = absurd (omega (arith, (node_read 0 k o e).level))

pub subtree_found : (d : ℕ) (ws : List ℕ) → Found d ws (subtree d ws)
unfolding subtree
subtree_found zero ws = none_found (λ r. refused (refusal 5)) ws
subtree_found (suc d) ws = node_found d (subtree d) (subtree_found d) ws

pub subtree_sound : (d : ℕ) (ws : List ℕ) (t : Expr) (rest : List ℕ) → subtree d ws ≡ accepted (t, rest) → Begins d ws t rest
subtree_sound d ws t rest e = subst (Found d ws) e (subtree_found d ws)

-- what is accepted is the words of a valid tree, and they are accepted
pub parse_sound : (ws : List ℕ) (t : Expr) → parse ws ≡ accepted t → Accepts ws t
unfolding parse
parse_sound ws t e = counted (word_count_ok (length ws)) refl e
  where
    ended : (x : Outcome (Expr × List ℕ)) → subtree 64 ws ≡ x → T (word_count_ok (length ws)) → (x and_then whole) ≡ accepted t → Accepts ws t
    ended (refused r) f h g = absurd (let z : ◌≡◌ {A = ℕ} 0 1 = cc in omega arith)
    ended (accepted (u, x ∷ xs)) f h g = absurd (let z : ◌≡◌ {A = ℕ} 0 1 = cc in omega arith)
    ended (accepted (u, [])) f h g =
        let b = subtree_sound 64 ws u [] f in
        let w = b.words ∙ append-nil (encode u) in
        let n : nodes u ≤ 512 = omega (arith, length_encode u, ap length w, count_most (length ws) h) in
        let s : u ≡ t = cc in
        subst (Accepts ws) s (record { words = w; valid = record { count = n; levels = b.levels; operands = b.operands } })

    counted : (b : Bool) → word_count_ok (length ws) ≡ b → (if b then subtree 64 ws and_then whole else refused (refusal 2)) ≡ accepted t → Accepts ws t
    counted true h g = ended (subtree 64 ws) refl (subst T (sym h) tt) g
    counted false h g = absurd (let z : ◌≡◌ {A = ℕ} 0 1 = cc in omega arith)

pub parse_complete : (ws : List ℕ) (t : Expr) → Accepts ws t → parse ws ≡ accepted t
parse_complete ws t a = ap parse a.words ∙ parse_encode t a.valid
