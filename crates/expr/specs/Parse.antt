-- Reading words: the refusals 2, 6, 3, 4, 5 and 7 in document 01's order. Definitions only.
use Rattle.std.specs.Prelude.{◌≡◌, Bool, true, not, ◌&&◌, ◌||◌, List, [], ◌∷◌, ℕ, zero, suc, ◌%◌, ◌≤◌, T, leb, ltb, eqb, length, if◌then◌else◌}
use Rattle.expr.specs.Refusals.{refusal}
use Rattle.expr.specs.Outcome.{Outcome, refused, accepted, ◌and_then◌}
use Rattle.expr.specs.Expr.{Expr, leaf, unary, binary, leaf_number, leaf_operand, unary_number, unary_operand, encode, nodes, depth}
use Rattle.expr.specs.declared.kind.Leaf.{Leaf}
use Rattle.expr.specs.declared.kind.Leaf.TheVariants.{Constant, Variable}
use Rattle.expr.specs.declared.kind.Unary.{Unary}
use Rattle.expr.specs.declared.kind.Unary.TheVariants.{Not, Neg, Shr, ZExt, SExt, Trunc}
use Rattle.expr.specs.declared.kind.Binary.{Binary}
use Rattle.expr.specs.declared.kind.Binary.TheVariants.{Add, Mul, And, Or, Xor, Concat}

-- a kind, by its number of children: the Rust's `Kind`
pub data Kind : Type 0 where
  none : Leaf → Kind
  one : Unary → Kind
  two : Binary → Kind

-- that number: the Rust's `Kind::arity`
abbrev pub arity : Kind → ℕ
arity (none k) = 0
arity (one k) = 1
arity (two k) = 2

-- the number of children of a kind word: leaves are below 2, binary kinds below 7, unary kinds below 13, and 13, Concat, is
-- binary again; refusal 3 above that
unfoldable pub arity_of : ℕ → Outcome ℕ
arity_of k =
    if ltb k 2 then accepted 0 else
    if ltb k 7 then accepted 2 else
    if ltb k 13 then accepted 1 else
    if eqb k 13 then accepted 2 else
    refused (refusal 3)

-- the kinds in the order of their numbers, with o for the number that a kind holds
abbrev pub kinds : ℕ → List Kind
kinds o =
    none (Constant o) ∷ none (Variable o) ∷ two Add ∷ two Mul ∷ two And ∷ two Or ∷ two Xor ∷ one Not ∷ one Neg
    ∷ one (Shr o) ∷ one (ZExt o) ∷ one (SExt o) ∷ one (Trunc o) ∷ two Concat ∷ []

-- the kind at place k of a list; 3 where the list is shorter
unfoldable pub kind_at : ℕ → List Kind → Outcome Kind
kind_at k [] = refused (refusal 3)
kind_at zero (κ ∷ κs) = accepted κ
kind_at (suc k) (κ ∷ κs) = kind_at k κs

-- which operand words a kind allows: Constant all of them; Variable and the kinds that hold a shift or a width, 9 to 12, those of 32
-- bits; every other kind 0 alone
unfoldable pub operand_ok : ℕ → ℕ → Bool
operand_ok k o =
    if eqb k 0 then true else
    if eqb k 1 || (leb 9 k && leb k 12) then leb o 4294967295 else
    eqb o 0

-- a node's kind, or its own refusal, with `levels` levels left for it and what is below it: 3, 4, 5 in this order
unfoldable pub node_kind : ℕ → ℕ → ℕ → Outcome Kind
node_kind levels k o =
    kind_at k (kinds o) and_then (λ κ.
    if not (operand_ok k o) then refused (refusal 4) else
    if eqb levels 0 then refused (refusal 5) else
    accepted κ)

-- a node of that kind over its children, each read by `next`, and the words after it
abbrev pub children : (List ℕ → Outcome (Expr × List ℕ)) → Kind → List ℕ → Outcome (Expr × List ℕ)
children next (none k) ws = accepted (leaf k, ws)
children next (one k) ws = next ws and_then (λ p. accepted (unary k p.0, p.1))
children next (two k) ws = next ws and_then (λ p. next p.1 and_then (λ q. accepted (binary k p.0 q.0, q.1)))

-- a node with so many levels left, its children read by `next`, and the words after it; 6 where the words end before the node is whole
unfoldable pub node : ℕ → (List ℕ → Outcome (Expr × List ℕ)) → List ℕ → Outcome (Expr × List ℕ)
node levels next [] = refused (refusal 6)
node levels next (k ∷ []) = refused (refusal 6)
node levels next (k ∷ o ∷ ws) = node_kind levels k o and_then (λ κ. children next κ ws)

-- the subtree that the words begin with, of at most so many levels; with none left the node itself is refused, so that nothing below it
-- is read
unfoldable pub subtree : ℕ → List ℕ → Outcome (Expr × List ℕ)
subtree zero = node zero (λ ws. refused (refusal 5))
subtree (suc levels) = node (suc levels) (subtree levels)

-- the words are a whole number of nodes, from 1 to 512
unfoldable pub word_count_ok : ℕ → Bool
word_count_ok n = not (eqb n 0) && (leb n 1024 && eqb (n % 2) 0)

-- 7 where words are left over
abbrev pub whole : Expr × List ℕ → Outcome Expr
whole (t, []) = accepted t
whole (t, w ∷ ws) = refused (refusal 7)

-- the tree that the words are, or the refusal
unfoldable pub parse : List ℕ → Outcome Expr
parse ws = if word_count_ok (length ws) then subtree 64 ws and_then whole else refused (refusal 2)

-- ---- the trees whose words are accepted: `parse_sound` and `parse_complete` of ParseLaws are stated with these

-- the operands of a tree are in range
unfoldable pub operands_ok : Expr → Bool
operands_ok (leaf k) = operand_ok (leaf_number k) (leaf_operand k)
operands_ok (unary k t) = operand_ok (unary_number k) (unary_operand k) && operands_ok t
operands_ok (binary k l r) = operands_ok l && operands_ok r

-- a tree within document 01's limits; that a word has 64 bits is the code's limit, and no list that it is lent can break it
pub record Valid (t : Expr) : Type 0 where
  pub count : nodes t ≤ 512
  pub levels : depth t ≤ 64
  pub operands : T (operands_ok t)

-- the words are those of the tree, and the tree is valid
pub record Accepts (ws : List ℕ) (t : Expr) : Type 0 where
  pub words : ws ≡ encode t
  pub valid : Valid t
