-- A kind and its two words. Assumes nothing.
use Rattle.std.specs.Prelude.{◌≡◌, refl, List, [], ◌∷◌, ℕ, zero, suc, ◌≤◌, T, eqb, length}
use Rattle.std.proofs.Common.{ap, ◌∙◌, subst, arith, eqb→eq, leb→le, le-ltb, ne_eqb}
use Rattle.expr.specs.declared.refusal.Reason.{Reason}
use Rattle.expr.specs.Refusals.{refusal}
use Rattle.expr.specs.Outcome.{Outcome, refused, accepted, mapped}
use Rattle.expr.specs.Expr.{leaf_number, leaf_operand, unary_number, unary_operand, binary_number}
use Rattle.expr.specs.declared.kind.Leaf.TheVariants.{Constant, Variable}
use Rattle.expr.specs.declared.kind.Unary.{Unary}
use Rattle.expr.specs.declared.kind.Unary.TheVariants.{Not, Neg, Shr, ZExt, SExt, Trunc}
use Rattle.expr.specs.declared.kind.Binary.{Binary}
use Rattle.expr.specs.declared.kind.Binary.TheVariants.{Add, Mul, And, Or, Xor, Concat}
use Rattle.expr.specs.Parse.{Kind, none, one, two, arity, arity_of, kinds, kind_at, operand_ok}

-- the kind word and the operand word
abbrev pub number : Kind → ℕ
number (none k) = leaf_number k
number (one k) = unary_number k
number (two k) = binary_number k

abbrev pub operand : Kind → ℕ
operand (none k) = leaf_operand k
operand (one k) = unary_operand k
operand (two k) = 0

-- ---- from a kind to its words

-- the two words tell the kind
pub kind_back : (κ : Kind) → kind_at (number κ) (kinds (operand κ)) ≡ accepted κ
unfolding kind_at
kind_back (none (Constant c)) = refl
kind_back (none (Variable i)) = refl
kind_back (one Not) = refl
kind_back (one Neg) = refl
kind_back (one (Shr k)) = refl
kind_back (one (ZExt w)) = refl
kind_back (one (SExt w)) = refl
kind_back (one (Trunc w)) = refl
kind_back (two Add) = refl
kind_back (two Mul) = refl
kind_back (two And) = refl
kind_back (two Or) = refl
kind_back (two Xor) = refl
kind_back (two Concat) = refl

pub same_kind_lem : (κ μ : Kind) → number κ ≡ number μ → operand κ ≡ operand μ → κ ≡ μ
same_kind_lem κ μ e f =
    let p = kind_back κ in
    let q = kind_back μ in
    let r : kind_at (number κ) (kinds (operand κ)) ≡ kind_at (number μ) (kinds (operand μ)) = (λ i. kind_at (e i) (kinds (f i))) in
    cc

-- a kind with two children holds no number, so its kind word alone tells it
pub same_binary : (k j : Binary) → binary_number k ≡ binary_number j → k ≡ j
same_binary k j e = let f = same_kind_lem (two k) (two j) e refl in cc

-- the kind word tells the number of children
pub number_arity : (κ : Kind) → arity_of (number κ) ≡ accepted (arity κ)
unfolding arity_of
number_arity (none (Constant c)) = refl
number_arity (none (Variable i)) = refl
number_arity (one Not) = refl
number_arity (one Neg) = refl
number_arity (one (Shr k)) = refl
number_arity (one (ZExt w)) = refl
number_arity (one (SExt w)) = refl
number_arity (one (Trunc w)) = refl
number_arity (two Add) = refl
number_arity (two Mul) = refl
number_arity (two And) = refl
number_arity (two Or) = refl
number_arity (two Xor) = refl
number_arity (two Concat) = refl

pub not_arity : {n : ℕ} → n ≡ 7 → arity_of n ≡ accepted 1
not_arity e = ap arity_of e ∙ number_arity (one Not)

-- the operand of a node with one child has 32 bits
pub unary_operand_lem : (k : Unary) → T (operand_ok (unary_number k) (unary_operand k)) → unary_operand k ≤ 4294967295
unfolding operand_ok
unary_operand_lem Not h = omega arith
unary_operand_lem Neg h = omega arith
unary_operand_lem (Shr n) h = leb→le n 4294967295 h
unary_operand_lem (ZExt n) h = leb→le n 4294967295 h
unary_operand_lem (SExt n) h = leb→le n 4294967295 h
unary_operand_lem (Trunc n) h = leb→le n 4294967295 h

-- ---- from words to their kind

-- P of each place of a list and the kind there
abbrev Each : (ℕ → Kind → Type 0) → List Kind → Type 0
Each P [] = Unit
Each P (κ ∷ κs) = P 0 κ × Each (λ i. P (suc i)) κs

at_each : (P : ℕ → Kind → Type 0) (κs : List Kind) (k : ℕ) {κ : Kind} → Each P κs → kind_at k κs ≡ accepted κ → P k κ
unfolding kind_at
at_each P [] k h e = absurd (let z : ◌≡◌ {A = ℕ} 0 1 = cc in omega arith)
at_each P (μ ∷ κs) zero {κ} h e = let f : μ ≡ κ = cc in subst (P 0) f h.0
at_each P (μ ∷ κs) (suc k) h e = at_each (λ i. P (suc i)) κs k h.1 e

-- the two words of a kind are those that it was read from
pub record Reads (o k : ℕ) (κ : Kind) : Type 0 where
  pub number_is : k ≡ number κ
  pub operand_is : T (operand_ok k o) → o ≡ operand κ

-- a kind that holds its operand, and one whose operand is 0
module _ (o k : ℕ) (κ : Kind) (e : k ≡ number κ) where
  held : o ≡ operand κ → Reads o k κ
  held f = record { number_is = e; operand_is = λ t. f }

  bare : 0 ≡ operand κ → (T (operand_ok k o) → T (eqb o 0)) → Reads o k κ
  bare f g = record { number_is = e; operand_is = λ t. eqb→eq o 0 (g t) ∙ f }

infixr 1 ◌next◌
-- a row of the table and the rows after it
◌next◌ : {A B : Type 0} → A → B → A × B
◌next◌ a b = (a, b)

pub kind_reads : (o k : ℕ) {κ : Kind} → kind_at k (kinds o) ≡ accepted κ → Reads o k κ
unfolding operand_ok
kind_reads o k e =
    at_each (Reads o) (kinds o) k
    (held o 0 _ refl refl
    next held o 1 _ refl refl
    next bare o 2 _ refl refl (λ t. t)
    next bare o 3 _ refl refl (λ t. t)
    next bare o 4 _ refl refl (λ t. t)
    next bare o 5 _ refl refl (λ t. t)
    next bare o 6 _ refl refl (λ t. t)
    next bare o 7 _ refl refl (λ t. t)
    next bare o 8 _ refl refl (λ t. t)
    next held o 9 _ refl refl
    next held o 10 _ refl refl
    next held o 11 _ refl refl
    next held o 12 _ refl refl
    next bare o 13 _ refl refl (λ t. t)
    next tt)
    e

-- past the list there is no kind, and no number of children
at_past : (κs : List Kind) (k : ℕ) {r : Reason} → kind_at k κs ≡ refused r → (length κs ≤ k) × (refusal 3 ≡ r)
unfolding kind_at
at_past [] k e = (omega arith, cc)
at_past (κ ∷ κs) zero e = absurd (let z : ◌≡◌ {A = ℕ} 0 1 = cc in omega arith)
at_past (κ ∷ κs) (suc k) e = let h = at_past κs k e in (omega arith, h.1)

arity_past : (k : ℕ) → 14 ≤ k → arity_of k ≡ refused (refusal 3)
unfolding arity_of
arity_past k h = simp (le-ltb k 2 (omega arith), le-ltb k 7 (omega arith), le-ltb k 13 (omega arith), ne_eqb k 13 (λ e. omega arith))

-- the document's ranges count the children of the kind at that place
pub arity_is : (o k : ℕ) → arity_of k ≡ mapped arity (kind_at k (kinds o))
arity_is o k = go (kind_at k (kinds o)) refl
  where
    go : (r : Outcome Kind) → kind_at k (kinds o) ≡ r → arity_of k ≡ mapped arity r
    go (refused r) e = let h = at_past (kinds o) k e in arity_past k h.0 ∙ ap refused h.1
    go (accepted κ) e = ap arity_of (kind_reads o k e).number_is ∙ number_arity κ
