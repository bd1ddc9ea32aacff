-- The arity of a node, or its own refusal. Assumes nothing.
use mathlib.Core.Path.{◌≡◌, sym, ap, ◌∙◌}
use mathlib.Core.Bool.{Bool, true, false, not}
use Prim.Native.Nat.{ℕ, ◌%◌, ◌<◌, ◌≤◌}
use native.Mathlib.Omega.{arith}
use lib.Dec.{leb, eqb}
use borrow.Author.Tests.{eq-eqb, ne_eqb, not-true, not-false, lt-ltb, le-ltb, le-leb, lt-leb}
use Rattle.std.specs.Prelude.{if◌then◌else◌, Result, Ok, Err}
use Rattle.expr.specs.declared.refusal.Reason.{Reason}
use Rattle.expr.specs.declared.refusal.Refusal.{Refusal}
use Rattle.expr.specs.declared.Arity.{Arity}
use Rattle.expr.specs.Refusals.{refusal, reason_of}
use Rattle.expr.specs.Outcome.{Outcome, refused, accepted, mapped, ◌and_then◌}
use Rattle.expr.specs.OutcomeLaws.{then_accepted, Made, mapped_made}
use Rattle.expr.specs.Parse.{word_count_ok, Kind, arity, arity_of, kinds, kind_at, operand_ok, node_kind}
use Rattle.expr.specs.KindLaws.{arity_is}
use Rattle.expr.specs.Answers.{children_of, arity_outcome}

-- what the operand and the depth make of a known kind
limited : (levels k o : ℕ) {κ : Kind} → kind_at k (kinds o) ≡ accepted κ
    → node_kind levels k o ≡ (if not (operand_ok k o) then refused (refusal 4) else if eqb levels 0 then refused (refusal 5) else accepted κ)
unfolding node_kind
limited levels k o e = then_accepted e _

-- from what `arity_of` and `operand_ok` answer
module _ (levels k o : ℕ) (a : Result Arity Refusal) (e : arity_outcome a ≡ arity_of k) where
  pub unknown : (r : Refusal) → a ≡ Err r → refused (reason_of r) ≡ mapped arity (node_kind levels k o)
  unfolding node_kind
  unknown r f =
      let g : refused (reason_of r) ≡ mapped arity (kind_at k (kinds o)) = ap arity_outcome (sym f) ∙ e ∙ arity_is o k in
      go (kind_at k (kinds o)) _ g
    where
      go : (x : Outcome Kind) (f : Kind → Outcome Kind) {s : Reason} → refused s ≡ mapped arity x → refused s ≡ mapped arity (x and_then f)
      go (refused q) f h = h
      go (accepted κ) f h = absurd (let z : ◌≡◌ {A = ℕ} 0 1 = cc in omega arith)

  module _ (x : Arity) (z : a ≡ Ok x) (b : Bool) (f : b ≡ operand_ok k o) where
    kind : Made arity (kind_at k (kinds o)) (children_of x)
    kind = mapped_made arity (kind_at k (kinds o)) (ap arity_outcome (sym z) ∙ e ∙ arity_is o k)

    pub operand_refused : not b ≡ true → refused (refusal 4) ≡ mapped arity (node_kind levels k o)
    operand_refused g = rw (limited levels k o kind.was, sym f ∙ not-true b g)

    module _ (g : not b ≡ false) where
      pub depth_refused : levels ≡ 0 → refused (refusal 5) ≡ mapped arity (node_kind levels k o)
      depth_refused h = rw (limited levels k o kind.was, sym f ∙ not-false b g, eq-eqb levels 0 h)

      pub within : (levels ≡ 0 → ⊥) → accepted (children_of x) ≡ mapped arity (node_kind levels k o)
      within h = rw (limited levels k o kind.was, sym f ∙ not-false b g, ne_eqb levels 0 h, kind.made)

-- ---- `arity_of`

module _ (k : ℕ) where
  pub leaf_arity : k < 2 → accepted 0 ≡ arity_of k
  unfolding arity_of
  leaf_arity a = simp (lt-ltb k 2 a)

  pub binary_arity : 2 ≤ k → k < 7 → accepted 2 ≡ arity_of k
  unfolding arity_of
  binary_arity a b = simp (le-ltb k 2 a, lt-ltb k 7 b)

  pub unary_arity : 2 ≤ k → 7 ≤ k → k < 13 → accepted 1 ≡ arity_of k
  unfolding arity_of
  unary_arity a b c = simp (le-ltb k 2 a, le-ltb k 7 b, lt-ltb k 13 c)

  pub concat_arity : k ≡ 13 → accepted 2 ≡ arity_of k
  unfolding arity_of
  concat_arity e = rw e

  pub unknown_arity : 2 ≤ k → 7 ≤ k → 13 ≤ k → (k ≡ 13 → ⊥) → refused (refusal 3) ≡ arity_of k
  unfolding arity_of
  unknown_arity a b c d = simp (le-ltb k 2 a, le-ltb k 7 b, le-ltb k 13 c, ne_eqb k 13 d)

pub ruleset arities = (leaf_arity, binary_arity, unary_arity, concat_arity, unknown_arity)

-- ---- `word_count_ok`

module _ (n : ℕ) where
  pub empty : n ≡ 0 → false ≡ word_count_ok n
  unfolding word_count_ok
  empty e = rw e

  pub many : (n ≡ 0 → ⊥) → 1024 < n → false ≡ word_count_ok n
  unfolding word_count_ok
  many a b = simp (ne_eqb n 0 a, lt-leb n 1024 b)

  pub pairs : (n ≡ 0 → ⊥) → n ≤ 1024 → eqb (n % 2) 0 ≡ word_count_ok n
  unfolding word_count_ok
  pairs a b = simp (ne_eqb n 0 a, le-leb n 1024 b)

pub ruleset counts = (empty, many, pairs)

-- ---- `operand_ok`

module _ (k o : ℕ) where
  pub constant_operand : k ≡ 0 → true ≡ operand_ok k o
  unfolding operand_ok
  constant_operand e = rw e

  pub variable_operand : k ≡ 1 → leb o 4294967295 ≡ operand_ok k o
  unfolding operand_ok
  variable_operand e = rw e

  module _ (a : k ≡ 0 → ⊥) (b : k ≡ 1 → ⊥) where
    pub number_operand : 9 ≤ k → k < 13 → leb o 4294967295 ≡ operand_ok k o
    unfolding operand_ok
    number_operand c d = simp (ne_eqb k 0 a, ne_eqb k 1 b, le-leb 9 k c, le-leb k 12 (omega arith))

    pub below_operand : k < 9 → eqb o 0 ≡ operand_ok k o
    unfolding operand_ok
    below_operand c = simp (ne_eqb k 0 a, ne_eqb k 1 b, lt-leb 9 k c)

    pub above_operand : 9 ≤ k → 13 ≤ k → eqb o 0 ≡ operand_ok k o
    unfolding operand_ok
    above_operand c d = simp (ne_eqb k 0 a, ne_eqb k 1 b, le-leb 9 k c, lt-leb k 12 (omega arith))

pub ruleset operand_rules = (constant_operand, variable_operand, number_operand, below_operand, above_operand)
