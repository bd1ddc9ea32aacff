-- What `fold_at` has found of a node, from what it has found of its children. Assumes nothing.
use mathlib.Core.Path.{◌≡◌, sym, subst, ◌∙◌}
use mathlib.Core.List.{List}
use Prim.Native.Nat.{ℕ, ◌+◌, ◌≤◌}
use native.Mathlib.Omega.{arith}
use lib.Dec.{T, leb→le}
use lib.ListN.{length, get_or}
use Rattle.expr.specs.declared.Arity.{Arity}
use Rattle.expr.specs.declared.Arity.TheVariants.{Zero, One, Two}
use Rattle.expr.specs.Outcome.{accepted}
use Rattle.expr.specs.Expr.{Expr, leaf, unary, binary, leaf_number, leaf_operand, unary_number, unary_operand, binary_number, nodes}
use Rattle.expr.specs.declared.kind.Leaf.{Leaf}
use Rattle.expr.specs.declared.kind.Leaf.TheVariants.{Constant, Variable}
use Rattle.expr.specs.declared.kind.Unary.{Unary}
use Rattle.expr.specs.declared.kind.Binary.{Binary}
use Rattle.expr.specs.ExprLaws.{length_encode}
use Rattle.expr.specs.Parse.{arity_of, operand_ok}
use Rattle.expr.specs.KindLaws.{unary_operand_lem}
use Rattle.expr.specs.Answers.{children_of}
use Rattle.expr.specs.Front.{Starts, Read}
use Rattle.expr.specs.FrontLaws.{front_length, leaf_node, unary_node, leaf_spans, unary_spans, binary_spans, leaf_holds, unary_holds, binary_holds}
use Rattle.expr.specs.Parts.{tail}
use Rattle.expr.specs.TailLaws.{length_tail}

-- what holds of every small tree holds of the one that was read
pub read_fits : (ws : List ℕ) (s : Starts ws) → length ws ≤ 1024 → (n : ℕ) (P Q : Expr → Type 0) → Read ws n P
    → ((t : Expr) → nodes t ≤ 512 → P t → Q t) → Q s.tree
read_fits ws s l n P Q r h = h s.tree (omega (arith, front_length ws s.tree s.front, length_encode s.tree)) (r.holds s.tree s.front)

-- a Variable's number fits in 32 bits
variable_small : (k : Leaf) → T (operand_ok (leaf_number k) (leaf_operand k)) → leaf_number k ≡ 1 → leaf_operand k ≤ 4294967295
unfolding operand_ok
variable_small (Constant c) h e = absurd (omega arith)
variable_small (Variable i) h e = leb→le i 4294967295 h

-- the operands that are held fit in 32 bits
module _ (ws : List ℕ) (s : Starts ws) (a : Arity) (e : accepted (children_of a) ≡ arity_of (get_or ws 0 0)) where
  pub leaf_fits : a ≡ Zero → get_or ws 0 0 ≡ 1 → get_or ws 1 0 ≤ 4294967295
  leaf_fits g f = let n = leaf_node ws a e s.tree g s.front in omega (arith, n.operand_is, variable_small n.kind n.in_range (sym n.number_is ∙ f))

  pub unary_operand_fits : a ≡ One → get_or ws 1 0 ≤ 4294967295
  unary_operand_fits g = let n = unary_node ws a e s.tree g s.front in omega (arith, n.operand_is, unary_operand_lem n.kind n.in_range)

module _ (ws : List ℕ) (a : Arity) (e : accepted (children_of a) ≡ arity_of (get_or ws 0 0)) (P : Expr → Type 0) where
  pub leaf_read : a ≡ Zero → (y : Leaf) → ((k : Leaf) → get_or ws 0 0 ≡ leaf_number k → get_or ws 1 0 ≡ leaf_operand k → y ≡ k) → P (leaf y) → Read ws 2 P
  leaf_read g y d h = record { spans = leaf_spans ws a e g; holds = λ t f. leaf_holds ws a e t f P g (λ k i j. subst (λ (x : Leaf). P (leaf x)) (d k i j) h) }

  pub unary_read : a ≡ One → (n : ℕ) (Q : Expr → Type 0) → Read (tail 2 ws) n Q
      → (y : Unary) → ((k : Unary) → get_or ws 0 0 ≡ unary_number k → get_or ws 1 0 ≡ unary_operand k → y ≡ k)
      → ((t : Expr) → Q t → P (unary y t)) → Read ws (n + 2) P
  unary_read g n Q q y d h = record {
    spans = unary_spans ws a e n q.spans g;
    holds = λ t f. unary_holds ws a e t f P Q n g q (λ k u i j b. subst (λ (x : Unary). P (unary x u)) (d k i j) (h u b));
  }

  pub binary_read : a ≡ Two → (n m : ℕ) (Q R : Expr → Type 0) → Read (tail 2 ws) n Q → Read (tail n (tail 2 ws)) m R
      → (y : Binary) → ((k : Binary) → get_or ws 0 0 ≡ binary_number k → y ≡ k)
      → ((l r : Expr) → Q l → R r → P (binary y l r)) → Read ws (n + m + 2) P
  binary_read g n m Q R q r y d h = record {
    spans = binary_spans ws a e n q.spans m r.spans g;
    holds = λ t f. binary_holds ws a e t f P Q R n m g q r (λ k u v i b c. subst (λ (x : Binary). P (binary x u v)) (d k i) (h u v b c));
  }

pub few_left : (n : ℕ) (ws : List ℕ) → length ws ≤ 1024 → length (tail n ws) ≤ 1024
few_left n ws l = omega (arith, length_tail n ws)
