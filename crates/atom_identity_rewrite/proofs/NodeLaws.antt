-- What the matchers ask of a tree. Assumes nothing.
use Rattle.std.specs.Prelude.{◌≡◌, refl, Bool, false, ℕ, ◌%◌, ◌^◌, ◌<◌, eqb, Option, Some, None}
use Rattle.std.specs.Option.{is_some}
use Rattle.std.proofs.Common.{sym, ap, ◌∙◌}
use Rattle.std.proofs.Math.Option as option
use Rattle.std.proofs.Math.Option.{none, some}
use Rattle.arith.specs.Arith.{low_bits}
use Rattle.arith.specs.ArithLaws.{low_word}
use Rattle.expr.specs.Expr.{Expr, leaf, unary, binary, encode}
use Rattle.expr.specs.declared.kind.Leaf.TheVariants.{Constant, Variable}
use Rattle.expr.specs.declared.kind.Unary.TheVariants.{Not, Neg, Shr, ZExt, SExt, Trunc}
use Rattle.expr.specs.Optional.{map, ◌and_then◌, option_of}
use Rattle.expr.specs.OptionalLaws.{then_never}
use Rattle.expr.specs.declared.kind.Binary.TheVariants.{And, Or}
use Rattle.rewriting.specs.MatchLaws.{not_operand}
use Rattle.expr.specs.SameWords.{same_words}
use Rattle.expr.specs.Trees.{constant_of, operand_of, operands_of}
use Rattle.rewriting.specs.AtomIdentityRewrite.{expr_eq, is_not_of, beside_not_of, and_of_or_not, is_masked, is_constant_node, is_there}
use Rattle.atom_identity_rewrite.specs.declared.node.Factor.{Factor}
use Rattle.atom_identity_rewrite.specs.declared.node.Factor.TheVariants as factor
use Rattle.atom_identity_rewrite.specs.Promises.{factor_of}

-- p of what is there
abbrev holds : {A : Type 0} → (A → Bool) → option.Option A → Bool
holds p none = false
holds p (some a) = p a

-- ---- `is_not_of`

not_of : (t u : Expr) → holds (λ s. expr_eq s u) (operand_of Not t) ≡ is_not_of t u
unfolding operand_of is_not_of
not_of (leaf k) u = refl
not_of (unary Not t) u = refl
not_of (unary Neg t) u = refl
not_of (unary (Shr n) t) u = refl
not_of (unary (ZExt n) t) u = refl
not_of (unary (SExt n) t) u = refl
not_of (unary (Trunc n) t) u = refl
not_of (binary k l r) u = refl

module _ (t u : Expr) where
  pub not_none : none ≡ operand_of Not t → false ≡ is_not_of t u
  not_none e = ap (holds (λ s. expr_eq s u)) e ∙ not_of t u

  pub not_some : (s : Expr) → some s ≡ operand_of Not t → (b : Bool) → b ≡ same_words (encode s) (encode u) → b ≡ is_not_of t u
  unfolding expr_eq
  not_some s e b f = f ∙ ap (holds (λ s. expr_eq s u)) e ∙ not_of t u

-- ---- `and_of_or_not`

pub no_not : (t u : Expr) → none ≡ operand_of Not u → none ≡ and_of_or_not t u
unfolding and_of_or_not
no_not t u e = sym (then_never (operands_of Or t) _ (λ (l, r). ap (λ (o : option.Option Expr). o and_then λ a. map (binary And a) (beside_not_of a l r)) (sym (not_operand u) ∙ sym e)))

-- ---- `is_masked`, `is_factor`

masked_of : (w n : ℕ) (t : Expr) → holds (λ c. eqb (c % 2 ^ w) n) (constant_of t) ≡ is_masked w n t
unfolding is_masked
masked_of w n (leaf (Constant c)) = refl
masked_of w n (leaf (Variable i)) = refl
masked_of w n (unary k t) = refl
masked_of w n (binary k l r) = refl

pub masked_low : (w n c : ℕ) {v : ℕ} → c < 2 ^ 64 → v ≡ low_bits c w → eqb v n ≡ eqb (c % 2 ^ w) n
masked_low w n c h e = ap (λ (m : ℕ). eqb m n) (e ∙ low_word w c h)

constant_there : (t : Expr) → is_there (constant_of t) ≡ is_constant_node t
unfolding is_constant_node
constant_there (leaf (Constant c)) = refl
constant_there (leaf (Variable i)) = refl
constant_there (unary k t) = refl
constant_there (binary k l r) = refl

there_is : (o : Option ℕ) → is_some o ≡ is_there (option_of o)
there_is None = refl
there_is (Some c) = refl

module _ (t : Expr) (o : Option ℕ) (h : option_of o ≡ constant_of t) where
  pub masked_none : (w n : ℕ) → o ≡ None → false ≡ is_masked w n t
  masked_none w n e = ap (holds (λ c. eqb (c % 2 ^ w) n)) (ap option_of (sym e) ∙ h) ∙ masked_of w n t

  pub masked_some : (w n c : ℕ) → o ≡ Some c → c < 2 ^ 64 → (v : ℕ) → v ≡ low_bits c w → eqb v n ≡ is_masked w n t
  masked_some w n c e k v f = masked_low w n c k f ∙ ap (holds (λ c. eqb (c % 2 ^ w) n)) (ap option_of (sym e) ∙ h) ∙ masked_of w n t

  pub constant_factor : (f : Factor) → f ≡ factor.Constant → is_some o ≡ factor_of f t
  constant_factor f e = there_is o ∙ ap is_there h ∙ constant_there t ∙ sym (ap (λ (g : Factor). factor_of g t) e)
