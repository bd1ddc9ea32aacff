-- What the local rewrite does to the shape of a tree: it cuts the tree down, or it is a step of De Morgan's laws. Assumes nothing.
use Rattle.std.specs.Prelude.{◌≡◌, refl, ◌⊎◌, ◌&&◌, ◌||◌, ℕ, ◌+◌, ◌≤◌, ◌<◌, T, eqb}
use Rattle.std.proofs.Common.{sym, inl}
use Rattle.std.proofs.Math.Path.{subst, ap}
use Rattle.std.proofs.Math.Logic.{inr}
use Rattle.std.proofs.Math.Option.{none, some}
use native.Mathlib.Omega.{arith}
use Rattle.std.proofs.Math.Dec.{not_T}
use Rattle.arith.specs.Bv.{ones}
use Rattle.arith.specs.ChoiceLaws.{if_yes, if_no}
use Rattle.expr.specs.Expr.{Expr, leaf, unary, binary, nodes}
use Rattle.expr.specs.declared.kind.Unary.{Unary}
use Rattle.expr.specs.declared.kind.Unary.TheVariants.{Not, Neg, Shr, ZExt, SExt, Trunc}
use Rattle.expr.specs.declared.kind.Binary.{Binary}
use Rattle.expr.specs.declared.kind.Binary.TheVariants.{Add, Mul, And, Or, Xor, Concat}
use Rattle.expr.specs.ExprLaws.{nodes_pos}
use Rattle.expr.specs.Optional.{◌and_then◌, ◌or_else◌, ◌equals_some◌}
use Rattle.expr.specs.OptionalLaws.{Every, if_case, every_only_if, every_at}
use Rattle.rewriting.specs.AtomSimplifier.{constant, not, is_not_kind, is_not, constant_val, same_part, are_complements, contains_operand, Bitwise, and, or, xor, constant_arms, arms, reassociate_constant, try_fold_binary, de_morgan, not_rewrite, unary_rewrite, unless_same, fold_rewrite, binary_rewrite, local_rewrite}
use Rattle.rewriting.specs.TestLaws.{same_part→eq, eq→same_part}
use Rattle.rewriting.specs.FoldLaws.{node, Folding, at_reassociation, at_fold}

infix 4 ◌⊑◌
-- the left tree is the right one cut down: a part of it, a constant in its place, its operands swapped, any of these again and again
pub data ◌⊑◌ : Expr → Expr → Type 0 where
  to_constant : {c : ℕ} {t : Expr} → constant c ⊑ t
  as_it_is : {t : Expr} → t ⊑ t
  child : {k : Unary} {t : Expr} → t ⊑ unary k t
  left : {k : Binary} {l r : Expr} → l ⊑ binary k l r
  right : {k : Binary} {l r : Expr} → r ⊑ binary k l r
  both : {k : Binary} {u v l r : Expr} → u ⊑ l → v ⊑ r → binary k u v ⊑ binary k l r
  swapped : {k : Binary} {l r : Expr} → binary k r l ⊑ binary k l r
  in_turn : {s t u : Expr} → u ⊑ s → s ⊑ t → u ⊑ t

-- t is cut down to u, and u has fewer nodes
pub record Less (t u : Expr) : Type 0 where
  pub cut : u ⊑ t
  pub fewer : nodes u < nodes t

-- And and Or, each the other's dual
pub data Dual : Binary → Binary → Type 0 where
  and_or_lem : Dual And Or
  or_and : Dual Or And

-- De Morgan's laws, where a Not stands directly under the And or Or
pub data DeMorgan : Expr → Expr → Type 0 where
  over : {k j : Binary} {a b : Expr} → Dual k j → T (is_not a || is_not b) → DeMorgan (not (binary k a b)) (binary j (not a) (not b))

-- what a local rewrite is
pub data Change (t u : Expr) : Type 0 where
  less : Less t u → Change t u
  turned_over : DeMorgan t u → Change t u

-- ---- a count of a tree that is cut down

-- f counts in a constant no more than in any tree, and in a node at least what it counts in the children: with two, their sum and a number
-- for the kind
pub record Adds (f : Expr → ℕ) : Type 0 where
  pub in_constant : (c : ℕ) (t : Expr) → f (constant c) ≤ f t
  pub in_unary : (k : Unary) (t : Expr) → f t ≤ f (unary k t)
  pub in_kind : Binary → ℕ
  pub in_binary : (k : Binary) (l r : Expr) → f (binary k l r) ≡ in_kind k + f l + f r

module _ (f : Expr → ℕ) (a : Adds f) where
  pub cut_counts : {t u : Expr} → u ⊑ t → f u ≤ f t
  cut_counts (to_constant {c} {t}) = a.in_constant c t
  cut_counts as_it_is = omega arith
  cut_counts (child {k} {t}) = a.in_unary k t
  cut_counts (left {k} {l} {r}) = omega (arith, a.in_binary k l r)
  cut_counts (right {k} {l} {r}) = omega (arith, a.in_binary k l r)
  cut_counts (both {k} {u} {v} {l} {r} g h) = omega (arith, a.in_binary k u v, a.in_binary k l r, cut_counts g, cut_counts h)
  cut_counts (swapped {k} {l} {r}) = omega (arith, a.in_binary k l r, a.in_binary k r l)
  cut_counts (in_turn g h) = omega (arith, cut_counts g, cut_counts h)

-- ---- a node and less than it

module _ (k : Binary) (l r : Expr) where
  pub less_constant : (c : ℕ) → Less (binary k l r) (constant c)
  unfolding nodes
  less_constant c = record { cut = to_constant; fewer = omega (arith, nodes_pos l, nodes_pos r) }

  pub less_left : Less (binary k l r) l
  unfolding nodes
  less_left = record { cut = left; fewer = omega arith }

  pub less_right : Less (binary k l r) r
  unfolding nodes
  less_right = record { cut = right; fewer = omega arith }

-- ---- the local rewrite of a node with one child

de_morgan_change : (k : Binary) (a b : Expr) → T (is_not a || is_not b) → Every (Change (not (binary k a b))) (de_morgan k a b)
de_morgan_change Add a b h = tt
de_morgan_change Mul a b h = tt
de_morgan_change And a b h = turned_over (over and_or_lem h)
de_morgan_change Or a b h = turned_over (over or_and h)
de_morgan_change Xor a b h = tt
de_morgan_change Concat a b h = tt

not_change : (t : Expr) → Every (Change (not t)) (not_rewrite t)
unfolding not_rewrite nodes
not_change (leaf k) = tt
not_change (unary k t) = every_only_if (Change (not (unary k t))) (is_not_kind k) (λ h. less (record { cut = in_turn child child; fewer = omega arith }))
not_change (binary k a b) = if_case (Every (Change (not (binary k a b)))) (is_not a || is_not b) (de_morgan_change k a b) tt

unary_change : (k : Unary) (t : Expr) → Every (Change (unary k t)) (unary_rewrite k t)
unfolding unary_rewrite nodes
unary_change Not t = not_change t
unary_change Neg t = tt
unary_change (Shr n) t = every_only_if (Change (unary (Shr n) t)) (eqb n 0) (λ h. less (record { cut = child; fewer = omega arith }))
unary_change (ZExt n) t = tt
unary_change (SExt n) t = tt
unary_change (Trunc n) t = tt

-- ---- the fold

-- the fold leaves the tree as it is, or makes it less
abbrev Folds : Expr → Expr → Type 0
Folds t u = (u ≡ t) ⊎ Less t u

folds_cut : {t u : Expr} → Folds t u → u ⊑ t
folds_cut {t} {u} (inl e) = subst (λ (s : Expr). u ⊑ s) e as_it_is
folds_cut (inr h) = h.cut

folds_nodes : {t u : Expr} → Folds t u → nodes u ≤ nodes t
folds_nodes (inl e) = omega (arith, ap nodes e)
folds_nodes (inr h) = omega arith

module _ (w : ℕ) where
  arms_folds : (op : Bitwise) (l r : Expr) → Folds (node op l r) (arms w op l r)
  unfolding arms constant_arms
  arms_folds and l r =
      let F = Folds (binary And l r) in
      if_case F (are_complements w l r) (λ h. inr (less_constant And l r 0))
      (if_case F (contains_operand w r Or l) (λ h. inr (less_left And l r))
      (if_case F (contains_operand w l Or r) (λ h. inr (less_right And l r))
      (if_case F ((constant_val w r equals_some 0) || (constant_val w l equals_some 0)) (λ h. inr (less_constant And l r 0))
      (if_case F (constant_val w r equals_some ones w) (λ h. inr (less_left And l r))
      (if_case F (constant_val w l equals_some ones w) (λ h. inr (less_right And l r))
      (inl refl))))))
  arms_folds or l r =
      let F = Folds (binary Or l r) in
      if_case F (are_complements w l r) (λ h. inr (less_constant Or l r (ones w)))
      (if_case F (contains_operand w r And l) (λ h. inr (less_left Or l r))
      (if_case F (contains_operand w l And r) (λ h. inr (less_right Or l r))
      (if_case F (constant_val w r equals_some 0) (λ h. inr (less_left Or l r))
      (if_case F (constant_val w l equals_some 0) (λ h. inr (less_right Or l r))
      (if_case F ((constant_val w r equals_some ones w) || (constant_val w l equals_some ones w)) (λ h. inr (less_constant Or l r (ones w)))
      (inl refl))))))
  arms_folds xor l r =
      let F = Folds (binary Xor l r) in
      if_case F (are_complements w l r) (λ h. inr (less_constant Xor l r (ones w)))
      (if_case F (constant_val w r equals_some 0) (λ h. inr (less_left Xor l r))
      (if_case F (constant_val w l equals_some 0) (λ h. inr (less_right Xor l r))
      (inl refl)))

  folds_folding : (op : Bitwise) → Folding w op Folds Less
  unfolding nodes
  folds_folding op = record {
    arm = arms_folds op;
    right = λ x d c u f. record { cut = in_turn (folds_cut f) (both left to_constant); fewer = omega (arith, folds_nodes f) };
    left = λ x d c u f. record { cut = in_turn (folds_cut f) (both right to_constant); fewer = omega (arith, folds_nodes f) };
    swapped = λ l r u h. record { cut = in_turn h.cut swapped; fewer = omega arith };
    weaker = λ t u h. inr h;
  }

  -- reassociation makes a node less, so that its answer is never the node itself
  pub reassociated_less : (op : Bitwise) (l r u : Expr) → (constant_val w r and_then reassociate_constant w op l or_else constant_val w l and_then reassociate_constant w op r) ≡ some u → Less (node op l r) u
  reassociated_less op l r u e = every_at (Less (node op l r)) (constant_val w r and_then reassociate_constant w op l or_else constant_val w l and_then reassociate_constant w op r) (at_reassociation w op (folds_folding op) l r) e

  -- a tree that is less than the node is another than it
  pub unless_less : (t u : Expr) → Less t u → unless_same w t u ≡ some u
  unfolding unless_same
  unless_less t u h = if_no (same_part w u t) none (some u) (not_T (same_part w u t) (λ p. omega (arith, h.fewer, ap nodes (same_part→eq w u t p))))

  pub unless_same_lem : (t u : Expr) → u ≡ t → unless_same w t u ≡ none
  unfolding unless_same
  unless_same_lem t u e = if_yes (same_part w u t) none (some u) (eq→same_part w u t e)

  fold_change : (op : Bitwise) (l r : Expr) → Every (Change (node op l r)) (fold_rewrite w op l r)
  unfolding fold_rewrite
  fold_change op l r = go (try_fold_binary w op l r) (at_fold w op (folds_folding op) l r)
    where
      go : (u : Expr) → Folds (node op l r) u → Every (Change (node op l r)) (unless_same w (node op l r) u)
      go u (inl e) = subst (Every (Change (node op l r))) (sym (unless_same_lem (node op l r) u e)) tt
      go u (inr h) = subst (Every (Change (node op l r))) (sym (unless_less (node op l r) u h)) (less h)

  -- ---- the local rewrite of a node with two

  binary_change : (k : Binary) (l r : Expr) → Every (Change (binary k l r)) (binary_rewrite w k l r)
  unfolding binary_rewrite
  binary_change Add l r = tt
  binary_change Mul l r = tt
  binary_change And l r =
      let C = Every (Change (binary And l r)) in
      if_case C (same_part w l r) (λ h. less (less_left And l r))
      (if_case C ((constant_val w l equals_some 3) && (constant_val w r equals_some 1)) (λ h. less (less_constant And l r 1))
      (fold_change and l r))
  binary_change Or l r = if_case (Every (Change (binary Or l r))) (same_part w l r) (λ h. less (less_left Or l r)) (fold_change or l r)
  binary_change Xor l r = fold_change xor l r
  binary_change Concat l r = tt

  root_change : (t : Expr) → Every (Change t) (local_rewrite w t)
  unfolding local_rewrite
  root_change (leaf k) = tt
  root_change (unary k t) = unary_change k t
  root_change (binary k l r) = binary_change k l r

  pub local_change : (t u : Expr) → local_rewrite w t ≡ some u → Change t u
  local_change t u e = every_at (Change t) (local_rewrite w t) (root_change t) e

  pub local_nodes : (t u : Expr) → local_rewrite w t ≡ some u → nodes u ≤ nodes t + 1
  unfolding nodes
  local_nodes t u e = go (local_change t u e)
    where
      go : {t u : Expr} → Change t u → nodes u ≤ nodes t + 1
      go (less h) = omega (arith, h.fewer)
      go (turned_over (over d h)) = omega arith
