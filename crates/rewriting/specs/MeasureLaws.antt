-- What a rewrite does to the measures of a tree: first the local rewrite, then the rewrite at the first site. Assumes nothing.
use Rattle.std.specs.Prelude.{◌≡◌, refl, ◌⊎◌, ℕ, ◌+◌, ◌*◌, ◌≤◌, ◌<◌}
use Rattle.std.proofs.Common.{inl, inr, le_refl, arith}
use Rattle.std.proofs.Math.Option.{some}
use Rattle.expr.specs.Expr.{Expr, leaf, unary, binary, nodes, depth}
use Rattle.expr.specs.declared.kind.Unary.{Unary}
use Rattle.expr.specs.declared.kind.Unary.TheVariants.{Not, Neg, Shr, ZExt, SExt, Trunc}
use Rattle.expr.specs.declared.kind.Binary.{Binary}
use Rattle.expr.specs.declared.kind.Binary.TheVariants.{Add, Mul, And, Or, Xor, Concat}
use Rattle.expr.specs.ExprLaws.{nodes_pos, depth_pos}
use Rattle.rewriting.specs.AtomSimplifier.{local_rewrite, first_rewrite}
use Rattle.rewriting.specs.Measures.{and_or, and_ors_of, pairs, D}
use Rattle.rewriting.specs.ShapeLaws.{◌⊑◌, to_constant, as_it_is, child, left, right, both, swapped, in_turn, Less, Dual, and_or_lem, or_and, DeMorgan, over, Change, less, turned_over, Adds, cut_counts, local_change}
use Rattle.rewriting.specs.SiteLaws.{Rises, at_first}

-- ---- a tree that is cut down

and_ors_add : Adds and_ors_of
unfolding and_ors_of
and_ors_add = record { in_constant = λ c t. omega arith; in_unary = λ k t. le_refl (and_ors_of t); in_kind = and_or; in_binary = λ k l r. refl }

D_adds : Adds D
unfolding D
D_adds = record { in_constant = λ c t. omega arith; in_unary = λ k t. omega arith; in_kind = λ k. 0; in_binary = λ k l r. omega arith }

nodes_add : Adds nodes
unfolding nodes
nodes_add = record { in_constant = λ c t. nodes_pos t; in_unary = λ k t. omega arith; in_kind = λ k. 1; in_binary = λ k l r. omega arith }

pub cut_nodes : {t u : Expr} → u ⊑ t → nodes u ≤ nodes t
cut_nodes h = cut_counts nodes nodes_add h

pub cut_depth : {t u : Expr} → u ⊑ t → depth u ≤ depth t
unfolding depth
cut_depth (to_constant {c} {t}) = depth_pos t
cut_depth as_it_is = omega arith
cut_depth child = omega arith
cut_depth left = omega arith
cut_depth right = omega arith
cut_depth (both g h) = omega (arith, cut_depth g, cut_depth h)
cut_depth swapped = omega arith
cut_depth (in_turn g h) = omega (arith, cut_depth g, cut_depth h)

-- ---- how large they are

and_or_one : (k : Binary) → and_or k ≤ 1
and_or_one Add = omega arith
and_or_one Mul = omega arith
and_or_one And = omega arith
and_or_one Or = omega arith
and_or_one Xor = omega arith
and_or_one Concat = omega arith

pairs_most : (k : Unary) (n : ℕ) → pairs k n ≤ n
pairs_most Not n = omega arith
pairs_most Neg n = omega arith
pairs_most (Shr i) n = omega arith
pairs_most (ZExt i) n = omega arith
pairs_most (SExt i) n = omega arith
pairs_most (Trunc i) n = omega arith

pub and_ors_nodes : (t : Expr) → and_ors_of t ≤ nodes t
unfolding and_ors_of nodes
and_ors_nodes (leaf k) = omega arith
and_ors_nodes (unary k t) = omega (arith, and_ors_nodes t)
and_ors_nodes (binary k l r) = omega (arith, and_or_one k, and_ors_nodes l, and_ors_nodes r)

-- a Not has at most as many And and Or nodes below it as the tree has nodes
pub D_small : (t : Expr) → nodes t ≤ 1024 → D t ≤ 1024 * nodes t
unfolding D nodes
D_small (leaf k) h = omega arith
D_small (unary k t) h = omega (arith, pairs_most k (and_ors_of t), and_ors_nodes t, D_small t (omega arith))
D_small (binary k l r) h = omega (arith, D_small l (omega arith), D_small r (omega arith))

-- ---- the local rewrite

-- De Morgan's laws add one node and take one pair from D
pub record DeMorganStep (t u : Expr) : Type 0 where
  pub turned : DeMorgan t u
  pub one_more : nodes u ≡ nodes t + 1
  pub one_pair_less : D u + 1 ≡ D t
  pub same_and_ors : and_ors_of u ≡ and_ors_of t
  pub no_deeper : depth u ≤ depth t

-- every other rewrite lowers the number of nodes, and raises neither D nor the number of And and Or nodes
pub record LowerStep (t u : Expr) : Type 0 where
  pub fewer : nodes u < nodes t
  pub no_more_pairs : D u ≤ D t
  pub no_more_and_ors : and_ors_of u ≤ and_ors_of t
  pub no_deeper : depth u ≤ depth t

-- both kinds count
dual_counts : {k j : Binary} → Dual k j → (and_or k ≡ 1) × (and_or j ≡ 1)
dual_counts and_or_lem = (refl, refl)
dual_counts or_and = (refl, refl)

de_morgan_step : {t u : Expr} → DeMorgan t u → DeMorganStep t u
unfolding nodes and_ors_of D depth
de_morgan_step (over d h) =
    let c = dual_counts d in
    record { turned = over d h; one_more = omega arith; one_pair_less = omega (arith, c.0); same_and_ors = omega (arith, c.0, c.1); no_deeper = omega arith }

lower_step : {t u : Expr} → Less t u → LowerStep t u
lower_step h = record {
  fewer = h.fewer;
  no_more_pairs = cut_counts D D_adds h.cut;
  no_more_and_ors = cut_counts and_ors_of and_ors_add h.cut;
  no_deeper = cut_depth h.cut;
}

change_step : {t u : Expr} → Change t u → DeMorganStep t u ⊎ LowerStep t u
change_step (less h) = inr (lower_step h)
change_step (turned_over h) = inl (de_morgan_step h)

step_depth : {t u : Expr} → DeMorganStep t u ⊎ LowerStep t u → depth u ≤ depth t
step_depth (inl h) = h.no_deeper
step_depth (inr h) = h.no_deeper

module _ (w : ℕ) (t u : Expr) (e : local_rewrite w t ≡ some u) where
  pub local_steps : DeMorganStep t u ⊎ LowerStep t u
  local_steps = change_step (local_change w t u e)

  pub local_depth : depth u ≤ depth t
  local_depth = step_depth local_steps

-- ---- the rewrite at the first site

-- the number of nodes plus twice D falls, so that rewriting ends; the number of nodes plus D, which bounds the trees on the way, does not
-- rise, nor do the number of And and Or nodes, D and the depth
pub record Lower (t u : Expr) : Type 0 where
  pub falls : nodes u + 2 * D u < nodes t + 2 * D t
  pub room : nodes u + D u ≤ nodes t + D t
  pub no_more_and_ors : and_ors_of u ≤ and_ors_of t
  pub no_more_pairs : D u ≤ D t
  pub no_deeper : depth u ≤ depth t

step_lower : {t u : Expr} → DeMorganStep t u ⊎ LowerStep t u → Lower t u
step_lower (inl h) = record { falls = omega arith; room = omega arith; no_more_and_ors = omega arith; no_more_pairs = omega arith; no_deeper = h.no_deeper }
step_lower (inr h) = record { falls = omega arith; room = omega arith; no_more_and_ors = omega arith; no_more_pairs = omega arith; no_deeper = h.no_deeper }

-- the pairs that a node makes do not rise where the And and Or nodes below it do not
pairs_le : (k : Unary) {m n : ℕ} → m ≤ n → pairs k m ≤ pairs k n
pairs_le Not h = h
pairs_le Neg h = omega arith
pairs_le (Shr i) h = omega arith
pairs_le (ZExt i) h = omega arith
pairs_le (SExt i) h = omega arith
pairs_le (Trunc i) h = omega arith

lower_above : (k : Unary) (t u : Expr) → Lower t u → Lower (unary k t) (unary k u)
unfolding nodes and_ors_of D depth
lower_above k t u h =
    let p = pairs_le k h.no_more_and_ors in
    record { falls = omega arith; room = omega arith; no_more_and_ors = h.no_more_and_ors; no_more_pairs = omega arith; no_deeper = omega arith }

lower_left : (k : Binary) (l r u : Expr) → Lower l u → Lower (binary k l r) (binary k u r)
unfolding nodes and_ors_of D depth
lower_left k l r u h = record { falls = omega arith; room = omega arith; no_more_and_ors = omega arith; no_more_pairs = omega arith; no_deeper = omega arith }

lower_right : (k : Binary) (l r u : Expr) → Lower r u → Lower (binary k l r) (binary k l u)
unfolding nodes and_ors_of D depth
lower_right k l r u h = record { falls = omega arith; room = omega arith; no_more_and_ors = omega arith; no_more_pairs = omega arith; no_deeper = omega arith }

lower_rises : (w : ℕ) → Rises w Lower
lower_rises w = record { here = λ t u e. step_lower (local_steps w t u e); above = lower_above; left = lower_left; right = lower_right }

pub first_lowers : (w : ℕ) (t u : Expr) → first_rewrite w t ≡ some u → Lower t u
first_lowers w = at_first w (lower_rises w)
