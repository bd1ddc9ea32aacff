-- Every row of the table holds: one computed test over the table, and the law that carries it to each row and width. Assumes nothing.
use Rattle.std.specs.Prelude.{◌≡◌, refl, Bool, true, false, ◌&&◌, List, [], ◌∷◌, ℕ, T, eqb}
use Rattle.std.proofs.Common.{ap, ap₂, subst, sym, eqb→eq}
use Rattle.std.proofs.Math.Facts.{and_yes}
use Rattle.expr.specs.declared.refusal.Reason.{Reason}
use Rattle.expr.specs.Refusals.{carrying}
use Rattle.expr.specs.Outcome.{Outcome, refused, accepted}
use Rattle.expr.specs.Expr.{encode, nodes, depth}
use Rattle.expr.specs.ExprUtils.{has_var_dep_of}
use Rattle.expr.specs.SameWords.{same_words}
use Rattle.expr.specs.SameWordsLaws.{same→eq}
use Rattle.expr.specs.Parse.{kind_at, operand_ok, node_kind, node, subtree, word_count_ok, parse}
use Rattle.width.specs.Width.{supported, ranged, checked_width_of, is_uniform_width}
use Rattle.width.specs.Checked.{checked}
use Rattle.expr_cost.specs.ExprCost.{weighted_size_of, nonlinear_mul_count_of, compute_cost}
use Rattle.value.specs.Value.{value, is_lent, one_width_of, value_at}
use Rattle.rewriting.specs.Measures.{and_ors_of, D}
use Rattle.rewriting.specs.Chain.{trees_from, trees_of}
use Rattle.rewriting.specs.ChainLaws.{◌IsAmong◌, first, later}
use Rattle.rewriting.specs.AtomSimplifier.{same_part, are_complements, contains_operand, constant_arms, arms, reassociate_constant, try_fold_binary, not_rewrite, unary_rewrite, unless_same, fold_rewrite, binary_rewrite, local_rewrite, first_rewrite}
use Rattle.rewriting.specs.AtomSimplifier.{is_not_of as is_not_of_part}
use Rattle.rewriting.specs.AtomIdentityRewrite.{expr_eq, operand_of_not, operand_of_neg, is_not_of, beside_not_of, match_binary_add_with_neg, xor_absorb_one, match_xor_and_absorb, same_unordered_pair, xor_of_or_and, match_xor_via_or_minus_and, and_of_or_not, match_and_via_not_or_minus_not, push_addend, any_negated, extract, only, plus_and_minus, is_constant_node, or_in_product, is_masked, match_and_via_not_or_plus_a_plus_one, match_xor_via_ornot_flat, lax_and, lax_xor, each, is_add, tagged, lax_candidates, candidates}
use Rattle.expr.specs.Trees.{operands_of}
use Rattle.marked.specs.Marked.{Row, words, offered, answer, down_from, table}

-- ---- the test

unfoldable same_lists : List (List ℕ) → List (List ℕ) → Bool
same_lists [] [] = true
same_lists [] (y ∷ ys) = false
same_lists (x ∷ xs) [] = false
same_lists (x ∷ xs) (y ∷ ys) = same_words x y && same_lists xs ys

unfoldable same_outcome : Outcome (List (List ℕ)) → Outcome (List (List ℕ)) → Bool
same_outcome (refused r) (refused s) = eqb r.number s.number && (eqb r.first s.first && eqb r.second s.second)
same_outcome (refused r) (accepted ys) = false
same_outcome (accepted xs) (refused s) = false
same_outcome (accepted xs) (accepted ys) = same_lists xs ys

unfoldable every : {A : Type 0} → (A → Bool) → List A → Bool
every f [] = true
every f (a ∷ xs) = f a && every f xs

-- the row holds at a width, and at all of its widths
unfoldable holds_at : Row → ℕ → Bool
holds_at r w = same_outcome (answer r.question r.tree w) r.outcome

unfoldable holds : Row → Bool
holds r = every (holds_at r) r.widths

-- every row holds, by computation
tested : every holds table ≡ true
unfolding every holds holds_at same_outcome same_lists same_words answer words offered down_from encode depth nodes has_var_dep_of kind_at operand_ok node_kind node subtree word_count_ok parse supported ranged checked_width_of is_uniform_width checked weighted_size_of nonlinear_mul_count_of compute_cost value is_lent one_width_of value_at and_ors_of D trees_from trees_of same_part are_complements contains_operand constant_arms arms reassociate_constant try_fold_binary not_rewrite unary_rewrite unless_same fold_rewrite binary_rewrite local_rewrite first_rewrite is_not_of_part expr_eq operands_of operand_of_not operand_of_neg is_not_of beside_not_of match_binary_add_with_neg xor_absorb_one match_xor_and_absorb same_unordered_pair xor_of_or_and match_xor_via_or_minus_and and_of_or_not match_and_via_not_or_minus_not push_addend any_negated extract only plus_and_minus is_constant_node or_in_product is_masked match_and_via_not_or_plus_a_plus_one match_xor_via_ornot_flat lax_and lax_xor each is_add tagged lax_candidates candidates
tested = refl

-- ---- from the test to each row

same_lists_lem : (xs ys : List (List ℕ)) → T (same_lists xs ys) → xs ≡ ys
unfolding same_lists
same_lists_lem [] [] h = refl
same_lists_lem [] (y ∷ ys) h = absurd h
same_lists_lem (x ∷ xs) [] h = absurd h
same_lists_lem (x ∷ xs) (y ∷ ys) h =
    let p = and_yes (same_words x y) (same_lists xs ys) h in
    ap₂ ◌∷◌ (same→eq x y p.0) (same_lists_lem xs ys p.1)

same_reason : (r s : Reason) → r.number ≡ s.number → r.first ≡ s.first → r.second ≡ s.second → r ≡ s
same_reason r s n a b = ap₂ (λ (f : ℕ → Reason) c. f c) (ap₂ carrying n a) b

same_outcome_lem : (a b : Outcome (List (List ℕ))) → T (same_outcome a b) → a ≡ b
unfolding same_outcome
same_outcome_lem (refused r) (refused s) h =
    let p = and_yes (eqb r.number s.number) (eqb r.first s.first && eqb r.second s.second) h in
    let q = and_yes (eqb r.first s.first) (eqb r.second s.second) p.1 in
    ap refused (same_reason r s (eqb→eq _ _ p.0) (eqb→eq _ _ q.0) (eqb→eq _ _ q.1))
same_outcome_lem (refused r) (accepted ys) h = absurd h
same_outcome_lem (accepted xs) (refused s) h = absurd h
same_outcome_lem (accepted xs) (accepted ys) h = ap accepted (same_lists_lem xs ys h)

-- what every element passes, each one passes
each_one : {A : Type 0} (f : A → Bool) (xs : List A) → T (every f xs) → (a : A) → a IsAmong xs → T (f a)
unfolding every
each_one f [] h a i = elim i [ ]
each_one f (b ∷ xs) h a first = (and_yes (f b) (every f xs) h).0
each_one f (b ∷ xs) h a (later i) = each_one f xs (and_yes (f b) (every f xs) h).1 a i

-- each row of the table holds at each of its widths: the answer by the definitions is the outcome that the row has
pub marked : (r : Row) → r IsAmong table → (w : ℕ) → w IsAmong r.widths → answer r.question r.tree w ≡ r.outcome
unfolding holds holds_at
marked r i w j =
    let row = each_one holds table (subst T (sym tested) tt) r i in
    same_outcome_lem (answer r.question r.tree w) r.outcome (each_one (holds_at r) r.widths row w j)
