-- Reassociation, and the fold of a node. Assumes nothing.
use mathlib.Core.Path.{◌≡◌, refl, sym, ap, ap₂, subst, ◌∙◌}
use mathlib.Core.Bool.{Bool, true, false}
use mathlib.Core.List.{List, [], ◌∷◌, ◌++◌}
use mathlib.Core.Option.{Option, none, some}
use Prim.Native.Nat.{ℕ, ◌+◌, ◌*◌}
use native.Mathlib.Omega.{arith}
use lib.ListN.{length, get_or}
use Rattle.expr.specs.declared.kind.Binary.{Binary}
use Rattle.expr.specs.Expr.{Expr, leaf, unary, binary, encode, nodes}
use Rattle.expr.specs.Parse.{operand_ok, operands_ok}
use Rattle.expr.specs.Front.{Exactly, Whole, tree_at}
use Rattle.expr.specs.PartLaws.{exact_tree, exact_whole, exact_length}
use Rattle.expr.specs.Trees.{same_kind, operands_of}
use Rattle.expr.specs.Optional.{only_if, map, ◌or_else◌, ◌otherwise◌, option_of}
use Rattle.rewriting.specs.AtomSimplifier.{constant, constant_val, kind_of, arms, folded_word, reassociate_constant, try_fold_binary}
use Rattle.rewriting.specs.FoldLaws.{fold_again, reassociate_is}
use Rattle.std.specs.Prelude.{Some, None, if◌then◌else◌}
use Rattle.std.specs.Prelude as answered
use Rattle.atom_simplifier.specs.declared.fold.Bitwise.{Bitwise}
use Rattle.atom_simplifier.specs.declared.fold.Arm.{Arm}
use Rattle.atom_simplifier.specs.declared.fold.Arm.TheVariants as arm
use Rattle.atom_simplifier.specs.declared.local.Decision.{Decision}
use Rattle.atom_simplifier.specs.declared.local.Decision.TheVariants.{Part, Constant, Join}
use Rattle.atom_simplifier.specs.Promises.{arm_tree, bitwise_of, number_of, Within, Makes, Decides, DecidesAt}
use Rattle.atom_simplifier.proofs.DecideLaws.{decides_none, decides_some, none_decided, some_decided, part_holds, left_within, right_within}

-- ---- the words of a constant

module _ (c : ℕ) where
  constant_exact : Exactly (0 ∷ c ∷ []) (constant c)
  unfolding encode operands_ok operand_ok
  constant_exact = record { words = refl; operands = tt }

  pub constant_whole : Whole (0 ∷ c ∷ [])
  constant_whole = exact_whole (0 ∷ c ∷ []) (constant c) constant_exact

  constant_tree : tree_at (0 ∷ c ∷ []) ≡ constant c
  constant_tree = exact_tree (0 ∷ c ∷ []) (constant c) constant_exact

-- ---- `constant_beside`

module _ (op : Bitwise) (w from : ℕ) (part : List ℕ) (t : Expr) (c : ℕ) where
  abbrev Beside : Decision → Type 0
  Beside d = DecidesAt (number_of op) from part (Some d) (some (arms w (bitwise_of op) t (constant c)))

  module _ (a : Arm) (g : arm_tree (bitwise_of op) t (tree_at (0 ∷ c ∷ [])) a ≡ arms w (bitwise_of op) t (tree_at (0 ∷ c ∷ []))) where
    by_arm : (d : Decision) (b : Arm) → a ≡ b → ((ws : List ℕ) (half : ℕ) → from ≡ 2 * half → Within ws from part → get_or ws 0 0 ≡ number_of op → Makes ws d (arm_tree (bitwise_of op) t (constant c) b)) → Beside d
    by_arm d b f m = record {
      in_node = λ ws half j p i.
          decides_some ws d _ (arm_tree (bitwise_of op) t (constant c) b)
          (ap (λ (u : Expr). some u)
          (sym (ap (λ (s : Expr). arm_tree (bitwise_of op) t s b) (sym (constant_tree c)) ∙ ap (arm_tree (bitwise_of op) t (tree_at (0 ∷ c ∷ []))) (sym f) ∙ g ∙ ap (arms w (bitwise_of op) t) (constant_tree c))))
          (m ws half j p i);
    }

    pub arm_right : a ≡ arm.Right → Beside (Constant c)
    unfolding Makes
    arm_right f = by_arm (Constant c) arm.Right f (λ ws half j p i. refl)

    pub arm_constant : (v : ℕ) → a ≡ arm.Constant v → Beside (Constant v)
    unfolding Makes
    arm_constant v f = by_arm (Constant v) (arm.Constant v) f (λ ws half j p i. refl)

    module _ (x : Exactly part t) where
      pub arm_left : a ≡ arm.Left → (d : Decision) → d ≡ Part from (length part) → Beside d
      unfolding Makes
      arm_left f d e = subst Beside (sym e) (by_arm (Part from (length part)) arm.Left f (λ ws half j p i. part_holds ws part from p half j t x))

      pub arm_node : a ≡ arm.Node → Beside (Join from (length part) c)
      unfolding Makes
      arm_node f = by_arm (Join from (length part) c) arm.Node f (λ ws half j p i. record { kind = kind_of (bitwise_of op); operand = t; number = i; is = refl; holds = part_holds ws part from p half j t x })

-- ---- `reassociate_constant`

module _ (op : Bitwise) (lhs : List ℕ) (at w c : ℕ) (t : Expr) where
  abbrev Reassociated : answered.Option Decision → Type 0
  Reassociated r = DecidesAt (number_of op) at lhs r (reassociate_constant w (bitwise_of op) t c)

  abbrev folded_beside : Expr → ℕ → Expr
  folded_beside u d = try_fold_binary w (bitwise_of op) u (constant (folded_word w (bitwise_of op) d c))

  -- the definition, by the operands
  abbrev of_operands : Option (Expr × Expr) → Option Expr
  of_operands none = none
  of_operands (some p) = map (folded_beside p.0) (constant_val w p.1) or_else map (folded_beside p.1) (constant_val w p.0)

  by_operands : (s : Expr) → reassociate_constant w (bitwise_of op) s c ≡ of_operands (operands_of (kind_of (bitwise_of op)) s)
  unfolding reassociate_constant operands_of
  by_operands (leaf j) = refl
  by_operands (unary j s) = refl
  by_operands (binary j l r) = reassociate_is w (bitwise_of op) j l r c ∙ go (same_kind j (kind_of (bitwise_of op)))
    where
      go : (b : Bool) → (if b then of_operands (some (l, r)) else none) ≡ of_operands (only_if b (l, r))
      go true = refl
      go false = refl

  module _ (k : Binary) (f : k ≡ kind_of (bitwise_of op)) where
    operands_known : (o : Option (Expr × Expr)) → o ≡ operands_of k t → reassociate_constant w (bitwise_of op) t c ≡ of_operands o
    operands_known o e = by_operands t ∙ ap of_operands (ap (λ (j : Binary). operands_of j t) (sym f) ∙ sym e)

    nothing : reassociate_constant w (bitwise_of op) t c ≡ none → Reassociated None
    nothing e = record { in_node = λ ws half j p i. decides_none ws _ e }

    pub other_kind : none ≡ operands_of k t → Reassociated None
    other_kind e = nothing (operands_known none e)

    -- the operands, with their places
    module _ (ls rs : List ℕ) (e : some (tree_at ls, tree_at rs) ≡ operands_of k t) (left right : ℕ)
        (h : (left ≡ at + 2) × (right ≡ left + length ls) × (lhs ≡ get_or lhs 0 0 ∷ 0 ∷ (ls ++ rs))) (v : answered.Option ℕ) (g : option_of v ≡ constant_val w (tree_at rs)) where
      made : (o p : Option ℕ) → constant_val w (tree_at rs) ≡ o → constant_val w (tree_at ls) ≡ p
          → reassociate_constant w (bitwise_of op) t c ≡ (map (folded_beside (tree_at ls)) o or_else map (folded_beside (tree_at rs)) p)
      made o p i j =
          operands_known (some (tree_at ls, tree_at rs)) e
          ∙ ap₂ (λ (x y : Option ℕ). map (folded_beside (tree_at ls)) x or_else map (folded_beside (tree_at rs)) y) i j

      pub from_right : (d : ℕ) (r : Decision) → v ≡ Some d → DecidesAt (number_of op) left ls (Some r) (some (folded_beside (tree_at ls) d)) → Reassociated (Some r)
      from_right d r i m = record {
        in_node = λ ws half j p n.
            subst (Decides ws (Some r)) (sym (made (some d) (constant_val w (tree_at ls)) (sym g ∙ ap option_of i) refl))
            (m.in_node ws (half + 1) (omega (arith, h.0)) (subst (λ (x : ℕ). Within ws x ls) (sym h.0) (left_within ws lhs at p (get_or lhs 0 0) ls rs h.2)) n);
      }

      module _ (i : v ≡ None) (y : answered.Option ℕ) (m : option_of y ≡ constant_val w (tree_at ls)) where
        pub no_constants : y ≡ None → (r : answered.Option Decision) → r ≡ None → Reassociated r
        no_constants n r q = subst Reassociated (sym q) (nothing (made none none (sym g ∙ ap option_of i) (sym m ∙ ap option_of n)))

        pub from_left : Whole ls → (d : ℕ) (r : Decision) → y ≡ Some d → DecidesAt (number_of op) right rs (Some r) (some (folded_beside (tree_at rs) d)) → Reassociated (Some r)
        from_left x d r n q = record {
          in_node = λ ws half j p s.
              let place : right ≡ at + 2 + length ls = h.1 ∙ ap (λ (a : ℕ). a + length ls) h.0 in
              subst (Decides ws (Some r)) (sym (made none (some d) (sym g ∙ ap option_of i) (sym m ∙ ap option_of n)))
              (q.in_node ws (half + 1 + nodes (tree_at ls)) (omega (arith, place, exact_length ls (tree_at ls) x)) (subst (λ (a : ℕ). Within ws a rs) (sym place) (right_within ws lhs at p (get_or lhs 0 0) ls rs h.2)) s);
        }

-- ---- `fold_constants`

module _ (op : Bitwise) (from w d c m : ℕ) (part : List ℕ) (t : Expr) (e : m ≡ folded_word w (bitwise_of op) d c) (q : answered.Option Decision) (h : DecidesAt (number_of op) from part q (reassociate_constant w (bitwise_of op) t m)) where
  abbrev Folded : Decision → Type 0
  Folded r = DecidesAt (number_of op) from part (Some r) (some (try_fold_binary w (bitwise_of op) t (constant (folded_word w (bitwise_of op) d c))))

  -- the fold, from what reassociation gives
  folds : (o : Option Expr) → reassociate_constant w (bitwise_of op) t m ≡ o
      → (o otherwise arms w (bitwise_of op) t (constant m)) ≡ try_fold_binary w (bitwise_of op) t (constant (folded_word w (bitwise_of op) d c))
  folds o f =
      ap (λ (p : Option Expr). p otherwise arms w (bitwise_of op) t (constant m)) (sym f) ∙ fold_again w (bitwise_of op) t m
      ∙ ap (λ (n : ℕ). try_fold_binary w (bitwise_of op) t (constant n)) e

  pub found_folded : (r : Decision) → q ≡ Some r → Folded r
  found_folded r f = record {
    in_node = λ ws half j p i.
        let s = some_decided ws q _ (h.in_node ws half j p i) r f in
        decides_some ws r _ s.0 (ap (λ (u : Expr). some u) (sym (folds (some s.0) s.1))) s.2;
  }

  -- nothing was found, so the arms decide
  pub none_folded : (r : Decision) → q ≡ None → DecidesAt (number_of op) from part (Some r) (some (arms w (bitwise_of op) t (constant m))) → Folded r
  none_folded r f g = record {
    in_node = λ ws half j p i.
        subst (Decides ws (Some r)) (ap (λ (u : Expr). some u) (folds none (none_decided ws q _ (h.in_node ws half j p i) f))) (g.in_node ws half j p i);
  }

pub ruleset folded_two = (found_folded, none_folded)

pub ruleset beside = (constant_whole, arm_right, arm_constant, arm_left, arm_node)
