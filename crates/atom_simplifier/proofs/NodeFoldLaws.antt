-- `try_fold_binary`: the fold of a node, from its words. Assumes nothing.
use mathlib.Core.Path.{◌≡◌, refl, sym, ap, ap₂, subst, ◌∙◌}
use mathlib.Core.List.{List}
use mathlib.Core.Option.{Option, none, some}
use Prim.Native.Nat.{ℕ, ◌+◌}
use lib.ListN.{length, get_or}
use Rattle.expr.specs.Outcome.{accepted}
use Rattle.expr.specs.Expr.{Expr, binary, encode, nodes}
use Rattle.expr.specs.Parse.{arity_of}
use Rattle.expr.specs.Parts.{tail, part}
use Rattle.expr.specs.Front.{Exactly, tree_at, left_of, right_of}
use Rattle.expr.specs.PartLaws.{exact_tree}
use Rattle.expr.specs.Optional.{◌and_then◌, ◌or_else◌, ◌otherwise◌}
use Rattle.rewriting.specs.AtomSimplifier.{constant_val, unless_same, Bitwise, kind_of, arms, reassociate_constant, try_fold_binary, fold_rewrite}
use Rattle.rewriting.specs.ShapeLaws.{Less, less_constant, less_left, less_right, reassociated_less, unless_less, unless_same_lem}
use Rattle.std.specs.Prelude.{Some, None}
use Rattle.std.specs.Prelude as answered
use Rattle.atom_simplifier.specs.declared.fold.Bitwise as fold
use Rattle.atom_simplifier.specs.declared.fold.Arm.{Arm}
use Rattle.atom_simplifier.specs.declared.fold.Arm.TheVariants as arm
use Rattle.atom_simplifier.specs.declared.local.Decision.{Decision}
use Rattle.atom_simplifier.specs.declared.local.Decision.TheVariants.{Part, Constant}
use Rattle.atom_simplifier.specs.Promises.{arm_tree, bitwise_of, number_of, arm_rewrite, Within, Makes, Decides, DecidesAt}
use Rattle.atom_simplifier.proofs.DecideLaws.{not_some, decides_none, decides_some, none_decided, some_decided, left_words, right_words, left_behind, right_behind, right_even, left_holds, right_holds}

-- ---- `reassociate_beside`

module _ (o : fold.Bitwise) (at : ℕ) (x : List ℕ) (w : ℕ) (t u : Expr) where
  pub beside_none : none ≡ constant_val w u → DecidesAt (number_of o) at x None (constant_val w u and_then reassociate_constant w (bitwise_of o) t)
  beside_none e = record { in_node = λ ws half j p i. decides_none ws _ (ap (λ (q : Option ℕ). q and_then reassociate_constant w (bitwise_of o) t) (sym e)) }

-- ---- the arms

module _ (node : List ℕ) (t : Expr) (x : Exactly node t) (a : arity_of (get_or node 0 0) ≡ accepted 2) (right : ℕ) (q : right ≡ 2 + length (encode (left_of t)))
    (ls rs : List ℕ) (f : ls ≡ part 2 right node) (g : rs ≡ tail right node) (n m : ℕ) (i : n ≡ 2) (j : m ≡ right) (o : fold.Bitwise) (w : ℕ) where
  abbrev op : Bitwise
  op = bitwise_of o

  lhs : tree_at ls ≡ left_of t
  lhs = exact_tree ls (left_of t) (left_words node t x a right q ls rs f g)

  rhs : tree_at rs ≡ right_of t
  rhs = exact_tree rs (right_of t) (right_words node t x a right q ls rs f g)

  module _ (v : Arm) (h : arm_tree (bitwise_of o) (tree_at ls) (tree_at rs) v ≡ arms w (bitwise_of o) (tree_at ls) (tree_at rs)) where
    arms_are : (y : Arm) → v ≡ y → arms w op (left_of t) (right_of t) ≡ arm_tree op (left_of t) (right_of t) y
    arms_are y k = sym (ap (arm_tree op (left_of t) (right_of t)) (sym k) ∙ ap₂ (λ (s u : Expr). arm_tree op s u v) (sym lhs) (sym rhs) ∙ h ∙ ap₂ (arms w op) lhs rhs)

    fires : (y : Arm) → v ≡ y → Less (binary (kind_of op) (left_of t) (right_of t)) (arm_tree op (left_of t) (right_of t) y)
        → (r : Decision) → Makes node r (arm_tree op (left_of t) (right_of t) y) → Decides node (Some r) (arm_rewrite w op (left_of t) (right_of t))
    fires y k less r e =
        let u = arm_tree op (left_of t) (right_of t) y in
        let s = binary (kind_of op) (left_of t) (right_of t) in
        decides_some node r _ u (ap (unless_same w s) (arms_are y k) ∙ unless_less w s u less) e

    pub node_stays : v ≡ arm.Node → Decides node None (arm_rewrite w (bitwise_of o) (left_of t) (right_of t))
    node_stays k = decides_none node _ (unless_same_lem w (binary (kind_of op) (left_of t) (right_of t)) (arms w op (left_of t) (right_of t)) (arms_are arm.Node k))

    pub folds_constant : (c : ℕ) → v ≡ arm.Constant c → Decides node (Some (Constant c)) (arm_rewrite w (bitwise_of o) (left_of t) (right_of t))
    unfolding Makes
    folds_constant c k = fires (arm.Constant c) k (less_constant (kind_of op) (left_of t) (right_of t) c) (Constant c) refl

    pub folds_left : v ≡ arm.Left → (d : Decision) → d ≡ Part n (length ls) → Decides node (Some d) (arm_rewrite w (bitwise_of o) (left_of t) (right_of t))
    unfolding Makes
    folds_left k d e =
        fires arm.Left k (less_left (kind_of op) (left_of t) (right_of t)) d
        (subst (λ (r : Decision). Makes node r (left_of t)) (sym (e ∙ ap (λ (b : ℕ). Part b (length ls)) i)) (left_holds node t x a right q ls rs f g))

    pub folds_right : v ≡ arm.Right → (d : Decision) → d ≡ Part m (length rs) → Decides node (Some d) (arm_rewrite w (bitwise_of o) (left_of t) (right_of t))
    unfolding Makes
    folds_right k d e =
        fires arm.Right k (less_right (kind_of op) (left_of t) (right_of t)) d
        (subst (λ (r : Decision). Makes node r (right_of t)) (sym (e ∙ ap (λ (b : ℕ). Part b (length rs)) j)) (right_holds node t x a right q ls rs f g))

  -- ---- `try_fold_binary`

  -- what reassociation gives with either operand's constant
  abbrev first : Option Expr
  first = constant_val w (tree_at rs) and_then reassociate_constant w (bitwise_of o) (tree_at ls)

  abbrev second : Option Expr
  second = constant_val w (tree_at ls) and_then reassociate_constant w (bitwise_of o) (tree_at rs)

  first_is : first ≡ (constant_val w (right_of t) and_then reassociate_constant w op (left_of t))
  first_is = ap₂ (λ (s u : Expr). constant_val w u and_then reassociate_constant w op s) lhs rhs

  second_is : second ≡ (constant_val w (left_of t) and_then reassociate_constant w op (right_of t))
  second_is = ap₂ (λ (s u : Expr). constant_val w s and_then reassociate_constant w op u) lhs rhs

  -- the fold, from those two
  folds : (y z : Option Expr) → first ≡ y → second ≡ z → try_fold_binary w op (left_of t) (right_of t) ≡ ((y or_else z) otherwise arms w op (left_of t) (right_of t))
  unfolding try_fold_binary
  folds y z h k = ap₂ (λ (b c : Option Expr). (b or_else c) otherwise arms w op (left_of t) (right_of t)) (sym first_is ∙ h) (sym second_is ∙ k)

  -- what reassociation gives is the fold, and less than the node
  reassociated : (u : Expr) → (first or_else second) ≡ some u → fold_rewrite w op (left_of t) (right_of t) ≡ some u
  unfolding fold_rewrite
  reassociated u e =
      let s = binary (kind_of op) (left_of t) (right_of t) in
      ap (unless_same w s) (folds first second refl refl ∙ ap (λ (y : Option Expr). y otherwise arms w op (left_of t) (right_of t)) e)
      ∙ unless_less w s u (reassociated_less w op (left_of t) (right_of t) u (ap₂ (λ (y z : Option Expr). y or_else z) (sym first_is) (sym second_is) ∙ e))

  module _ (b : get_or node 0 0 ≡ number_of o) (d : answered.Option Decision) (h : DecidesAt (number_of o) n ls d (constant_val w (tree_at rs) and_then reassociate_constant w (bitwise_of o) (tree_at ls))) where
    first_decides : Decides node d first
    first_decides = h.in_node node 1 i (subst (λ (c : ℕ). Within node c ls) (sym i) (left_behind node t x a right q ls rs f g)) b

    pub first_found : (r : Decision) → d ≡ Some r → Decides node (Some r) (fold_rewrite w (bitwise_of o) (left_of t) (right_of t))
    first_found r e =
        let k = some_decided node d first first_decides r e in
        decides_some node r _ k.0 (reassociated k.0 (ap (λ (y : Option Expr). y or_else second) k.1)) k.2

    module _ (e : d ≡ None) (v : answered.Option Decision) (k : DecidesAt (number_of o) m rs v (constant_val w (tree_at ls) and_then reassociate_constant w (bitwise_of o) (tree_at rs))) where
      no_first : first ≡ none
      no_first = none_decided node d first first_decides e

      second_decides : Decides node v second
      second_decides =
          k.in_node node (1 + nodes (left_of t)) (j ∙ right_even node t x a right q ls rs f g) (subst (λ (c : ℕ). Within node c rs) (sym j) (right_behind node t x a right q ls rs f g)) b

      pub second_found : (r : Decision) → v ≡ Some r → Decides node (Some r) (fold_rewrite w (bitwise_of o) (left_of t) (right_of t))
      second_found r l =
          let s = some_decided node v second second_decides r l in
          decides_some node r _ s.0 (reassociated s.0 (ap₂ (λ (y z : Option Expr). y or_else z) no_first s.1)) s.2

      pub arms_found : v ≡ None → (r : answered.Option Decision) → Decides node r (arm_rewrite w (bitwise_of o) (left_of t) (right_of t)) → Decides node r (fold_rewrite w (bitwise_of o) (left_of t) (right_of t))
      unfolding fold_rewrite
      arms_found l r s =
          subst (λ (u : Expr). Decides node r (unless_same w (binary (kind_of op) (left_of t) (right_of t)) u))
          (sym (folds none none no_first (none_decided node v second second_decides l))) s

pub ruleset node_arms = (node_stays, folds_constant, folds_left, folds_right)

pub ruleset node_fold = (not_some, first_found, second_found, arms_found)
