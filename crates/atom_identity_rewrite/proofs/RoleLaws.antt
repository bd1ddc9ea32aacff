-- Tags 4 and 5: what the roles of the addends come to. Assumes nothing.
use mathlib.Core.Path.{◌≡◌, refl, sym, ap, ap₂, subst, ◌∙◌}
use mathlib.Core.Bool.{Bool, true, false, ◌&&◌, ◌||◌, not, cond, true≢false}
use mathlib.Core.List.{List, [], ◌∷◌}
use mathlib.Core.Option.{Option, none, some}
use Prim.Native.Nat.{ℕ, suc}
use native.Mathlib.Omega.{arith}
use lib.Dec.{eqb}
use lib.ListN.{length}
use borrow.Author.Tests.{ne_eqb, eq-eqb}
use Rattle.std.specs.Prelude as std
use Rattle.std.specs.Prelude.{if◌then◌else◌}
use Rattle.expr.specs.Expr.{Expr, binary}
use Rattle.expr.specs.declared.kind.Binary.TheVariants.{And}
use Rattle.expr.specs.Optional.{◌and_then◌, ◌or_else◌, only_if, map}
use Rattle.expr.specs.OptionalLaws.{not_both, Every, every_at, every_or_else, every_map, every_map_on}
use Rattle.rewriting.specs.AtomIdentityRewrite as def
use Rattle.rewriting.specs.AtomIdentityRewrite.{beside_not_of, any_negated, extract, only, plus_and_minus, is_there, as_one, as_or, as_minus_two, as_minus_twice_or, match_and_via_not_or_plus_a_plus_one, match_xor_via_ornot_flat}
use Rattle.atom_identity_rewrite.specs.declared.candidate.Candidate.{Candidate}
use Rattle.expr.specs.Trees.{tree_of, optional_tree, optional_trees}
use Rattle.expr.specs.declared.tree.Tree.{Tree}
use Rattle.atom_identity_rewrite.specs.declared.reading.Roles.{Roles}
use Rattle.atom_identity_rewrite.specs.Promises.{made, xor_of_or_not, remaining, others, first_of, last_signed, Sorted, AndOfRoles, XorOfRoles}

-- ---- what `extract` leaves

record OneLess (xs ys : List def.Addend) : Type 0 where
  fewer : length xs ≡ suc (length ys)
  added : any_negated xs ≡ false → any_negated ys ≡ false

neither : (a b : Bool) → (a || b) ≡ false → (a ≡ false) × (b ≡ false)
neither true b e = absurd (true≢false e)
neither false b e = (refl, e)

module _ {B : Type 0} (f : def.Addend → Option B) where
  one_less : (xs : List def.Addend) → Every (λ p. OneLess xs p.1) (extract f xs)
  unfolding extract any_negated
  one_less [] = tt
  one_less (a ∷ xs) =
      every_or_else _ (map (λ b. (b, xs)) (f a)) (map (λ p. (p.0, a ∷ p.1)) (extract f xs))
      (every_map _ (f a) (λ b e. record { fewer = refl; added = λ n. (neither a.negated (any_negated xs) n).1 }))
      (every_map_on _ _ (extract f xs) (one_less xs) (λ p h. record {
        fewer = ap suc h.fewer;
        added = λ n. ap₂ ◌||◌ (neither a.negated (any_negated xs) n).0 (h.added (neither a.negated (any_negated xs) n).1);
      }))

-- ---- the constant, the Or, and the addends that are left

is_there_lem : {A : Type 0} (o : Option A) → is_there o ≡ true → (a : A) × (o ≡ some a)
is_there_lem none e = absurd (true≢false (sym e))
is_there_lem (some a) e = (a, refl)

not_there : {A : Type 0} (o : Option A) → is_there o ≡ false → o ≡ none
not_there none e = refl
not_there (some a) e = absurd (true≢false e)

module _ {B : Type 0} where
  first_none : (o : Option (B × List def.Addend)) → first_of o ≡ none → o ≡ none
  first_none none e = refl
  first_none (some p) e = not_both (some p.0) e refl

  first_some : (o : Option (B × List def.Addend)) (b : B) → first_of o ≡ some b → (ys : List def.Addend) × (o ≡ some (b, ys))
  first_some none b e = not_both none refl e
  first_some (some p) b e = (p.1, ap (λ (c : B). some (c, p.1)) (let z : p.0 ≡ b = cc in z))

module _ (f : def.Addend → Option Expr) (g : def.Addend → Option (Expr × Expr)) (xs : List def.Addend) (r : Roles) (s : Sorted f g xs r) where
  no_unit : r.unit ≡ false → extract f xs ≡ none
  no_unit e = not_there (extract f xs) (sym s.unit_is ∙ e)

  record UnitAt : Type 0 where
    found : Expr × List def.Addend
    is : extract f xs ≡ some found
    less : OneLess xs found.1
    rest : remaining f xs ≡ found.1

  unit_at : r.unit ≡ true → UnitAt
  unit_at e =
      let p = is_there_lem (extract f xs) (sym s.unit_is ∙ e) in
      record { found = p.0; is = p.1; less = every_at _ (extract f xs) (one_less f xs) p.1; rest = ap (λ (o : Option (Expr × List def.Addend)). others o xs) p.1 }

  -- the first Or of the addends beside the constant
  or_beside : (u : UnitAt) → first_of (extract g u.found.1) ≡ optional_trees r.or
  or_beside u = ap (λ (ys : List def.Addend). first_of (extract g ys)) (sym u.rest) ∙ sym s.or_is

  no_or : (u : UnitAt) → r.or ≡ std.None → extract g u.found.1 ≡ none
  no_or u e = first_none (extract g u.found.1) (or_beside u ∙ ap optional_trees e)

  -- the addends that are neither
  record OrAt (u : UnitAt) (sides : Expr × Expr) : Type 0 where
    left : List def.Addend
    is : extract g u.found.1 ≡ some (sides, left)
    less : OneLess u.found.1 left
    rest : remaining g (remaining f xs) ≡ left

  or_at : (u : UnitAt) (p : Tree × Tree) → r.or ≡ std.Some p → OrAt u (tree_of p.0, tree_of p.1)
  or_at u p e =
      let q = first_some (extract g u.found.1) (tree_of p.0, tree_of p.1) (or_beside u ∙ ap optional_trees e) in
      record {
        left = q.0;
        is = q.1;
        less = every_at _ (extract g u.found.1) (one_less g u.found.1) q.1;
        rest = ap (remaining g) u.rest ∙ ap (λ (o : Option ((Expr × Expr) × List def.Addend)). others o u.found.1) q.1;
      }

  module _ (u : UnitAt) (sides : Expr × Expr) (v : OrAt u sides) where
    plus_last : optional_tree r.plus ≡ last_signed false v.left
    plus_last = s.plus_is ∙ ap (last_signed false) v.rest

    minus_last : optional_tree r.minus ≡ last_signed true v.left
    minus_last = s.minus_is ∙ ap (last_signed true) v.rest

-- ---- `and_of_roles`

-- of one addend that is added
record OneLeft (ys : List def.Addend) : Type 0 where
  addend : def.Addend
  is : only ys ≡ some addend
  last : last_signed false ys ≡ some addend.expr

one_left : (ys : List def.Addend) → length ys ≡ 1 → any_negated ys ≡ false → OneLeft ys
unfolding only last_signed any_negated
one_left [] l n = absurd (omega arith)
one_left (a ∷ []) l n = record { addend = a; is = refl; last = ap (λ (b : Bool). only_if (cond b false true) a.expr) (neither a.negated false n).0 }
one_left (a ∷ b ∷ ys) l n = absurd (omega arith)

module _ (w : ℕ) where
  -- what tag 4 makes of the Or's operands and the addends that are left, and of what is left beside the constant
  abbrev and_of_left : (Expr × Expr) × List def.Addend → Option Expr
  and_of_left q = only q.1 and_then λ a. map (binary And a.expr) (beside_not_of a.expr q.0.0 q.0.1)

  abbrev and_of_rest : Expr × List def.Addend → Option Expr
  and_of_rest p = extract as_or p.1 and_then and_of_left

  and_is : (xs : List def.Addend) {three : Bool} → eqb (length xs) 3 ≡ three → {negated : Bool} → any_negated xs ≡ negated
      → match_and_via_not_or_plus_a_plus_one w xs ≡ (if not three || negated then none else (extract (as_one w) xs and_then and_of_rest))
  unfolding match_and_via_not_or_plus_a_plus_one
  and_is xs l n = ap₂ (λ (c d : Bool). if not c || d then none else (extract (as_one w) xs and_then and_of_rest)) l n

  pub and_not_three : (xs : List def.Addend) → (length xs ≡ 3 → ⊥) → match_and_via_not_or_plus_a_plus_one w xs ≡ none
  and_not_three xs f = and_is xs (ne_eqb (length xs) 3 f) refl

module _ (r : Roles) where
  pub and_negated : r.negated ≡ true → AndOfRoles r none
  and_negated e = record { is = λ w xs l s. sym (and_is w xs (eq-eqb (length xs) 3 l) (sym s.negated_is ∙ e)) }

  module _ (n : r.negated ≡ false) where
    -- the answer for three addends, none of them subtracted
    added_is : (w : ℕ) (xs : List def.Addend) → length xs ≡ 3 → Sorted (as_one w) as_or xs r
        → match_and_via_not_or_plus_a_plus_one w xs ≡ (extract (as_one w) xs and_then and_of_rest w)
    added_is w xs l s = and_is w xs (eq-eqb (length xs) 3 l) (sym s.negated_is ∙ n)

    pub and_no_unit : r.unit ≡ false → AndOfRoles r none
    and_no_unit e = record {
      is = λ w xs l s. sym (added_is w xs l s ∙ ap (λ (o : Option (Expr × List def.Addend)). o and_then and_of_rest w) (no_unit (as_one w) as_or xs r s e));
    }

    module _ (e : r.unit ≡ true) where
      module _ (w : ℕ) (xs : List def.Addend) (l : length xs ≡ 3) (s : Sorted (as_one w) as_or xs r) where
        unit_4 : UnitAt (as_one w) as_or xs r s
        unit_4 = unit_at (as_one w) as_or xs r s e

        rest_is : match_and_via_not_or_plus_a_plus_one w xs ≡ and_of_rest w unit_4.found
        rest_is = added_is w xs l s ∙ ap (λ (o : Option (Expr × List def.Addend)). o and_then and_of_rest w) unit_4.is

      pub and_no_or : r.or ≡ std.None → AndOfRoles r none
      and_no_or h = record {
        is = λ w xs l s.
            sym (rest_is w xs l s ∙ ap (λ (o : Option ((Expr × Expr) × List def.Addend)). o and_then and_of_left w) (no_or (as_one w) as_or xs r s (unit_4 w xs l s) h));
      }

      module _ (left right : Tree) (h : r.or ≡ std.Some (left, right)) where
        module _ (w : ℕ) (xs : List def.Addend) (l : length xs ≡ 3) (s : Sorted (as_one w) as_or xs r) where
          or_4 : OrAt (as_one w) as_or xs r s (unit_4 w xs l s) (tree_of left, tree_of right)
          or_4 = or_at (as_one w) as_or xs r s (unit_4 w xs l s) (left, right) h

          -- of three addends, less the constant and the Or, one is left
          left_4 : OneLeft or_4.left
          left_4 = one_left or_4.left
              (let a = (unit_4 w xs l s).less.fewer in let b = or_4.less.fewer in omega arith)
              (or_4.less.added ((unit_4 w xs l s).less.added (sym s.negated_is ∙ n)))

          plus_4 : optional_tree r.plus ≡ some left_4.addend.expr
          plus_4 = plus_last (as_one w) as_or xs r s (unit_4 w xs l s) _ or_4 ∙ left_4.last

        -- so the one that is added is there
        pub and_no_plus : r.plus ≡ std.None → AndOfRoles r none
        and_no_plus g = record { is = λ w xs l s. not_both (optional_tree r.plus) (ap optional_tree g) (plus_4 w xs l s) }

        pub and_matched : (a : Tree) → r.plus ≡ std.Some a → (o : Option Expr)
            → o ≡ map (binary And (tree_of a)) (beside_not_of (tree_of a) (tree_of left) (tree_of right)) → AndOfRoles r o
        and_matched a g o k = record {
          is = λ w xs l s.
              let z : tree_of a ≡ (left_4 w xs l s).addend.expr = let y = plus_4 w xs l s in let x = ap optional_tree g in cc in
              k
              ∙ ap (λ (t : Expr). map (binary And t) (beside_not_of t (tree_of left) (tree_of right))) z
              ∙ sym (rest_is w xs l s
              ∙ ap (λ (q : Option ((Expr × Expr) × List def.Addend)). q and_then and_of_left w) (or_4 w xs l s).is
              ∙ ap (λ (q : Option def.Addend). q and_then λ b. map (binary And b.expr) (beside_not_of b.expr (tree_of left) (tree_of right))) (left_4 w xs l s).is);
        }

-- ---- `xor_of_roles`

-- both, where both are there
abbrev both : Option Expr → Option Expr → Option (Expr × Expr)
both none p = none
both (some a) none = none
both (some a) (some b) = some (a, b)

both_none : (o : Option Expr) → both o none ≡ none
both_none none = refl
both_none (some a) = refl

-- of two addends, one that is added and one that is subtracted: the last of each sign
two_left : (ys : List def.Addend) → length ys ≡ 2 → plus_and_minus ys ≡ both (last_signed false ys) (last_signed true ys)
unfolding plus_and_minus last_signed
two_left [] l = absurd (omega arith)
two_left (a ∷ []) l = absurd (omega arith)
two_left (a ∷ b ∷ []) l = by_signs a.negated b.negated
  where
    last : (s x y : Bool) → Option Expr
    last s x y = only_if (cond y s (not s)) b.expr or_else only_if (cond x s (not s)) a.expr

    by_signs : (x y : Bool)
        → ◌≡◌ {A = Option (Expr × Expr)} (if not x && y then some (a.expr, b.expr) else if x && not y then some (b.expr, a.expr) else none)
        (both (last false x y) (last true x y))
    by_signs true true = refl
    by_signs true false = refl
    by_signs false true = refl
    by_signs false false = refl
two_left (a ∷ b ∷ c ∷ ys) l = absurd (omega arith)

-- what tag 5 makes of the Orights operands and the addends that are left, and of what is left beside the constant
abbrev xor_of_pair : Expr × Expr → Expr × Expr → Option Expr
xor_of_pair s p = xor_of_or_not s.0 s.1 p.0 p.1

abbrev xor_of_left : (Expr × Expr) × List def.Addend → Option Expr
xor_of_left q = plus_and_minus q.1 and_then xor_of_pair q.0

module _ (w : ℕ) where
  abbrev xor_of_rest : Expr × List def.Addend → Option Expr
  xor_of_rest p = extract (as_minus_twice_or w) p.1 and_then xor_of_left

  xor_by : (xs : List def.Addend) {four : Bool} → eqb (length xs) 4 ≡ four
      → match_xor_via_ornot_flat w xs ≡ (if not four then none else (extract (as_minus_two w) xs and_then xor_of_rest))
  unfolding match_xor_via_ornot_flat
  xor_by xs l = ap (λ (c : Bool). if not c then none else (extract (as_minus_two w) xs and_then xor_of_rest)) l

  xor_is : (xs : List def.Addend) → length xs ≡ 4 → match_xor_via_ornot_flat w xs ≡ (extract (as_minus_two w) xs and_then xor_of_rest)
  xor_is xs l = xor_by xs (eq-eqb (length xs) 4 l)

  pub xor_not_four : (xs : List def.Addend) → (length xs ≡ 4 → ⊥) → match_xor_via_ornot_flat w xs ≡ none
  xor_not_four xs f = xor_by xs (ne_eqb (length xs) 4 f)

module _ (r : Roles) where
  pub xor_no_unit : r.unit ≡ false → XorOfRoles r none
  xor_no_unit e = record {
    is = λ w xs l s. sym (xor_is w xs l ∙ ap (λ (o : Option (Expr × List def.Addend)). o and_then xor_of_rest w) (no_unit (as_minus_two w) (as_minus_twice_or w) xs r s e));
  }

  module _ (e : r.unit ≡ true) where
    module _ (w : ℕ) (xs : List def.Addend) (l : length xs ≡ 4) (s : Sorted (as_minus_two w) (as_minus_twice_or w) xs r) where
      unit_5 : UnitAt (as_minus_two w) (as_minus_twice_or w) xs r s
      unit_5 = unit_at (as_minus_two w) (as_minus_twice_or w) xs r s e

      rest_is_5 : match_xor_via_ornot_flat w xs ≡ xor_of_rest w unit_5.found
      rest_is_5 = xor_is w xs l ∙ ap (λ (o : Option (Expr × List def.Addend)). o and_then xor_of_rest w) unit_5.is

    pub xor_no_or : r.or ≡ std.None → XorOfRoles r none
    xor_no_or h = record {
      is = λ w xs l s.
          sym (rest_is_5 w xs l s
          ∙ ap (λ (o : Option ((Expr × Expr) × List def.Addend)). o and_then xor_of_left) (no_or (as_minus_two w) (as_minus_twice_or w) xs r s (unit_5 w xs l s) h));
    }

    module _ (left right : Tree) (h : r.or ≡ std.Some (left, right)) where
      module _ (w : ℕ) (xs : List def.Addend) (l : length xs ≡ 4) (s : Sorted (as_minus_two w) (as_minus_twice_or w) xs r) where
        or_5 : OrAt (as_minus_two w) (as_minus_twice_or w) xs r s (unit_5 w xs l s) (tree_of left, tree_of right)
        or_5 = or_at (as_minus_two w) (as_minus_twice_or w) xs r s (unit_5 w xs l s) (left, right) h

        -- of four addends, less the constant and the Or, two are left
        pair_is : plus_and_minus or_5.left ≡ both (optional_tree r.plus) (optional_tree r.minus)
        pair_is =
            two_left or_5.left (let a = (unit_5 w xs l s).less.fewer in let b = or_5.less.fewer in omega arith)
            ∙ sym (ap₂ both (plus_last (as_minus_two w) (as_minus_twice_or w) xs r s (unit_5 w xs l s) _ or_5) (minus_last (as_minus_two w) (as_minus_twice_or w) xs r s (unit_5 w xs l s) _ or_5))

        -- the answer, by the pair of the two that are left
        pair_gives : (q : Option (Expr × Expr)) → both (optional_tree r.plus) (optional_tree r.minus) ≡ q → (q and_then xor_of_pair (tree_of left, tree_of right)) ≡ match_xor_via_ornot_flat w xs
        pair_gives q k =
            sym (rest_is_5 w xs l s
            ∙ ap (λ (o : Option ((Expr × Expr) × List def.Addend)). o and_then xor_of_left) or_5.is
            ∙ ap (λ (o : Option (Expr × Expr)). o and_then xor_of_pair (tree_of left, tree_of right)) (pair_is ∙ k))

      pub xor_no_plus : r.plus ≡ std.None → XorOfRoles r none
      xor_no_plus g = record { is = λ w xs l s. pair_gives w xs l s none (ap (λ (o : Option Expr). both o (optional_tree r.minus)) (ap optional_tree g)) }

      pub xor_no_minus : r.minus ≡ std.None → XorOfRoles r none
      xor_no_minus g = record {
        is = λ w xs l s. pair_gives w xs l s none (ap (both (optional_tree r.plus)) (ap optional_tree g) ∙ both_none (optional_tree r.plus));
      }

      pub xor_matched : (a : Tree) → r.plus ≡ std.Some a → (b : Tree) → r.minus ≡ std.Some b → (o : Option Expr)
          → o ≡ xor_of_or_not (tree_of left) (tree_of right) (tree_of a) (tree_of b) → XorOfRoles r o
      xor_matched a g b i o k = record {
        is = λ w xs l s. k ∙ pair_gives w xs l s (some (tree_of a, tree_of b)) (ap₂ both (ap optional_tree g) (ap optional_tree i));
      }

-- the answer at a `?`
module _ (r : Roles) (m : std.Option Candidate) (e : m ≡ std.None) where
  pub and_left_off : AndOfRoles r none → AndOfRoles r (made m)
  and_left_off h = subst (λ (o : std.Option Candidate). AndOfRoles r (made o)) (sym e) h

  pub xor_left_off : XorOfRoles r none → XorOfRoles r (made m)
  xor_left_off h = subst (λ (o : std.Option Candidate). XorOfRoles r (made o)) (sym e) h

pub ruleset roles = (and_left_off, xor_left_off, and_negated, and_no_unit, and_no_or, and_no_plus, and_matched, xor_no_unit, xor_no_or, xor_no_plus, xor_no_minus, xor_matched)
