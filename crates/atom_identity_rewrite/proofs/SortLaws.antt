-- The roles of the addends, with one addend more. Assumes nothing.
use mathlib.Core.Path.{◌≡◌, refl, sym, ap, ◌∙◌}
use mathlib.Core.Bool.{Bool, true, false, ◌&&◌, ◌||◌, not, cond, true≢false}
use mathlib.Core.List.{List, [], ◌∷◌, ◌++◌}
use Prim.Native.Nat.{ℕ}
use mathlib.Core.Option.{Option, none, some}
use Rattle.std.specs.Prelude as std
use Rattle.std.specs.Prelude.{if◌then◌else◌}
use Rattle.std.specs.Option.{is_some}
use Rattle.expr.specs.Expr.{Expr}
use Rattle.expr.specs.declared.kind.Binary.TheVariants.{Or}
use Rattle.expr.specs.Optional.{◌or_else◌, only_if, map}
use Rattle.rewriting.specs.AtomIdentityRewrite as def
use Rattle.rewriting.specs.AtomIdentityRewrite.{any_negated, extract, is_there, is_masked, as_one, as_or, as_minus_two, as_minus_twice_or, or_in_product}
use Rattle.expr.specs.Trees.{tree_of, optional_tree, optional_trees, operands_of}
use Rattle.expr.specs.declared.tree.Tree.{Tree}
use Rattle.atom_identity_rewrite.specs.declared.addends.SignedTree.{SignedTree}
use Rattle.atom_identity_rewrite.specs.declared.reading.Roles.{Roles}
use Rattle.atom_identity_rewrite.specs.Promises.{addend_of, no_roles, others, remaining, first_of, last_signed, Sorted, Sorts, SortsAs}

-- ---- `extract` with one addend more

-- an answer and the addends beside it
abbrev Found : Type 0 → Type 0
Found B = B × List def.Addend

-- the answer beside xs, and one beside which an addend more stands in front or behind
module _ {B : Type 0} where
  abbrev answer : List def.Addend → B → Found B
  answer xs b = (b, xs)

  abbrev before : def.Addend → Found B → Found B
  before a p = (p.0, a ∷ p.1)

  abbrev behind : def.Addend → Found B → Found B
  behind x p = (p.0, p.1 ++ (x ∷ []))

  -- what is found of xs and x, where e is found of xs, and y is the answer for x
  abbrev either : List def.Addend → def.Addend → Option (Found B) → Option B → Option (Found B)
  either xs x e y = map (behind x) e or_else map (answer xs) y

  either_cons : (xs : List def.Addend) (x a : def.Addend) (o : Option B) (e : Option (Found B)) (y : Option B)
      → (map (answer (xs ++ (x ∷ []))) o or_else map (before a) (either xs x e y)) ≡ either (a ∷ xs) x (map (answer xs) o or_else map (before a) e) y
  either_cons xs x a none none none = refl
  either_cons xs x a none none (some b) = refl
  either_cons xs x a none (some p) y = refl
  either_cons xs x a (some b) e y = refl

  either_nil : (x : def.Addend) (y : Option B) → (map (answer []) y or_else none) ≡ either [] x none y
  either_nil x none = refl
  either_nil x (some b) = refl

  module _ (f : def.Addend → Option B) (x : def.Addend) where
    extract_more : (xs : List def.Addend) → extract f (xs ++ (x ∷ [])) ≡ either xs x (extract f xs) (f x)
    unfolding extract
    extract_more [] = either_nil x (f x)
    extract_more (a ∷ xs) =
        ap (λ (e : Option (Found B)). map (answer (xs ++ (x ∷ []))) (f a) or_else map (before a) e) (extract_more xs)
        ∙ either_cons xs x a (f a) (extract f xs) (f x)

  -- there is an answer for x, and none for xs
  abbrev is_first : Option (Found B) → Option B → Bool
  is_first e y = is_there y && not (is_there e)

  module _ (xs : List def.Addend) (x : def.Addend) where
    picks : (e : Option (Found B)) (y : Option B) → is_first e y ≡ true
        → (is_there (either xs x e y) ≡ true) × (first_of (either xs x e y) ≡ y) × (others (either xs x e y) (xs ++ (x ∷ [])) ≡ others e xs)
    picks none none h = absurd (true≢false (sym h))
    picks none (some b) h = (refl, refl, refl)
    picks (some p) none h = absurd (true≢false (sym h))
    picks (some p) (some b) h = absurd (true≢false (sym h))

    leaves : (e : Option (Found B)) (y : Option B) → is_first e y ≡ false
        → (is_there (either xs x e y) ≡ is_there e) × (first_of (either xs x e y) ≡ first_of e) × (others (either xs x e y) (xs ++ (x ∷ [])) ≡ others e xs ++ (x ∷ []))
    leaves none none h = (refl, refl, refl)
    leaves none (some b) h = absurd (true≢false h)
    leaves (some p) y h = (refl, refl, refl)

-- of xs and x behind them: f picks x, or leaves it
module _ {B : Type 0} (f : def.Addend → Option B) (xs : List def.Addend) (x : def.Addend) where
  record Picked : Type 0 where
    there : is_there (extract f (xs ++ (x ∷ []))) ≡ true
    first : first_of (extract f (xs ++ (x ∷ []))) ≡ f x
    rest : remaining f (xs ++ (x ∷ [])) ≡ remaining f xs

  record Left : Type 0 where
    there : is_there (extract f (xs ++ (x ∷ []))) ≡ is_there (extract f xs)
    first : first_of (extract f (xs ++ (x ∷ []))) ≡ first_of (extract f xs)
    rest : remaining f (xs ++ (x ∷ [])) ≡ remaining f xs ++ (x ∷ [])

  more : extract f (xs ++ (x ∷ [])) ≡ either xs x (extract f xs) (f x)
  more = extract_more f x xs

  picked : is_first (extract f xs) (f x) ≡ true → Picked
  picked h =
      let p = picks xs x (extract f xs) (f x) h in
      record {
        there = ap is_there more ∙ p.0;
        first = ap first_of more ∙ p.1;
        rest = ap (λ (e : Option (Found B)). others e (xs ++ (x ∷ []))) more ∙ p.2;
      }

  left : is_first (extract f xs) (f x) ≡ false → Left
  left h =
      let p = leaves xs x (extract f xs) (f x) h in
      record {
        there = ap is_there more ∙ p.0;
        first = ap first_of more ∙ p.1;
        rest = ap (λ (e : Option (Found B)). others e (xs ++ (x ∷ []))) more ∙ p.2;
      }

-- ---- the last of a sign, and whether any is subtracted

or_else_assoc : {A : Type 0} (o p q : Option A) → ((o or_else p) or_else q) ≡ (o or_else (p or_else q))
or_else_assoc none p q = refl
or_else_assoc (some a) p q = refl

module _ (s : Bool) (x : def.Addend) where
  abbrev signed : def.Addend → Option Expr
  signed a = only_if (cond a.negated s (not s)) a.expr

  last_nil : (o : Option Expr) → (none or_else o) ≡ (o or_else none)
  last_nil none = refl
  last_nil (some a) = refl

  last_more : (xs : List def.Addend) → last_signed s (xs ++ (x ∷ [])) ≡ (signed x or_else last_signed s xs)
  unfolding last_signed
  last_more [] = last_nil (signed x)
  last_more (a ∷ xs) = ap (λ (o : Option Expr). o or_else signed a) (last_more xs) ∙ or_else_assoc (signed x) (last_signed s xs) (signed a)

  last_same : x.negated ≡ s → (xs : List def.Addend) → last_signed s (xs ++ (x ∷ [])) ≡ some x.expr
  last_same e xs = last_more xs ∙ ap (λ (b : Bool). only_if b x.expr or_else last_signed s xs) (ap (λ (n : Bool). cond n s (not s)) e ∙ itself s)
    where
      itself : (b : Bool) → cond b b (not b) ≡ true
      itself true = refl
      itself false = refl

  last_other : x.negated ≡ not s → (xs : List def.Addend) → last_signed s (xs ++ (x ∷ [])) ≡ last_signed s xs
  last_other e xs = last_more xs ∙ ap (λ (b : Bool). only_if b x.expr or_else last_signed s xs) (ap (λ (n : Bool). cond n s (not s)) e ∙ other s)
    where
      other : (b : Bool) → cond (not b) b (not b) ≡ false
      other true = refl
      other false = refl

any_more : (x : def.Addend) (xs : List def.Addend) → any_negated (xs ++ (x ∷ [])) ≡ (any_negated xs || x.negated)
unfolding any_negated
any_more x [] = alone x.negated
  where
    alone : (b : Bool) → (b || false) ≡ b
    alone true = refl
    alone false = refl
any_more x (a ∷ xs) = ap (λ (b : Bool). a.negated || b) (any_more x xs) ∙ assoc a.negated (any_negated xs) x.negated
  where
    assoc : (a b c : Bool) → (a || (b || c)) ≡ ((a || b) || c)
    assoc true b c = refl
    assoc false b c = refl

-- ---- `sort`

first_there : {B : Type 0} (e : Option (Found B)) → is_there (first_of e) ≡ is_there e
first_there none = refl
first_there (some p) = refl

trees_there : (o : std.Option (Tree × Tree)) → is_there (optional_trees o) ≡ is_some o
trees_there std.None = refl
trees_there (std.Some p) = refl

module _ (a : SignedTree) (unit : Bool) (or : std.Option (Tree × Tree)) (before : Roles) where
  -- whether any addend is subtracted
  abbrev negated : Bool
  negated = before.negated || a.negated

  module _ (f : def.Addend → Option Expr) (g : def.Addend → Option (Expr × Expr)) (xs : List def.Addend) (u : unit ≡ is_there (f (addend_of a))) (o : optional_trees or ≡ g (addend_of a)) (s : Sorted f g xs before) where
    unit_first : is_first (extract f xs) (f (addend_of a)) ≡ (unit && not before.unit)
    unit_first = let h = s.unit_is in cc

    or_first : is_first (extract g (remaining f xs)) (g (addend_of a)) ≡ (is_some or && not (is_some before.or))
    or_first =
        let h : is_there (g (addend_of a)) ≡ is_some or = sym (ap is_there o) ∙ trees_there or in
        let k : is_there (extract g (remaining f xs)) ≡ is_some before.or = sym (first_there (extract g (remaining f xs))) ∙ sym (ap is_there s.or_is) ∙ trees_there before.or in
        cc

    any_is : negated ≡ any_negated (xs ++ (addend_of a ∷ []))
    any_is = ap (λ (b : Bool). b || a.negated) s.negated_is ∙ sym (any_more (addend_of a) xs)

  pub sort_unit : (unit && not before.unit) ≡ true → SortsAs (addend_of a) unit or before (record { unit = true; or = before.or; plus = before.plus; minus = before.minus; negated = negated })
  sort_unit e = record {
    sorts = λ f g u o. record {
      sorts = λ xs s.
          let p = picked f xs (addend_of a) (unit_first f g xs u o s ∙ e) in
          record {
            unit_is = sym p.there;
            or_is = s.or_is ∙ ap (λ (ys : List def.Addend). first_of (extract g ys)) (sym p.rest);
            plus_is = s.plus_is ∙ ap (λ (ys : List def.Addend). last_signed false (remaining g ys)) (sym p.rest);
            minus_is = s.minus_is ∙ ap (λ (ys : List def.Addend). last_signed true (remaining g ys)) (sym p.rest);
            negated_is = any_is f g xs u o s;
          };
    };
  }

  module _ (e : (unit && not before.unit) ≡ false) (there gone : Bool) (ht : there ≡ is_some or) (hg : is_some before.or ≡ not gone) where
    or_test : (is_some or && not (is_some before.or)) ≡ (there && gone)
    or_test = ap (λ (b : Bool). b && not (is_some before.or)) (sym ht) ∙ ap (λ (b : Bool). there && not b) hg ∙ ap (λ (b : Bool). there && b) (twice gone)
      where
        twice : (b : Bool) → not (not b) ≡ b
        twice true = refl
        twice false = refl

    pub sort_or : (there && gone) ≡ true → SortsAs (addend_of a) unit or before (record { unit = before.unit; or = or; plus = before.plus; minus = before.minus; negated = negated })
    sort_or d = record {
      sorts = λ f g u o. record {
        sorts = λ xs s.
            let l = left f xs (addend_of a) (unit_first f g xs u o s ∙ e) in
            let p = picked g (remaining f xs) (addend_of a) (or_first f g xs u o s ∙ or_test ∙ d) in
            let rest = ap (remaining g) l.rest ∙ p.rest in
            record {
              unit_is = s.unit_is ∙ sym l.there;
              or_is = o ∙ sym (ap (λ (ys : List def.Addend). first_of (extract g ys)) l.rest ∙ p.first);
              plus_is = s.plus_is ∙ ap (last_signed false) (sym rest);
              minus_is = s.minus_is ∙ ap (last_signed true) (sym rest);
              negated_is = any_is f g xs u o s;
            };
      };
    }

    module _ (d : (there && gone) ≡ false) where
      -- it is neither: the same roles, but for the last of its sign
      module _ (f : def.Addend → Option Expr) (g : def.Addend → Option (Expr × Expr)) (u : unit ≡ is_there (f (addend_of a))) (o : optional_trees or ≡ g (addend_of a)) (xs : List def.Addend) (s : Sorted f g xs before) where
        rest_sorted : (plus minus : std.Option Tree)
            → optional_tree plus ≡ last_signed false (remaining g (remaining f xs) ++ (addend_of a ∷ [])) → optional_tree minus ≡ last_signed true (remaining g (remaining f xs) ++ (addend_of a ∷ []))
            → Sorted f g (xs ++ (addend_of a ∷ [])) (record { unit = before.unit; or = before.or; plus = plus; minus = minus; negated = negated })
        rest_sorted plus minus p m =
            let l = left f xs (addend_of a) (unit_first f g xs u o s ∙ e) in
            let k = left g (remaining f xs) (addend_of a) (or_first f g xs u o s ∙ or_test ∙ d) in
            let rest = ap (remaining g) l.rest ∙ k.rest in
            record {
              unit_is = s.unit_is ∙ sym l.there;
              or_is = s.or_is ∙ sym (ap (λ (ys : List def.Addend). first_of (extract g ys)) l.rest ∙ k.first);
              plus_is = p ∙ ap (last_signed false) (sym rest);
              minus_is = m ∙ ap (last_signed true) (sym rest);
              negated_is = any_is f g xs u o s;
            }

      pub sort_minus : a.negated ≡ true → SortsAs (addend_of a) unit or before (record { unit = before.unit; or = before.or; plus = before.plus; minus = std.Some a.tree; negated = negated })
      sort_minus k = record {
        sorts = λ f g u o. record {
          sorts = λ xs s.
              rest_sorted f g u o xs s before.plus (std.Some a.tree)
              (s.plus_is ∙ sym (last_other false (addend_of a) k (remaining g (remaining f xs))))
              (sym (last_same true (addend_of a) k (remaining g (remaining f xs))));
        };
      }

      pub sort_plus : a.negated ≡ false → SortsAs (addend_of a) unit or before (record { unit = before.unit; or = before.or; plus = std.Some a.tree; minus = before.minus; negated = negated })
      sort_plus k = record {
        sorts = λ f g u o. record {
          sorts = λ xs s.
              rest_sorted f g u o xs s (std.Some a.tree) before.minus
              (sym (last_same false (addend_of a) k (remaining g (remaining f xs))))
              (s.minus_is ∙ sym (last_other true (addend_of a) k (remaining g (remaining f xs))));
        };
      }

pub ruleset sorting = (sort_unit, sort_or, sort_minus, sort_plus)

-- ---- `sort_for_and`, `sort_for_xor`

there_only_if : (b : Bool) (t : Expr) → b ≡ is_there (only_if b t)
there_only_if true t = refl
there_only_if false t = refl

module _ (w : ℕ) (a : SignedTree) (unit : Bool) (or : std.Option (Tree × Tree)) (before after : Roles) (s : SortsAs (addend_of a) unit or before after) where
  pub sorts_for_and : unit ≡ is_masked w 1 (tree_of a.tree) → optional_trees or ≡ operands_of Or (tree_of a.tree) → Sorts (as_one w) as_or (addend_of a) before after
  sorts_for_and u o = s.sorts (as_one w) as_or (u ∙ there_only_if (is_masked w 1 (tree_of a.tree)) (tree_of a.tree)) o

  xor_tests : unit ≡ (a.negated && is_masked w 2 (tree_of a.tree)) → optional_trees or ≡ (if a.negated then or_in_product (is_masked w 2) (tree_of a.tree) else none)
      → Sorts (as_minus_two w) (as_minus_twice_or w) (addend_of a) before after
  xor_tests u o = s.sorts (as_minus_two w) (as_minus_twice_or w) (u ∙ there_only_if (a.negated && is_masked w 2 (tree_of a.tree)) (tree_of a.tree)) o

  pub sorts_minus : a.negated ≡ true → unit ≡ is_masked w 2 (tree_of a.tree) → optional_trees or ≡ or_in_product (is_masked w 2) (tree_of a.tree) → Sorts (as_minus_two w) (as_minus_twice_or w) (addend_of a) before after
  sorts_minus e u o =
      xor_tests (u ∙ sym (ap (λ (b : Bool). b && is_masked w 2 (tree_of a.tree)) e))
      (o ∙ sym (ap (λ (b : Bool). if b then or_in_product (is_masked w 2) (tree_of a.tree) else none) e))

  pub sorts_plus : a.negated ≡ false → unit ≡ false → optional_trees or ≡ none → Sorts (as_minus_two w) (as_minus_twice_or w) (addend_of a) before after
  sorts_plus e u o =
      xor_tests (u ∙ sym (ap (λ (b : Bool). b && is_masked w 2 (tree_of a.tree)) e))
      (o ∙ sym (ap (λ (b : Bool). if b then or_in_product (is_masked w 2) (tree_of a.tree) else none) e))

pub ruleset sorts = (sorts_for_and, sorts_minus, sorts_plus)

-- ---- no addend

pub none_sorted : (f : def.Addend → Option Expr) (g : def.Addend → Option (Expr × Expr)) → Sorted f g [] no_roles
unfolding extract last_signed any_negated
none_sorted f g = record { unit_is = refl; or_is = refl; plus_is = refl; minus_is = refl; negated_is = refl }
