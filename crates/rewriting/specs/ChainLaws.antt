-- Document 01's list: it exists, there is one, and what holds of each of its trees and of its end. Assumes nothing.
use Rattle.std.specs.Prelude.{◌≡◌, Bool, true, length}
use Rattle.std.proofs.Math.Path.{refl, sym, ap, subst}
use Rattle.std.proofs.Common.{◌∙◌, le_refl, le_trans}
use mathlib.Core.List.{List, [], ◌∷◌}
use Rattle.std.proofs.Math.Option.{Option, none, some}
use Prim.Native.Nat.{ℕ, zero, suc, ◌+◌, ◌*◌, ◌-◌, ◌≤◌}
use native.Mathlib.Omega.{arith}
use Rattle.expr.specs.Expr.{Expr, nodes, depth}
use Rattle.expr.specs.ExprLaws.{nodes_pos}
use Rattle.expr.specs.Parse.{operands_ok, Valid}
use Rattle.value.specs.Value.{value, is_lent}
use Rattle.width.specs.Width.{is_uniform_width}
use Rattle.expr.specs.Optional.{map, ◌otherwise◌, ◌and_then◌}
use Rattle.expr.specs.OptionalLaws.{not_both, only_one}
use Rattle.rewriting.specs.AtomSimplifier.{Site, first_site, first_rewrite}
use Rattle.rewriting.specs.Measures.{D, occurrences}
use Rattle.rewriting.specs.Chain.{Listed, last_of, trees_from, trees_of}
use Rattle.rewriting.specs.SiteLaws.{after, first_is, first_site_lem}
use Rattle.rewriting.specs.MeasureLaws.{first_lowers, D_small}
use Rattle.rewriting.specs.KeptLaws.{first_keeps, first_variables, first_uniform, first_operands, first_lent, valid_kept}
use Rattle.rewriting.specs.EndLaws.{Ends, ends_exist}
use Rattle.rewriting.specs.NodesLaws.{ends_nodes}

infix 4 ◌IsAmong◌
-- the element is one of the list
pub data ◌IsAmong◌ {A : Type 0} : A → List A → Type 0 where
  first : {a : A} {xs : List A} → a IsAmong (a ∷ xs)
  later : {a b : A} {xs : List A} → a IsAmong xs → a IsAmong (b ∷ xs)

module _ (w : ℕ) where
  -- ---- the list, its end and its count

  -- the end of a list is the same whatever tree would stand for an empty one
  last_of_lem : {t : Expr} {trees : List Expr} → Listed w t trees → (s : Expr) → last_of s trees ≡ last_of t trees
  unfolding last_of
  last_of_lem (Listed.done e) s = refl
  last_of_lem (Listed.more e r) s = refl

  not_empty : {t : Expr} {trees : List Expr} → Listed w t trees → 1 ≤ length trees
  not_empty (Listed.done e) = omega arith
  not_empty (Listed.more e r) = omega arith

  -- the list whose end and count these are
  pub record EndsIn (t u : Expr) (k : ℕ) : Type 0 where
    pub trees : List Expr
    pub listed : Listed w t trees
    pub is_last : u ≡ last_of t trees
    pub count_is : k + 1 ≡ length trees

  pub ends_listed : {t u : Expr} {k : ℕ} → Ends w t u k → EndsIn t u k
  unfolding last_of
  ends_listed (Ends.done {t} e) = record { trees = t ∷ []; listed = Listed.done e; is_last = refl; count_is = refl }
  ends_listed (Ends.more {t} {s} e r) =
      let i = ends_listed r in
      record { trees = t ∷ i.trees; listed = Listed.more e i.listed; is_last = i.is_last ∙ sym (last_of_lem i.listed t); count_is = omega arith }

  pub listed_ends : (t : Expr) (trees : List Expr) → Listed w t trees → Ends w t (last_of t trees) (length trees - 1)
  unfolding last_of
  listed_ends t trees (Listed.done e) = Ends.done e
  listed_ends t trees (Listed.more {u = u} {trees = rest} e r) =
      subst (λ (v : Expr). Ends w t v (suc (length rest) - 1)) (sym (last_of_lem r t))
      (subst (Ends w t (last_of u rest)) (omega (arith, not_empty r)) (Ends.more e (listed_ends u rest r)))

  pub listed_exists : (t : Expr) → (trees : List Expr) × Listed w t trees
  listed_exists t = let i = ends_listed (ends_exist w t).2 in (i.trees, i.listed)

  pub listed_unique : (t : Expr) (a b : List Expr) → Listed w t a → Listed w t b → a ≡ b
  listed_unique t a b (Listed.done e) (Listed.done f) = refl
  listed_unique t a b (Listed.done e) (Listed.more f s) = not_both (first_rewrite w t) e f
  listed_unique t a b (Listed.more e r) (Listed.done f) = not_both (first_rewrite w t) f e
  listed_unique t a b (Listed.more {u = u} {trees = xs} e r) (Listed.more {trees = ys} f s) =
      ap (λ (l : List Expr). t ∷ l) (listed_unique u xs ys r (subst (λ (x : Expr). Listed w x ys) (only_one (first_rewrite w t) f e) s))

  -- ---- the number of rewrites

  falls : {t u : Expr} {k : ℕ} → Ends w t u k → k + (nodes u + 2 * D u) ≤ nodes t + 2 * D t
  falls (Ends.done e) = omega arith
  falls (Ends.more {t} {s} e r) = omega (arith, falls r, (first_lowers w t s e).falls)

  pub ends_count : {t u : Expr} {k : ℕ} → Ends w t u k → k ≤ nodes t - 1 + 2 * D t
  ends_count {t} {u} s = omega (arith, falls s, nodes_pos u)

  -- the rewrites, one fewer than the trees of the list
  pub listed_count : {t : Expr} {trees : List Expr} → Listed w t trees → length trees - 1 ≤ nodes t - 1 + 2 * D t
  listed_count {t} {trees} l = ends_count (listed_ends t trees l)

  pub count_small : {t u : Expr} {k : ℕ} → Ends w t u k → nodes t ≤ 1024 → k ≤ 4194304
  count_small {t} s h = omega (arith, ends_count s, D_small t h)

  -- a tree without a rewrite has no site
  pub no_first_site : (t : Expr) → first_rewrite w t ≡ none → first_site w t ≡ none
  no_first_site t e = go (first_site w t) refl
    where
      go : (o : Option Site) → first_site w t ≡ o → o ≡ none
      go none f = refl
      go (some s) f = not_both (first_rewrite w t) e (first_is w t ∙ ap (λ o. o and_then after t) f ∙ (first_site_lem w t s f).is_whole)

  -- ---- the list as a function

  trees_are : (k : ℕ) {t : Expr} {trees : List Expr} → Listed w t trees → length trees ≤ suc k → trees ≡ trees_from k w t
  unfolding trees_from
  trees_are zero (Listed.done e) h = refl
  trees_are zero (Listed.more e r) h = absurd (omega (arith, not_empty r))
  trees_are (suc k) (Listed.done {t} e) h = ap (λ o. t ∷ (map (trees_from k w) o otherwise [])) (sym e)
  trees_are (suc k) (Listed.more {t} e r) h =
      ap (λ (l : List Expr). t ∷ l) (trees_are k r (omega arith)) ∙ ap (λ o. t ∷ (map (trees_from k w) o otherwise [])) (sym e)

  -- the list from t on is `trees_of`
  pub listed_is : {t : Expr} {trees : List Expr} → Listed w t trees → trees ≡ trees_of w t
  unfolding trees_of
  listed_is {t} l = trees_are (nodes t + 2 * D t) l (omega (arith, listed_count l))

  pub trees_listed : (t : Expr) → Listed w t (trees_of w t)
  trees_listed t = let (trees, l) = listed_exists t in subst (Listed w t) (listed_is l) l

  -- ---- each tree of the list

  -- R of a tree and itself, and of a tree and what it leads to by one rewrite more
  record Lasts (R : Expr → Expr → Type 0) : Type 0 where
    start : (t : Expr) → R t t
    on : (t s u : Expr) → first_rewrite w t ≡ some s → R s u → R t u

  module _ {R : Expr → Expr → Type 0} (p : Lasts R) where
    at_each : {t u : Expr} {trees : List Expr} → Listed w t trees → u IsAmong trees → R t u
    at_each (Listed.done {t} e) first = p.start t
    at_each (Listed.done e) (later m) = elim m [ ]
    at_each (Listed.more {t} e r) first = p.start t
    at_each {u = u} (Listed.more {t} {u = s} e r) (later m) = p.on t s u e (at_each r m)

    at_end : {t u : Expr} {k : ℕ} → Ends w t u k → R t u
    at_end (Ends.done {t} e) = p.start t
    at_end {u = u} (Ends.more {t} {s} e r) = p.on t s u e (at_end r)

  room_lasts : Lasts (λ (t u : Expr). nodes u + D u ≤ nodes t + D t)
  room_lasts = record { start = λ t. omega arith; on = λ t s u e h. le_trans h (first_lowers w t s e).room }

  depth_lasts : Lasts (λ (t u : Expr). depth u ≤ depth t)
  depth_lasts = record { start = λ t. le_refl (depth t); on = λ t s u e h. le_trans h (first_lowers w t s e).no_deeper }

  value_lasts : (σ : List ℕ) → Lasts (λ (t u : Expr). value w σ u ≡ value w σ t)
  value_lasts σ = record { start = λ t. refl; on = λ t s u e h. h ∙ first_keeps w σ t s e }

  variables_last : Lasts (λ (t u : Expr). (i : ℕ) → occurrences i u ≤ occurrences i t)
  variables_last = record { start = λ t i. le_refl (occurrences i t); on = λ t s u e h i. le_trans (h i) (first_variables w t s e i) }

  -- what a rewrite keeps
  kept_lasts : (f : Expr → Bool) → ((t s : Expr) → first_rewrite w t ≡ some s → f t ≡ true → f s ≡ true) → Lasts (λ (t u : Expr). f t ≡ true → f u ≡ true)
  kept_lasts f keeps = record { start = λ t h. h; on = λ t s u e g h. g (keeps t s e h) }

  uniform_lasts : (widths : List ℕ) (v : ℕ) → Lasts (λ (t u : Expr). is_uniform_width widths v t ≡ true → is_uniform_width widths v u ≡ true)
  uniform_lasts widths v = kept_lasts (is_uniform_width widths v) (λ t s e. first_uniform w t s e widths v)

  operands_last : Lasts (λ (t u : Expr). operands_ok t ≡ true → operands_ok u ≡ true)
  operands_last = kept_lasts operands_ok (λ t s e. first_operands w t s e)

  lent_lasts : (σ : List ℕ) → Lasts (λ (t u : Expr). is_lent σ t ≡ true → is_lent σ u ≡ true)
  lent_lasts σ = kept_lasts (is_lent σ) (λ t s e. first_lent w t s e σ)

  module _ {t s : Expr} {trees : List Expr} where
    pub listed_room : Listed w t trees → s IsAmong trees → nodes s ≤ nodes t + D t
    listed_room l m = omega (arith, at_each room_lasts l m)

    pub listed_depth : Listed w t trees → s IsAmong trees → depth s ≤ depth t
    listed_depth = at_each depth_lasts

    pub listed_value : (σ : List ℕ) → Listed w t trees → s IsAmong trees → value w σ s ≡ value w σ t
    listed_value σ = at_each (value_lasts σ)

    pub listed_uniform : (widths : List ℕ) (v : ℕ) → Listed w t trees → s IsAmong trees → is_uniform_width widths v t ≡ true → is_uniform_width widths v s ≡ true
    listed_uniform widths v = at_each (uniform_lasts widths v)

    pub listed_operands : Listed w t trees → s IsAmong trees → operands_ok t ≡ true → operands_ok s ≡ true
    listed_operands = at_each operands_last

    pub listed_lent : (σ : List ℕ) → Listed w t trees → s IsAmong trees → is_lent σ t ≡ true → is_lent σ s ≡ true
    listed_lent σ = at_each (lent_lasts σ)

    pub listed_variables : Listed w t trees → s IsAmong trees → (i : ℕ) → occurrences i s ≤ occurrences i t
    listed_variables = at_each variables_last

  -- ---- the end tree

  pub last_nodes : {t : Expr} {trees : List Expr} → Listed w t trees → nodes (last_of t trees) ≤ nodes t
  last_nodes {t} {trees} l = ends_nodes w (listed_ends t trees l)

  module _ {t u : Expr} {k : ℕ} where
    pub ends_depth : Ends w t u k → depth u ≤ depth t
    ends_depth = at_end depth_lasts

    pub ends_value : (σ : List ℕ) → Ends w t u k → value w σ u ≡ value w σ t
    ends_value σ = at_end (value_lasts σ)

    pub ends_uniform : (widths : List ℕ) (v : ℕ) → Ends w t u k → is_uniform_width widths v t ≡ true → is_uniform_width widths v u ≡ true
    ends_uniform widths v = at_end (uniform_lasts widths v)

    pub ends_operands : Ends w t u k → operands_ok t ≡ true → operands_ok u ≡ true
    ends_operands = at_end operands_last

    pub ends_lent : (σ : List ℕ) → Ends w t u k → is_lent σ t ≡ true → is_lent σ u ≡ true
    ends_lent σ = at_end (lent_lasts σ)

    pub ends_variables : Ends w t u k → (i : ℕ) → occurrences i u ≤ occurrences i t
    ends_variables = at_end variables_last

    pub ends_valid : Ends w t u k → Valid t → Valid u
    ends_valid s h = valid_kept (ends_depth s) (ends_operands s) h (le_trans (ends_nodes w s) h.count)
