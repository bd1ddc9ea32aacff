-- What holds of every arm of a choice holds of the choice: by these laws a theorem goes through a definition arm by arm. Assumes nothing.
use Rattle.std.specs.Prelude.{◌≡◌, refl, Bool, true, false, not, T, if◌then◌else◌}
use Rattle.std.proofs.Common.{sym, ap, subst, ◌∙◌}
use Rattle.std.proofs.Math.Option.{Option, none, some}
use Rattle.expr.specs.Optional.{only_if, map, ◌and_then◌, ◌or_else◌, ◌otherwise◌}

-- P of what is there, if anything is
abbrev pub Every : {A : Type 0} → (A → Type 0) → Option A → Type 0
Every P none = Unit
Every P (some a) = P a

module _ {A : Type 0} (P : A → Type 0) where
  pub if_case : (b : Bool) {x y : A} → (T b → P x) → P y → P (if b then x else y)
  if_case true f g = f tt
  if_case false f g = g

  pub otherwise_case : (o : Option A) {b : A} → Every P o → P b → P (o otherwise b)
  otherwise_case none f g = g
  otherwise_case (some a) f g = f

  pub every_only_if : (b : Bool) {x : A} → (T b → P x) → Every P (only_if b x)
  every_only_if true f = f tt
  every_only_if false f = tt

  pub every_unless : (b : Bool) (o : Option A) → (T (not b) → Every P o) → Every P (if b then none else o)
  every_unless true o f = tt
  every_unless false o f = f tt

  pub every_or_else : (o b : Option A) → Every P o → Every P b → Every P (o or_else b)
  every_or_else none b f g = g
  every_or_else (some a) b f g = f

  pub every_at : (o : Option A) {a : A} → Every P o → o ≡ some a → P a
  every_at o h e = subst (Every P) e h

  pub every_on : (Q : A → Type 0) (o : Option A) → ((a : A) → P a → Q a) → Every P o → Every Q o
  every_on Q none f h = tt
  every_on Q (some a) f h = f a h

module _ {A : Type 0} (o : Option A) {a : A} where
  -- there is not both nothing and something
  pub not_both : {X : Type 0} → o ≡ none → o ≡ some a → X
  not_both {X} e f = every_at (λ (x : A). X) none tt (sym e ∙ f)

  -- nor two things
  pub only_one : {b : A} → o ≡ some a → o ≡ some b → a ≡ b
  only_one e f = cc

module _ {A B : Type 0} (o : Option A) (f : A → Option B) where
  pub then_none : o ≡ none → (o and_then f) ≡ none
  then_none e = ap (λ (q : Option A). q and_then f) e

  pub then_some : {a : A} → o ≡ some a → (o and_then f) ≡ f a
  then_some e = ap (λ (q : Option A). q and_then f) e

-- f answers nothing
pub then_never : {A B : Type 0} (o : Option A) (f : A → Option B) → ((a : A) → f a ≡ none) → (o and_then f) ≡ none
then_never none f h = refl
then_never (some a) f h = h a

pub else_none : {A : Type 0} (o b : Option A) → b ≡ none → (o or_else b) ≡ o
else_none none b e = e
else_none (some a) b e = refl

module _ {A B : Type 0} (f : A → B) where
  -- nothing is there
  pub map_none : (o : Option A) → map f o ≡ none → o ≡ none
  map_none none e = refl
  map_none (some a) e = every_at (λ (x : B). some a ≡ none) none tt (sym e)

  pub neither : (o : Option A) (b : Option B) → (map f o or_else b) ≡ none → (o ≡ none) × (b ≡ none)
  neither none b e = (refl, e)
  neither (some a) b e = every_at (λ (x : B). (some a ≡ none) × (b ≡ none)) none tt (sym e)

module _ {A B : Type 0} (P : B → Type 0) where
  pub every_map : (o : Option A) {f : A → B} → ((a : A) → o ≡ some a → P (f a)) → Every P (map f o)
  every_map none h = tt
  every_map (some a) h = h a refl

  pub every_and_then : (o : Option A) (f : A → Option B) → ((a : A) → o ≡ some a → Every P (f a)) → Every P (o and_then f)
  every_and_then none f h = tt
  every_and_then (some a) f h = h a refl

  -- the same, where Q is known of what is there
  pub every_map_on : (Q : A → Type 0) (o : Option A) {f : A → B} → Every Q o → ((a : A) → Q a → P (f a)) → Every P (map f o)
  every_map_on Q none q h = tt
  every_map_on Q (some a) q h = h a q

  pub every_and_then_on : (Q : A → Type 0) (o : Option A) (f : A → Option B) → Every Q o → ((a : A) → Q a → Every P (f a)) → Every P (o and_then f)
  every_and_then_on Q none f q h = tt
  every_and_then_on Q (some a) f q h = h a q

-- both are there and P holds of the two, or neither is there
abbrev pub Both : {A B : Type 0} → (A → B → Type 0) → Option A → Option B → Type 0
Both P none none = Unit
Both P none (some b) = ⊥
Both P (some a) none = ⊥
Both P (some a) (some b) = P a b

module _ {A B : Type 0} (P : A → B → Type 0) where
  pub both_or_else : (o o' : Option A) (p p' : Option B) → Both P o p → Both P o' p' → Both P (o or_else o') (p or_else p')
  both_or_else none o' none p' f g = g
  both_or_else none o' (some b) p' f g = absurd f
  both_or_else (some a) o' none p' f g = absurd f
  both_or_else (some a) o' (some b) p' f g = f

  pub both_on : {C D : Type 0} (Q : C → D → Type 0) (o : Option A) (p : Option B) {f : A → C} {g : B → D}
      → ((a : A) (b : B) → P a b → Q (f a) (g b)) → Both P o p → Both Q (map f o) (map g p)
  both_on Q none none h e = tt
  both_on Q none (some b) h e = absurd e
  both_on Q (some a) none h e = absurd e
  both_on Q (some a) (some b) h e = h a b e

  pub both_and_then : (o : Option A) (p : Option B) (f : A → Option B) → ((a : A) (b : B) → P a b → f a ≡ some b) → Both P o p → p ≡ (o and_then f)
  both_and_then none none f h e = refl
  both_and_then none (some b) f h e = absurd e
  both_and_then (some a) none f h e = absurd e
  both_and_then (some a) (some b) f h e = sym (h a b e)

  -- each of the two
  pub both_first : (Q : A → Type 0) (o : Option A) (p : Option B) → ((a : A) (b : B) → P a b → Q a) → Both P o p → Every Q o
  both_first Q none p h e = tt
  both_first Q (some a) none h e = absurd e
  both_first Q (some a) (some b) h e = h a b e

  pub both_second : (Q : B → Type 0) (o : Option A) (p : Option B) → ((a : A) (b : B) → P a b → Q b) → Both P o p → Every Q p
  both_second Q o none h e = tt
  both_second Q none (some b) h e = absurd e
  both_second Q (some a) (some b) h e = h a b e
