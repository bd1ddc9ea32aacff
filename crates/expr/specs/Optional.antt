-- Something or nothing: what the definitions need of the Rust's `Option`. Definitions only.
use Rattle.std.specs.Prelude.{Bool, true, false, ℕ, eqb}
use Rattle.std.specs.Prelude.{Some, None}
use Rattle.std.specs.Prelude as answered
use Rattle.std.proofs.Math.Option.{Option, none, some}

infixr 2 ◌otherwise◌
infixr 3 ◌or_else◌
infixl 4 ◌and_then◌
infix 5 ◌equals_some◌
module _ {A : Type 0} where
  -- a where the test holds
  abbrev pub only_if : Bool → A → Option A
  only_if true a = some a
  only_if false a = none

  -- the first of the two that is there
  abbrev pub ◌or_else◌ : Option A → Option A → Option A
  ◌or_else◌ none b = b
  ◌or_else◌ (some a) b = some a

  -- what is there, else b
  abbrev pub ◌otherwise◌ : Option A → A → A
  ◌otherwise◌ none b = b
  ◌otherwise◌ (some a) b = a

module _ {A B : Type 0} where
  -- f of what is there
  abbrev pub map : (A → B) → Option A → Option B
  map f none = none
  map f (some a) = some (f a)

  -- what f makes of what is there
  abbrev pub ◌and_then◌ : Option A → (A → Option B) → Option B
  ◌and_then◌ none f = none
  ◌and_then◌ (some a) f = f a

-- the Rust's `== Some(c)`
abbrev pub ◌equals_some◌ : Option ℕ → ℕ → Bool
◌equals_some◌ none c = false
◌equals_some◌ (some d) c = eqb d c

-- the same of a call's answer
abbrev pub option_of : {A : Type 0} → answered.Option A → Option A
option_of None = none
option_of (Some a) = some a
