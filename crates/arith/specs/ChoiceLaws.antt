-- A choice whose test is known, and a test of two parts. Assumes nothing.
use Rattle.std.specs.Prelude.{◌≡◌, ℕ, Bool, true, false, not, ◌&&◌, T, refl, if◌then◌else◌}
use Rattle.std.proofs.Common.{arith}

module _ {A : Type 0} where
  pub if_yes : (b : Bool) (x y : A) → T b → (if b then x else y) ≡ x
  if_yes true x y h = refl
  if_yes false x y h = absurd h

  pub if_no : (b : Bool) (x y : A) → T (not b) → (if b then x else y) ≡ y
  if_no true x y h = absurd h
  if_no false x y h = refl

pub both_true : (a b : Bool) → (a && b) ≡ true → (a ≡ true) × (b ≡ true)
both_true true b e = (refl, e)
both_true false b e = absurd (let z : ◌≡◌ {A = ℕ} 0 1 = cc in omega arith)
