-- Lent places after something is written at their front, and after a call. Definitions only.
use Rattle.std.specs.Prelude.{List, ◌++◌, ℕ, length, drop}
use Rattle.expr.specs.Outcome.{Outcome, refused, accepted}

-- lent places with xs at their front, and as they were behind it
abbrev pub over : List ℕ → List ℕ → List ℕ
over xs lent = xs ++ drop (length xs) lent

-- lent places after a call: f of the answer at their front, and unchanged after a refusal
abbrev pub lent_after : {A : Type 0} → (A → List ℕ) → Outcome A → List ℕ → List ℕ
lent_after f (refused r) lent = lent
lent_after f (accepted a) lent = over (f a) lent
