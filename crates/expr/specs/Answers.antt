-- What an answer of a call stands for: a refusal by its number and values, or the answer. Definitions only.
use Rattle.std.specs.Prelude.{ℕ, Result, Ok, Err}
use Rattle.expr.specs.Refusals.{reason_of}
use Rattle.expr.specs.Outcome.{Outcome, refused, accepted, mapped}
use Rattle.expr.specs.declared.refusal.Refusal.{Refusal}
use Rattle.expr.specs.declared.Arity.{Arity}
use Rattle.expr.specs.declared.Arity.TheVariants.{Zero, One, Two}

-- any answer
abbrev pub outcome : {A : Type 0} → Result A Refusal → Outcome A
outcome (Ok a) = accepted a
outcome (Err r) = refused (reason_of r)

-- a number of children
abbrev pub children_of : Arity → ℕ
children_of Zero = 0
children_of One = 1
children_of Two = 2

-- the same where it may be refused
abbrev pub arity_outcome : Result Arity Refusal → Outcome ℕ
arity_outcome r = mapped children_of (outcome r)
