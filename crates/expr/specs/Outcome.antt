-- What a call comes to. Definitions only.
use Rattle.expr.specs.declared.refusal.Reason.{Reason}

-- turned down for a reason, or accepted with an answer
pub data Outcome (A : Type 0) : Type 0 where
  refused : Reason → Outcome A
  accepted : A → Outcome A

infixl 4 ◌and_then◌
module _ {A B : Type 0} where
  -- f of the answer; a refusal stays
  abbrev pub mapped : (A → B) → Outcome A → Outcome B
  mapped f (refused r) = refused r
  mapped f (accepted a) = accepted (f a)

  -- what f makes of the answer; a refusal stays
  abbrev pub ◌and_then◌ : Outcome A → (A → Outcome B) → Outcome B
  ◌and_then◌ (refused r) f = refused r
  ◌and_then◌ (accepted a) f = f a
