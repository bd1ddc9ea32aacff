-- The laws of outcomes. Assumes nothing.
use Rattle.std.specs.Prelude.{◌≡◌, refl, Bool, true, false, ℕ, if◌then◌else◌}
use Rattle.std.proofs.Common.{sym, ap, arith}
use Rattle.expr.specs.declared.refusal.Reason.{Reason}
use Rattle.expr.specs.Outcome.{Outcome, refused, accepted, mapped, ◌and_then◌}

module _ {A : Type 0} where
  -- a refusal is no answer
  pub no_answer : {r : Reason} {a : A} → ◌≡◌ {A = Outcome A} (refused r) (accepted a) → ⊥
  no_answer e = let z : ◌≡◌ {A = ℕ} 0 1 = cc in omega arith

  pub same_answer : {a b : A} → accepted a ≡ accepted b → a ≡ b
  same_answer e = cc

  -- an answer that one arm of a choice gives, where the other refuses
  module _ (x : Outcome A) {a : A} (r : Reason) where
    pub if_came : (b : Bool) → (if b then x else refused r) ≡ accepted a → (b ≡ true) × (x ≡ accepted a)
    if_came true e = (refl, e)
    if_came false e = absurd (no_answer e)

    pub else_came : (b : Bool) → (if b then refused r else x) ≡ accepted a → (b ≡ false) × (x ≡ accepted a)
    else_came true e = absurd (no_answer e)
    else_came false e = (refl, e)

module _ {A B : Type 0} where
  pub then_accepted : {o : Outcome A} {a : A} → o ≡ accepted a → (f : A → Outcome B) → (o and_then f) ≡ f a
  then_accepted e f = ap (λ (p : Outcome A). p and_then f) e

  pub then_refused : {o : Outcome A} {r : Reason} → o ≡ refused r → (f : A → Outcome B) → (o and_then f) ≡ refused r
  then_refused e f = ap (λ (p : Outcome A). p and_then f) e

  pub mapped_accepted : {o : Outcome A} {a : A} → o ≡ accepted a → (f : A → B) → mapped f o ≡ accepted (f a)
  mapped_accepted e f = ap (mapped f) e

  -- an answer that f made
  pub record Made (f : A → B) (o : Outcome A) (b : B) : Type 0 where
    pub answer : A
    pub was : o ≡ accepted answer
    pub made : f answer ≡ b

  pub mapped_made : (f : A → B) (o : Outcome A) {b : B} → accepted b ≡ mapped f o → Made f o b
  mapped_made f (refused r) e = absurd (no_answer (sym e))
  mapped_made f (accepted a) e = record { answer = a; was = refl; made = cc }

  -- an answer of which f makes the accepted one
  pub record Came (f : A → Outcome B) (o : Outcome A) (b : B) : Type 0 where
    pub answer : A
    pub was : o ≡ accepted answer
    pub made : f answer ≡ accepted b

  pub then_came : (f : A → Outcome B) (o : Outcome A) {b : B} → (o and_then f) ≡ accepted b → Came f o b
  then_came f (refused r) e = absurd (no_answer e)
  then_came f (accepted a) e = record { answer = a; was = refl; made = e }

module _ {A B C : Type 0} where
  -- a refusal does not depend on what is made of the answer
  pub refused_mapped : (f : A → B) (g : A → C) (o : Outcome A) {r : Reason} → refused r ≡ mapped f o → refused r ≡ mapped g o
  refused_mapped f g (refused s) e = ap refused (cc)
  refused_mapped f g (accepted a) e = absurd (no_answer e)

  pub refused_then : (f : A → B) (g : A → Outcome C) (o : Outcome A) {r : Reason} → refused r ≡ mapped f o → refused r ≡ (o and_then g)
  refused_then f g (refused s) e = ap refused (cc)
  refused_then f g (accepted a) e = absurd (no_answer e)

  pub mapped_mapped : (f : B → C) (g : A → B) (h : A → C) → ((a : A) → f (g a) ≡ h a) → (o : Outcome A) → mapped f (mapped g o) ≡ mapped h o
  mapped_mapped f g h e (refused r) = refl
  mapped_mapped f g h e (accepted a) = ap accepted (e a)

pub mapped_same : {A : Type 0} (f : A → A) → ((a : A) → f a ≡ a) → (o : Outcome A) → mapped f o ≡ o
mapped_same f e (refused r) = refl
mapped_same f e (accepted a) = ap accepted (e a)
