-- What the walk finds of a node, from what it has found of the children. Assumes nothing.
use mathlib.Core.Path.{◌≡◌, refl, sym, ap, ap₂, ◌∙◌}
use mathlib.Core.List.{List}
use Prim.Native.Nat.{ℕ}
use Rattle.std.specs.Prelude.{Result, Ok, Err}
use Rattle.std.specs.Result.{result_and}
use Rattle.expr.specs.declared.refusal.Refusal.{Refusal}
use Rattle.expr.specs.declared.kind.Leaf.{Leaf}
use Rattle.expr.specs.declared.kind.Unary.{Unary}
use Rattle.expr.specs.declared.kind.Binary.{Binary}
use Rattle.expr.specs.Outcome.{Outcome, refused, accepted, mapped, ◌and_then◌}
use Rattle.expr.specs.Expr.{Expr, leaf, unary, binary}
use Rattle.expr.specs.Answers.{outcome}
use Rattle.width.specs.declared.widths.Widths.{Widths}
use Rattle.width.specs.Width.{ranged, valid, unary_width, binary_width, checked_width_of, unary_rule, binary_rule, validate_widths, or_zero, width_of}
use Rattle.width.specs.Promises.{WidthsOf, Summable, both_of}
use Rattle.width.specs.WidthLaws.{width_summable}
use Rattle.expr.specs.OutcomeLaws.{no_answer, same_answer}

-- the first refusal of two, or the second answer
and_outcome : {A B : Type 0} (a : Result A Refusal) (b : Result B Refusal) → outcome (result_and a b) ≡ (outcome a and_then (λ x. outcome b))
and_outcome (Ok x) b = refl
and_outcome (Err r) b = refl

then_assoc : {A B C : Type 0} (a : Outcome A) (b : Outcome B) (c : Outcome C) → ((a and_then (λ x. b)) and_then (λ y. c)) ≡ (a and_then (λ x. b and_then (λ y. c)))
then_assoc (refused r) b c = refl
then_assoc (accepted x) b c = refl

module _ (widths : List ℕ) (d : ℕ) (w : Result ℕ Refusal) where
  pub leaf_widths : (k : Leaf) (v : Result Unit Refusal) → outcome w ≡ checked_width_of widths d (leaf k) → v ≡ result_and w (Ok tt)
      → WidthsOf widths d (record { width = w; valid = v }) (leaf k)
  unfolding validate_widths
  leaf_widths k v e f = record {
    width_is = e;
    valid_is = ap outcome f ∙ and_outcome w (Ok tt) ∙ ap (λ (o : Outcome ℕ). o and_then (λ x. valid)) e;
  }

  -- v and all are the first refusals of the width, the children and the operand rule
  pub unary_widths : (child : Widths) (k : Unary) (rule v all : Result Unit Refusal)
      → outcome w ≡ (unary_width k (outcome child.width) and_then ranged) → outcome rule ≡ unary_rule k (outcome child.width)
      → v ≡ result_and w child.valid → all ≡ result_and v rule
      → (t : Expr) → WidthsOf widths d child t → WidthsOf widths d (record { width = w; valid = all }) (unary k t)
  unfolding checked_width_of validate_widths
  unary_widths child k rule v all e f g h t c =
      let own : outcome w ≡ checked_width_of widths d (unary k t) = e ∙ ap (λ (o : Outcome ℕ). unary_width k o and_then ranged) c.width_is in
      record {
        width_is = own;
        valid_is =
            ap outcome h ∙ and_outcome v rule
            ∙ ap (λ (x : Result Unit Refusal). outcome x and_then (λ z. outcome rule)) g
            ∙ ap (λ (o : Outcome Unit). o and_then (λ z. outcome rule)) (and_outcome w child.valid)
            ∙ then_assoc (outcome w) (outcome child.valid) (outcome rule)
            ∙ (λ j. own j and_then (λ x. c.valid_is j and_then (λ y. (f ∙ ap (unary_rule k) c.width_is) j)));
      }

  pub binary_widths : (left right : Widths) (k : Binary) (rule v both all : Result Unit Refusal)
      → (Summable left.width → Summable right.width → outcome w ≡ (binary_width k (outcome left.width) (outcome right.width) and_then ranged)) → outcome rule ≡ binary_rule k (outcome left.width) (outcome right.width)
      → v ≡ result_and w left.valid → both ≡ result_and v right.valid → all ≡ result_and both rule
      → (t u : Expr) → WidthsOf widths d left t → WidthsOf widths d right u → WidthsOf widths d (record { width = w; valid = all }) (binary k t u)
  unfolding checked_width_of validate_widths
  binary_widths left right k rule v both all e f g h i t u a b =
      let own : outcome w ≡ checked_width_of widths d (binary k t u) = e (width_summable widths d left t a) (width_summable widths d right u b) ∙ ap₂ (λ (x y : Outcome ℕ). binary_width k x y and_then ranged) a.width_is b.width_is in
      let after = outcome right.valid and_then (λ y. outcome rule) in
      record {
        width_is = own;
        valid_is =
            ap outcome i ∙ and_outcome both rule
            ∙ ap (λ (x : Result Unit Refusal). outcome x and_then (λ z. outcome rule)) h
            ∙ ap (λ (o : Outcome Unit). o and_then (λ z. outcome rule)) (and_outcome v right.valid)
            ∙ then_assoc (outcome v) (outcome right.valid) (outcome rule)
            ∙ ap (λ (x : Result Unit Refusal). outcome x and_then (λ z. after)) g
            ∙ ap (λ (o : Outcome Unit). o and_then (λ z. after)) (and_outcome w left.valid)
            ∙ then_assoc (outcome w) (outcome left.valid) after
            ∙ (λ j. own j and_then (λ x. a.valid_is j and_then (λ y. b.valid_is j and_then (λ z. (f ∙ ap₂ (binary_rule k) a.width_is b.width_is) j))));
      }

-- ---- the tree that the words are: 0 where there is no width

pub zero_read : (widths : List ℕ) (d : ℕ) (found : Widths) (o : Outcome Expr) → accepted (both_of found) ≡ mapped (λ t. (checked_width_of widths d t, validate_widths widths d t)) o
    → (n : ℕ) → n ≡ or_zero (outcome found.width) → accepted n ≡ mapped (width_of widths d) o
unfolding width_of
zero_read widths d found (refused r) e n f = absurd (no_answer (sym e))
zero_read widths d found (accepted t) e n f = ap accepted (f ∙ ap or_zero (ap (λ (p : Outcome ℕ × Outcome Unit). p.0) (same_answer e)))
