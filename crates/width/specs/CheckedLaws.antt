-- What follows a check at a width, and one of the room. Assumes nothing.
use Rattle.std.specs.Prelude.{◌≡◌, Bool, true, false, if◌then◌else◌, List, ℕ, ◌≤◌, ◌<◌, ltb}
use Rattle.std.proofs.Common.{sym, ◌∙◌, arith, lt-ltb, le-ltb, ltb-false}
use Rattle.std.proofs.Math.Path.{ap, subst}
use Rattle.expr.specs.declared.refusal.Reason.{Reason}
use Rattle.expr.specs.Refusals.{refusal}
use Rattle.expr.specs.Outcome.{Outcome, refused, accepted, mapped, ◌and_then◌}
use Rattle.expr.specs.OutcomeLaws.{no_answer, same_answer, if_came, else_came, then_accepted, mapped_made, then_came}
use Rattle.expr.specs.Expr.{Expr, encode, nodes, depth}
use Rattle.expr.specs.Parse.{parse}
use Rattle.expr.specs.ParseLaws.{parse_sound}
use Rattle.expr.specs.Front.{Exactly}
use Rattle.width.specs.Width.{supported}
use Rattle.width.specs.WidthLaws.{supported_is}
use Rattle.width.specs.Checked.{checked, width_of_call}
use Rattle.expr.specs.Room.{room_for}

-- words that pass are accepted, and the width is supported
pub checked_is : (w : ℕ) (ws : List ℕ) (t : Expr) → checked w ws ≡ accepted t → (supported w ≡ true) × (parse ws ≡ accepted t)
unfolding checked
checked_is w ws t = if_came (parse ws) (refusal 1) (supported w)

-- ---- the width, and then the words

module _ (w : ℕ) where
  module _ (b : ℕ) (e : accepted b ≡ width_of_call w) where
    pub given_width : b ≡ w
    unfolding width_of_call
    given_width = sym (same_answer (if_came (accepted w) (refusal 1) (supported w) (sym e)).1)

    supports : supported w ≡ true
    unfolding width_of_call
    supports = (if_came (accepted w) (refusal 1) (supported w) (sym e)).0

    pub checked_parse : (ws : List ℕ) → parse ws ≡ checked w ws
    unfolding checked
    checked_parse ws = sym (rw supports)

  pub width_refused : (r : Reason) → refused r ≡ width_of_call w → (ws : List ℕ) → refused r ≡ checked w ws
  unfolding width_of_call checked
  width_refused r e ws = go (supported w) e
    where
      go : (b : Bool) → refused r ≡ (if b then accepted w else refused (refusal 1)) → refused r ≡ (if b then parse ws else refused (refusal 1))
      go true f = absurd (no_answer f)
      go false f = ap refused (cc)

-- a tree that was checked, and how many nodes it has
pub record Tree (w : ℕ) (ws : List ℕ) (n : ℕ) : Type 0 where
  pub tree : Expr
  pub is : checked w ws ≡ accepted tree
  pub words : ws ≡ encode tree
  pub count : nodes tree ≡ n
  pub few : n ≤ 512

pub checked_tree : (w : ℕ) (ws : List ℕ) (n : ℕ) → accepted n ≡ mapped nodes (checked w ws) → Tree w ws n
checked_tree w ws n e =
    let m = mapped_made nodes (checked w ws) e in
    let a = parse_sound ws m.answer (checked_is w ws m.answer m.was).1 in
    record { tree = m.answer; is = m.was; words = a.words; count = m.made; few = omega (arith, m.made, a.valid.count) }

-- ---- room

module _ (need : Expr → ℕ) (room : ℕ) where
  pub too_little : {o : Outcome Expr} {t : Expr} → o ≡ accepted t → room < need t → (o and_then room_for need room) ≡ refused (refusal 9)
  unfolding room_for
  too_little {t = t} e h = then_accepted e (room_for need room) ∙ rw (lt-ltb room (need t) h)

  pub enough : {o : Outcome Expr} {t : Expr} → o ≡ accepted t → need t ≤ room → (o and_then room_for need room) ≡ accepted t
  unfolding room_for
  enough {t = t} e h = then_accepted e (room_for need room) ∙ rw (le-ltb room (need t) h)

  -- a tree that has room was there, and needs no more
  pub roomy : (o : Outcome Expr) {t : Expr} → (o and_then room_for need room) ≡ accepted t → (o ≡ accepted t) × (need t ≤ room)
  unfolding room_for
  roomy o {t} e =
      let m = then_came (room_for need room) o e in
      let k = else_came (accepted m.answer) (refusal 9) (ltb room (need m.answer)) m.made in
      let i : m.answer ≡ t = same_answer k.1 in
      (m.was ∙ ap accepted i, subst (λ (u : Expr). need u ≤ room) i (ltb-false room (need m.answer) k.0))

-- a tree that was checked and has room
pub record Admitted (need : Expr → ℕ) (ws : List ℕ) (w room : ℕ) (t : Expr) : Type 0 where
  pub exact : Exactly ws t
  pub few : nodes t ≤ 512
  pub levels : depth t ≤ 64
  pub at_most : w ≤ 64
  pub holds : need t ≤ room

pub admitted_sound : (need : Expr → ℕ) (ws : List ℕ) (w room : ℕ) (t : Expr) → (checked w ws and_then room_for need room) ≡ accepted t → Admitted need ws w room t
admitted_sound need ws w room t e =
    let k = roomy need room (checked w ws) e in
    let c = checked_is w ws t k.0 in
    let a = parse_sound ws t c.1 in
    record {
      exact = record { words = a.words; operands = a.valid.operands };
      few = a.valid.count;
      levels = a.valid.levels;
      at_most = (supported_is w c.0).1;
      holds = k.1;
    }
