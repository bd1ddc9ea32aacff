-- The tests of a state and of the lent places, and bounds of what is printed of a line and of the sums with it. Assumes nothing.
use Rattle.std.specs.Prelude.{◌≡◌, refl, true, ◌&&◌, List, [], ◌∷◌, ℕ, ◌+◌, ◌*◌, ◌≤◌, ◌<◌, leb, ltb, eqb, length}
use Rattle.std.proofs.Common.{ap, append-nil, arith, length-append, leb-true, ltb-true, eqb-true, le-leb, lt-ltb}
use Rattle.arith.specs.ChoiceLaws.{both_true}
use Rattle.expr.specs.declared.refusal.Reason.{Reason}
use Rattle.expr.specs.Outcome.{Outcome, refused, accepted, mapped, ◌and_then◌}
use Rattle.expr.specs.Expr.{Expr, nodes}
use Rattle.expr.specs.ParseLaws.{parse_sound}
use Rattle.width.specs.CheckedLaws.{roomy}
use Rattle.value.specs.Value.{one_width_of}
use Rattle.value.specs.ValueLaws.{one_width_sound}
use Rattle.rewriting.specs.Measures.{D}
use Rattle.rewriting.specs.Chain.{last_of, trees_of}
use Rattle.rewriting.specs.ChainLaws.{trees_listed, last_nodes}
use Rattle.atom_simplifier.specs.Calls.{chain_admitted}
use Rattle.hexadecimal.specs.Hex.{hex_text, places}
use Rattle.hexadecimal.specs.HexLaws.{length_digits, places_range}
use Rattle.frame.specs.Frame.{frame, line_words}
use Rattle.frame.specs.FrameLaws.{length_frame}
use Rattle.report_lines.specs.declared.Totals.{Totals}
use Rattle.report_lines.specs.declared.State.{State}
use Rattle.report_lines.specs.Report.{Done, done, chained, outcome_of, fields, row_of, text_of, refused_lines, nodes_before, nodes_after, plus, totals_of}
use Rattle.report_lines.specs.Steps.{is_open, sound_totals, sound_room, ready}

-- what the test of a state and of the lent places says
pub record IsReady (s : State) (line words work out : ℕ) : Type 0 where
  pub sound : sound_totals s.totals ≡ true
  pub have_most : s.have ≤ line
  pub room : sound_room line words work out ≡ true

pub ready_open : (s : State) (line words work out : ℕ) → ready s line words work out ≡ true → IsReady s line words work out
unfolding ready
ready_open s line words work out e =
    let p = both_true (sound_totals s.totals) (leb s.have line && sound_room line words work out) e in
    let q = both_true (leb s.have line) (sound_room line words work out) p.1 in
    record { sound = p.0; have_most = leb-true s.have line q.0; room = q.1 }

-- what the test of the sums says
pub record SoundSums (t : Totals) : Type 0 where
  pub some_lines : t.lines ≤ 65535
  pub some_refused : t.refused ≤ t.lines
  pub some_before : t.before ≤ 512 * t.lines
  pub some_after : t.after ≤ 512 * t.lines

pub sound_open : (t : Totals) → sound_totals t ≡ true → SoundSums t
unfolding sound_totals
sound_open t s =
    let m = 512 * t.lines in
    let p = both_true (leb t.lines 65535) (leb t.refused t.lines && (leb t.before m && leb t.after m)) s in
    let q = both_true (leb t.refused t.lines) (leb t.before m && leb t.after m) p.1 in
    let r = both_true (leb t.before m) (leb t.after m) q.1 in
    record {
      some_lines = leb-true t.lines 65535 p.0;
      some_refused = leb-true t.refused t.lines q.0;
      some_before = leb-true t.before m r.0;
      some_after = leb-true t.after m r.1;
    }

pub sound_shut : (t : Totals) → SoundSums t → sound_totals t ≡ true
unfolding sound_totals
sound_shut t s =
    let m = 512 * t.lines in
    simp (le-leb t.lines 65535 s.some_lines, le-leb t.refused t.lines s.some_refused, le-leb t.before m s.some_before, le-leb t.after m s.some_after)

-- what the test of the lent places says
pub record SoundPlaces (line words work out : ℕ) : Type 0 where
  pub line_is : line ≡ 9219
  pub some_words : 1024 ≤ words
  pub some_work : 4096 ≤ work
  pub some_out : 9400 ≤ out

pub places_open : (line words work out : ℕ) → sound_room line words work out ≡ true → SoundPlaces line words work out
unfolding sound_room
places_open line words work out s =
    let p = both_true (eqb line 9219) (leb 1024 words && (leb 4096 work && leb 9400 out)) s in
    let q = both_true (leb 1024 words) (leb 4096 work && leb 9400 out) p.1 in
    let r = both_true (leb 4096 work) (leb 9400 out) q.1 in
    record {
      line_is = eqb-true line 9219 p.0;
      some_words = leb-true 1024 words q.0;
      some_work = leb-true 4096 work r.0;
      some_out = leb-true 9400 out r.1;
    }

pub places_shut : (line words work out : ℕ) → SoundPlaces line words work out → sound_room line words work out ≡ true
unfolding sound_room
places_shut line words work out s = rw s.line_is (simp (le-leb 1024 words s.some_words, le-leb 4096 work s.some_work, le-leb 9400 out s.some_out))

-- what the test of the printer says
pub open_lines : (lines room : ℕ) → is_open lines room ≡ true → lines < 65535
unfolding is_open
open_lines lines room e = ltb-true lines 65535 (both_true (ltb lines 65535) (leb 9400 room) e).0

pub open_room : (lines room : ℕ) → is_open lines room ≡ true → 9400 ≤ room
unfolding is_open
open_room lines room e = leb-true 9400 room (both_true (ltb lines 65535) (leb 9400 room) e).1

pub open_shut : (lines room : ℕ) → lines < 65535 → 9400 ≤ room → is_open lines room ≡ true
unfolding is_open
open_shut lines room h k = simp (lt-ltb lines 65535 h, le-leb 9400 room k)

-- ---- a line

pub hex_length : (n : ℕ) → length (hex_text n) ≡ places n
unfolding hex_text
hex_length n = length_digits (places n) n

-- so many numbers take at most 17 bytes each
pub fields_most : (ns : List ℕ) → length (fields ns) ≤ 17 * length ns
unfolding fields
fields_most [] = omega arith
fields_most (n ∷ []) = omega (arith, length-append (hex_text n) (10 ∷ []), hex_length n, (places_range 15 n).1)
fields_most (n ∷ m ∷ ns) =
    omega (arith, length-append (hex_text n) (32 ∷ fields (m ∷ ns)), hex_length n, (places_range 15 n).1, fields_most (m ∷ ns))

pub admitted_tree : (ws : List ℕ) (w : ℕ) (widths : List ℕ) (a : ℕ) (t : Expr) → chain_admitted ws w widths a ≡ accepted t → one_width_of ws w widths ≡ accepted t
unfolding chain_admitted
admitted_tree ws w widths a t e = (roomy (λ u. 2 * (nodes u + D u)) a (one_width_of ws w widths) e).0

pub record Small (o : Outcome Done) : Type 0 where
  pub few_refused : refused_lines o ≤ 1
  pub few_before : nodes_before o ≤ 512
  pub few_after : nodes_after o ≤ 512
  pub text_most : (i : ℕ) → length (text_of i o) ≤ 9321

small_refused : (r : Reason) → Small (refused r)
unfolding text_of
small_refused r = record {
  few_refused = omega arith;
  few_before = omega arith;
  few_after = omega arith;
  text_most = λ i. omega (arith, ap length (append-nil (fields (row_of i (refused r)))), fields_most (row_of i (refused r)));
}

small_done : (w : ℕ) (t : Expr) → nodes t ≤ 512 → Small (accepted (done w t))
unfolding text_of
small_done w t h =
    let m : nodes (last_of t (trees_of w t)) ≤ nodes t = last_nodes w (trees_listed w t) in
    record {
      few_refused = omega arith;
      few_before = h;
      few_after = omega arith;
      text_most = λ i.
          omega (arith, length-append (fields (row_of i (accepted (done w t)))) (frame w (last_of t (trees_of w t))), fields_most (row_of i (accepted (done w t))), length_frame w (last_of t (trees_of w t)));
    }

small_chained : (w : ℕ) (ws : List ℕ) → Small (chained (w, ws))
small_chained w ws = go (chain_admitted ws w [] 4096) refl
  where
    go : (o : Outcome Expr) → chain_admitted ws w [] 4096 ≡ o → Small (mapped (done w) o)
    go (refused r) e = small_refused r
    go (accepted t) e = small_done w t (parse_sound ws t (one_width_sound ws w [] t (admitted_tree ws w [] 4096 t e)).parsed).valid.count

pub small : (l : List ℕ) → Small (outcome_of l)
unfolding outcome_of
small l = go (line_words l)
  where
    go : (o : Outcome (ℕ × List ℕ)) → Small (o and_then chained)
    go (refused r) = small_refused r
    go (accepted (w, ws)) = small_chained w ws

pub sound_next : (t : Totals) (l : List ℕ) → sound_totals t ≡ true → t.lines < 65535 → sound_totals (plus t (totals_of (outcome_of l))) ≡ true
sound_next t l s h =
    let o = sound_open t s in
    let b = small l in
    sound_shut (plus t (totals_of (outcome_of l))) (record {
      some_lines = omega arith;
      some_refused = omega (arith, o.some_refused, b.few_refused);
      some_before = omega (arith, o.some_before, b.few_before);
      some_after = omega (arith, o.some_after, b.few_after);
    })
