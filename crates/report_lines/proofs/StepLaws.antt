-- A step: what a turn reads of it. Assumes nothing.
use mathlib.Core.Path.{◌≡◌, refl, sym, ap, ap₂, ◌∙◌}
use mathlib.Core.Bool.{true, false}
use mathlib.Core.List.{List, [], ◌∷◌, ◌++◌, append_assoc, append-nil}
use Prim.Native.Nat.{ℕ, suc, ◌+◌, ◌-◌, ◌≤◌, ◌<◌}
use native.Mathlib.Omega.{arith}
use lib.Dec.{eqb}
use lib.ListN.{length, take, drop, length-append, length-take, length-drop}
use lib.Seq.{take_at, take_all, drop-length}
use Rattle.expr.specs.Outcome.{Outcome}
use Rattle.expr.specs.Lent.{over}
use Rattle.lines.specs.declared.Taken.{Taken}
use Rattle.lines.specs.Lines.{up_to, has_end, used_of, kept}
use Rattle.lines.specs.LinesLaws.{cases, never, front_is, ended_used, ended_fits, going_all, going_used, inside_ended, kept_again}
use Rattle.report_lines.specs.declared.Totals.{Totals}
use Rattle.report_lines.specs.Report.{Done, outcome_of, text_of, plus, totals_of}
use Rattle.report_lines.specs.Steps.{is_open, Fed, unread, read_on, fed}
use Rattle.report_lines.specs.StepsLaws.{outcome_clip}
use Rattle.report_lines.specs.Promises.{Prints, Goes, state_of}
use Rattle.report_lines.proofs.AddsLaws.{adds_none, adds_long}

-- ---- the step up to the first line end of a chunk

-- a step in two parts
pub read_on_on : (n m : ℕ) (xs ys : List ℕ) (f : Fed) → read_on n xs (read_on m ys f) ≡ read_on (n + m) (xs ++ ys) f
read_on_on n m xs ys f =
    ap₂ (λ (u : ℕ) (l : List ℕ). record { used = u; text = l; totals = f.totals; kept = f.kept }) (let e : n + (m + f.used) ≡ n + m + f.used = omega arith in e) (sym (append_assoc xs ys f.text))

pub read_on_none : (f : Fed) → f ≡ read_on 0 [] f
read_on_none f = ap (λ (u : ℕ). record { used = u; text = f.text; totals = f.totals; kept = f.kept }) (let e : f.used ≡ 0 + f.used = omega arith in e)

-- a byte more
byte_on : (n : ℕ) (xs : List ℕ) (f : Fed) → read_on 1 [] (read_on n xs f) ≡ read_on (suc n) xs f
byte_on n xs f = ap (λ (u : ℕ). record { used = u; text = xs ++ f.text; totals = f.totals; kept = f.kept }) (let e : 1 + (n + f.used) ≡ suc n + f.used = omega arith in e)

-- what a step does once a line is printed
abbrev after_line : Totals → ℕ → Outcome Done → List ℕ → Fed
after_line t room o rest = fed (plus t (totals_of o)) [] (room - length (text_of (t.lines + 1) o)) rest

line_same : (p : List ℕ) (b : ℕ) (xs : List ℕ) → outcome_of (take 9219 (p ++ (b ∷ [])) ++ xs) ≡ outcome_of (p ++ (b ∷ xs))
line_same p b xs =
    sym (outcome_clip (take 9219 (p ++ (b ∷ [])) ++ xs)) ∙ ap outcome_of (kept_again 9219 (p ++ (b ∷ [])) xs) ∙ outcome_clip ((p ++ (b ∷ [])) ++ xs)
    ∙ ap outcome_of (append_assoc p (b ∷ []) xs)

module _ (t : Totals) (room : ℕ) (opens : is_open t.lines room ≡ true) where
  fed_ended : (p chunk : List ℕ) → has_end chunk ≡ true → (o : Outcome Done) → o ≡ outcome_of (p ++ up_to chunk)
      → fed t p room chunk ≡ read_on (used_of chunk) (text_of (t.lines + 1) o) (after_line t room o (drop (used_of chunk) chunk))
  unfolding fed has_end up_to used_of
  fed_ended p [] h o e = never (sym h)
  fed_ended p (b ∷ bs) h o e =
      rw opens (cases (eqb b 10)
      (λ y. rw y (ap (λ (q : Outcome Done). read_on 1 (text_of (t.lines + 1) q) (after_line t room q bs)) (sym (rw y at e ∙ ap outcome_of (append-nil p)))))
      (λ n. rw n (ap (read_on 1 []) (fed_ended (take 9219 (p ++ (b ∷ []))) bs (rw n at h) o (rw n at e ∙ sym (line_same p b (up_to bs)))) ∙ byte_on (used_of bs) (text_of (t.lines + 1) o) _)))

  fed_going : (p chunk : List ℕ) → has_end chunk ≡ false → length p ≤ 9219 → fed t p room chunk ≡ read_on (length chunk) [] (fed t (take 9219 (p ++ chunk)) room [])
  unfolding fed has_end
  fed_going p [] h k = ap (unread t) (sym (ap (take 9219) (append-nil p) ∙ take_all 9219 p k)) ∙ read_on_none _
  fed_going p (b ∷ bs) h k =
      rw opens (cases (eqb b 10) (λ y. never (rw y at h))
      (λ n. rw n (ap (read_on 1 []) (fed_going (take 9219 (p ++ (b ∷ []))) bs (rw n at h) (omega (arith, length-take 9219 (p ++ (b ∷ [])))))
      ∙ byte_on (length bs) [] _
      ∙ ap (λ (l : List ℕ). read_on (suc (length bs)) [] (unread t l)) (kept_again 9219 (p ++ (b ∷ [])) bs ∙ ap (take 9219) (append_assoc p (b ∷ []) bs)))))

-- ---- `turn`

module _ (t : Totals) (have : ℕ) (line chunk : List ℕ) (put : ℕ) (before : List ℕ) (opens : is_open t.lines (length before - put) ≡ true) where
  -- a line is printed, and nothing of the next one is kept
  printed : (o : Outcome Done) (line' : List ℕ) (t' : Totals) (put' : ℕ) (after : List ℕ) (used have' : ℕ) → Prints o t put before t' put' after → have' ≡ 0 → has_end chunk ≡ true
      → used ≡ used_of chunk → o ≡ outcome_of (take have line ++ up_to chunk) → Goes (state_of t have) line chunk put before used (state_of t' have') line' put' after
  printed o line' t' put' after used have' g z ends u e =
      let room : length before - put - length (text_of (t.lines + 1) o) ≡ length after - put' =
      omega (arith, g.adds.put_is, adds_long (text_of (t.lines + 1) o) put before put' after g.adds)
      in
      let rest : after_line t (length before - put) o (drop (used_of chunk) chunk) ≡ fed t' (take have' line') (length after - put') (drop used chunk) =
      ap₂ (λ (r : ℕ) (n : ℕ). fed (plus t (totals_of o)) [] r (drop n chunk)) room (sym u) ∙ ap₂ (λ (v : Totals) (n : ℕ). fed v (take n line') (length after - put') (drop used chunk)) (sym g.totals_is) (sym z)
      in
      record {
        text = text_of (t.lines + 1) o;
        step =
            fed_ended t (length before - put) opens (take have line) chunk ends o e
            ∙ ap₂ (λ (n : ℕ) (f : Fed). read_on n (text_of (t.lines + 1) o) f) (sym u) rest;
        used_most = omega (arith, u, ended_fits chunk ends);
        adds = g.adds;
      }

  -- a line that lies whole in the chunk
  pub turn_whole : (t' : Totals) (put' : ℕ) (after : List ℕ) (end : ℕ) → Prints (outcome_of (take end chunk)) t put before t' put' after → have ≡ 0 → end ≡ length (up_to chunk) → end < length chunk
      → Goes (state_of t have) line chunk put before (end + 1) (state_of t' have) line put' after
  turn_whole t' put' after end g z e h =
      let ends : has_end chunk ≡ true = inside_ended chunk (omega arith) in
      printed (outcome_of (take end chunk)) line t' put' after (end + 1) have g z ends (omega (arith, ended_used chunk ends))
      (ap₂ (λ (l : List ℕ) (n : ℕ). outcome_of (take n line ++ l)) (ap (λ (n : ℕ). take n chunk) e ∙ front_is chunk) (sym z))

  -- the bytes of a line that are kept
  module _ (line_is : length line ≡ 9219) (line' : List ℕ) (k : Taken) (used_is : k.used ≡ used_of chunk) (ended_is : k.ended ≡ has_end chunk)
      (have_is : k.have ≡ length (kept (length line) (take have line) chunk)) (line-to : line' ≡ over (kept (length line) (take have line) chunk) line) where
    abbrev bytes : List ℕ
    bytes = kept (length line) (take have line) chunk

    bytes_most : length bytes ≤ length line
    bytes_most = omega (arith, length-take (length line) (take have line ++ up_to chunk))

    pub kept_long : length line' ≡ length line
    kept_long = ap length line-to ∙ length-append bytes (drop (length bytes) line) ∙ omega (arith, length-drop (length bytes) line, bytes_most)

    pub kept_inside : k.have ≤ length line'
    kept_inside = omega (arith, kept_long, bytes_most)

    kept_front : take k.have line' ≡ take 9219 (take have line ++ up_to chunk)
    kept_front =
        ap (take k.have) line-to ∙ take_at bytes (drop (length bytes) line) k.have (sym have_is) ∙ ap (λ (n : ℕ). take n (take have line ++ up_to chunk)) line_is

    pub turn_ended : (line'' : List ℕ) (t' : Totals) (put' : ℕ) (after : List ℕ) → Prints (outcome_of (take k.have line')) t put before t' put' after → k.ended ≡ true
        → Goes (state_of t have) line chunk put before k.used (state_of t' 0) line'' put' after
    turn_ended line'' t' put' after g i =
        printed (outcome_of (take k.have line')) line'' t' put' after k.used 0 g refl (sym ended_is ∙ i) used_is (ap outcome_of kept_front ∙ outcome_clip (take have line ++ up_to chunk))

    pub turn_going : k.ended ≡ false → put ≤ length before → Goes (state_of t have) line chunk put before k.used (state_of t k.have) line' put before
    turn_going i inside =
        let going : has_end chunk ≡ false = sym ended_is ∙ i in
        let all : k.used ≡ length chunk = used_is ∙ going_used chunk going in
        let short : length (take have line) ≤ 9219 = omega (arith, length-take have line) in
        record {
          text = [];
          step =
              fed_going t (length before - put) opens (take have line) chunk going short
              ∙ ap₂ (λ (n : ℕ) (p : List ℕ). read_on n [] (fed t p (length before - put) [])) (sym all) (ap (λ (l : List ℕ). take 9219 (take have line ++ l)) (sym (going_all chunk going)) ∙ sym kept_front)
              ∙ ap (λ (l : List ℕ). read_on k.used [] (fed t (take k.have line') (length before - put) l)) (sym (ap (λ (n : ℕ). drop n chunk) all ∙ drop-length chunk));
          used_most = omega arith;
          adds = adds_none put before inside;
        }

    pub some_used : 0 < length chunk → 1 ≤ k.used
    some_used h = cases (has_end chunk) (λ e. omega (arith, ended_used chunk e)) (λ e. omega (arith, going_used chunk e))

pub ruleset turning = (turn_whole, kept_long, kept_inside, turn_ended, turn_going, some_used)
