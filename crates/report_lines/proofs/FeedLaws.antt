-- Lines, chunks, and the end of the input. Assumes nothing.
use mathlib.Core.Path.{◌≡◌, refl, sym, ap, ap₂, subst, ◌∙◌}
use mathlib.Core.Bool.{Bool, true, false, not}
use mathlib.Core.List.{List, [], ◌∷◌, ◌++◌, append-nil}
use Prim.Native.Nat.{ℕ, ◌+◌, ◌-◌, ◌≤◌, ◌<◌}
use native.Mathlib.Omega.{arith}
use mir.Syntax.{w64}
use mir.Val.{Fits}
use lib.ListN.{length, take, drop, length-drop}
use lib.Seq.{length-take-le, drop-drop}
use borrow.Author.Tests.{not-true, not-false}
use borrow.Rule.Slice.PartMut.{put_mid}
use Rattle.expr.specs.Parts.{tail}
use Rattle.expr.specs.TailLaws.{tail_drop, length_tail}
use Rattle.expr.specs.Lent.{over}
use Rattle.lines.specs.Lines.{last_line, lines_from}
use Rattle.report_lines.specs.declared.Totals.{Totals}
use Rattle.report_lines.specs.declared.State.{State}
use Rattle.report_lines.specs.Report.{outcome_of, text_of, closing}
use Rattle.report_lines.specs.Steps.{is_open, Fed, unread, read_on, fed, rest_of, sound_totals, ready, Lent, StepIs, FeedsIf, Feeds, FinishesIf, Finishes}
use Rattle.report_lines.specs.BoundsLaws.{IsReady, ready_open, sound_open, SoundPlaces, places_open, open_lines, open_room, open_shut, small, sound_next}
use Rattle.report_lines.specs.ReportLaws.{rest_line, rest_none, rest_full}
use Rattle.report_lines.specs.Promises.{Printed, Adds, Prints, PrintsLast, Goes}
use Rattle.report_lines.proofs.AddsLaws.{adds_none, adds_part, adds_long, adds_on}
use Rattle.report_lines.proofs.StepLaws.{read_on_on, read_on_none}

-- ---- a line

module _ (lines put : ℕ) (out : List ℕ) (opens : is_open lines (length out - put) ≡ true) where
  pub line_before : lines < 65535
  line_before = open_lines lines (length out - put) opens

  pub line_room : 9321 ≤ length (tail put out)
  line_room = omega (arith, open_room lines (length out - put) opens, length_tail put out)

module _ (t : Totals) (put : ℕ) (out line rest : List ℕ) (k : ℕ) (t' : Totals) (sound : sound_totals t ≡ true) (opens : is_open t.lines (length out - put) ≡ true)
    (p : Printed (outcome_of line) t (tail put out) rest k t') where
  line_fits : put + k ≤ length out
  line_fits = omega (arith, open_room t.lines (length out - put) opens, p.put_is, (small line).text_most (t.lines + 1))

  pub line_sound : sound_totals t' ≡ true
  line_sound = ap sound_totals p.totals_is ∙ sound_next t line sound (line_before t.lines put out opens)

  pub line_prints : Prints (outcome_of line) t put out t' (put + k) (put_mid put (length out - put) out rest)
  line_prints = record { adds = adds_part put out rest (text_of (t.lines + 1) (outcome_of line)) k p.text p.put_is line_fits; totals_is = p.totals_is }

  pub line_count : length out < 18446744073709551616 → Fits w64 (put + k)
  line_count h = omega (arith, line_fits)

  pub line_inside : put + k ≤ length (put_mid put (length out - put) out rest)
  line_inside = omega (arith, line_fits, adds_long (text_of (t.lines + 1) (outcome_of line)) put out (put + k) (put_mid put (length out - put) out rest) line_prints.adds)

pub ruleset printing = (line_before, line_room, line_count, line_inside, line_sound, line_prints)

-- ---- lines of a chunk

module _ (s : State) (line chunk : List ℕ) (put : ℕ) (before : List ℕ) where
  pub none_fed : put ≤ length before → Goes s line chunk put before 0 s line put before
  none_fed l = record { text = []; step = read_on_none _; used_most = omega arith; adds = adds_none put before l }

module _ (s : State) (line chunk : List ℕ) (put : ℕ) (before : List ℕ) (at : ℕ) (s' : State) (line' : List ℕ) (put' : ℕ) (after : List ℕ) (f : Goes s line chunk put before at s' line' put' after) where
  pub more_fed : (used : ℕ) (s'' : State) (line'' : List ℕ) (put'' : ℕ) (last : List ℕ) → Goes s' line' (tail at chunk) put' after used s'' line'' put'' last
      → Goes s line chunk put before (at + used) s'' line'' put'' last
  more_fed used s'' line'' put'' last g = record {
    text = f.text ++ g.text;
    step =
        f.step
        ∙ ap (λ (l : List ℕ). read_on at f.text (fed s'.totals (take s'.have line') (length after - put') l)) (sym (tail_drop at chunk))
        ∙ ap (read_on at f.text) g.step
        ∙ read_on_on at used f.text g.text _
        ∙ ap (λ (l : List ℕ). read_on (at + used) (f.text ++ g.text) (fed s''.totals (take s''.have line'') (length last - put'') l))
        (ap (drop used) (tail_drop at chunk) ∙ drop-drop used at chunk);
    used_most = omega (arith, f.used_most, g.used_most, length_tail at chunk);
    adds = adds_on f.text put before put' after f.adds g.text put'' last g.adds;
  }

pub ruleset feeding = (none_fed, more_fed)

-- ---- the calls

-- where no other line is read, a step reads nothing
stopped : (t : Totals) (p : List ℕ) (room : ℕ) (rest : List ℕ) → (0 < length rest → is_open t.lines room ≡ false) → fed t p room rest ≡ unread t p
unfolding fed
stopped t p room [] h = refl
stopped t p room (b ∷ bs) h = rw (h (omega arith)) refl

module _ (s : State) (line words work out : List ℕ) (b : Bool) (e : b ≡ ready s (length line) (length words) (length work) (length out)) where
  abbrev lent : Lent
  lent = record { line = line; words = words; work = work; out = out }

  ready_yes : not b ≡ false → ready s (length line) (length words) (length work) (length out) ≡ true
  ready_yes f = sym e ∙ not-false b f

  module _ (f : not b ≡ false) where
    opened : IsReady s (length line) (length words) (length work) (length out)
    opened = ready_open s (length line) (length words) (length work) (length out) (ready_yes f)

    room : SoundPlaces (length line) (length words) (length work) (length out)
    room = places_open (length line) (length words) (length work) (length out) opened.room

    pub ready_sound : sound_totals s.totals ≡ true
    ready_sound = opened.sound

    pub ready_have : s.have ≤ length line
    ready_have = opened.have_most

    pub ready_taken : s.have ≡ length (take s.have line)
    ready_taken = sym (length-take-le s.have line opened.have_most)

    pub ready_line : length line ≡ 9219
    ready_line = room.line_is

    pub words_room : 1024 ≤ length words
    words_room = room.some_words

    pub work_room : 4096 ≤ length work
    work_room = room.some_work

    pub out_room : 0 + 9400 ≤ length out
    out_room = room.some_out

    goes : (chunk : List ℕ) (used : ℕ) (s' : State) (line' : List ℕ) (put : ℕ) (words' work' out' : List ℕ) → Goes s line chunk 0 out used s' line' put out'
        → (used < length chunk → is_open s'.totals.lines (length out' - put) ≡ false) → s'.have ≤ length line'
        → Feeds s chunk lent (record { used = used; put = put; state = s' }) (record { line = line'; words = words'; work = work'; out = out' })
    unfolding FeedsIf
    goes chunk used s' line' put words' work' out' g h within =
        let kept = take s'.have line' in
        let have : length kept ≡ s'.have = length-take-le s'.have line' within in
        let all : fed s.totals (take s.have line) (length out) chunk ≡ read_on used g.text (unread s'.totals kept) =
        ap (λ (n : ℕ). fed s.totals (take s.have line) n chunk) (let n : length out ≡ length out - 0 = omega arith in n)
        ∙ g.step ∙ ap (read_on used g.text) (stopped s'.totals kept (length out' - put) (drop used chunk) (λ l. h (omega (arith, length-drop used chunk))))
        in
        let is : StepIs (read_on used g.text (unread s'.totals kept)) lent (record { used = used; put = put; state = s' }) (record { line = line'; words = words'; work = work'; out = out' }) =
        record {
          answer =
              ap₂ (λ (n m : ℕ). record { used = n; put = m; state = s' }) (let n : used ≡ used + 0 = omega arith in n) (g.adds.put_is ∙ (let n : 0 + length g.text ≡ length g.text = omega arith in n) ∙ ap length (sym (append-nil g.text)))
              ∙ ap (λ (n : ℕ). record { used = used + 0; put = length (g.text ++ []); state = record { totals = s'.totals; have = n } }) (sym have);
          out = g.adds.laid.is ∙ ap (λ (x : List ℕ). over x out) (sym (append-nil g.text));
          line = ap (λ (n : ℕ). take n line') have;
        }
        in
        record {
          is =
              subst (λ (c : Bool). FeedsIf c s chunk lent (record { used = used; put = put; state = s' }) (record { line = line'; words = words'; work = work'; out = out' })) (sym (ready_yes f))
              (subst (λ (x : Fed). StepIs x lent (record { used = used; put = put; state = s' }) (record { line = line'; words = words'; work = work'; out = out' })) (sym all) is);
        }

    pub feeds : (chunk : List ℕ) (used : ℕ) (s' : State) (line' kept-line : List ℕ) (put : ℕ) (words' work' out' end : List ℕ) → Goes s line chunk 0 out used s' kept-line put end
        → (used < length chunk → is_open s'.totals.lines (length end - put) ≡ false) → s'.have ≤ length kept-line → line' ≡ kept-line → out' ≡ end
        → Feeds s chunk lent (record { used = used; put = put; state = s' }) (record { line = line'; words = words'; work = work'; out = out' })
    feeds chunk used s' line' kept-line put words' work' out' end g h w l o =
        subst (λ (x : List ℕ). Feeds s chunk lent (record { used = used; put = put; state = s' }) (record { line = x; words = words'; work = work'; out = out' })) (sym l)
        (subst (λ (x : List ℕ). Feeds s chunk lent (record { used = used; put = put; state = s' }) (record { line = kept-line; words = words'; work = work'; out = x })) (sym o)
        (goes chunk used s' kept-line put words' work' end g h w))

    pub finishes : (t' : Totals) (put put' : ℕ) (mid end words' work' out' : List ℕ) → PrintsLast (take s.have line) s.totals 0 out t' put mid → Adds (closing t') put mid put' end → out' ≡ end
        → Finishes s lent put' (record { line = line; words = words'; work = work'; out = out' })
    unfolding FinishesIf
    finishes t' put put' mid end words' work' out' p a o =
        let all = adds_on p.text 0 out put mid p.adds (closing t') put' out' (subst (Adds (closing t') put mid put') (sym o) a) in
        record {
          is =
              subst (λ (c : Bool). FinishesIf c s lent put' (record { line = line; words = words'; work = work'; out = out' })) (sym (ready_yes f))
              (all.laid.is ∙ ap (λ (x : List ℕ). over x out) (sym p.is), (let n : put' ≡ length (p.text ++ closing t') = omega (arith, all.put_is) in n ∙ ap length (sym p.is)));
        }

  pub not_fed : not b ≡ true → (chunk : List ℕ) → Feeds s chunk lent (record { used = 0; put = 0; state = s }) lent
  unfolding FeedsIf
  not_fed f chunk = record { is = subst (λ (c : Bool). FeedsIf c s chunk lent (record { used = 0; put = 0; state = s }) lent) (sym (not-true b f) ∙ e) (refl, refl) }

  pub not_finished : not b ≡ true → Finishes s lent 0 lent
  unfolding FinishesIf
  not_finished f = record { is = subst (λ (c : Bool). FinishesIf c s lent 0 lent) (sym (not-true b f) ∙ e) (refl, refl) }

pub ruleset calls = (ready_sound, ready_have, ready_taken, ready_line, words_room, work_room, out_room, feeds, finishes, not_fed, not_finished)

-- ---- the end of the input

-- the last line has no 0a
last_line_lem : (p : List ℕ) → 0 < length p → lines_from p [] ≡ p ∷ lines_from [] []
unfolding lines_from last_line
last_line_lem [] h = absurd (omega arith)
last_line_lem (b ∷ p) h = refl

module _ (line : List ℕ) (t : Totals) (put : ℕ) (out : List ℕ) (room : put + 9400 ≤ length out) where
  last_none : closing t ≡ rest_of t line [] → PrintsLast line t put out t put out
  last_none e = record { text = []; adds = adds_none put out (omega arith); is = sym e; room = omega arith }

  pub last_empty : length line ≡ 0 → PrintsLast line t put out t put out
  last_empty h = last_none (sym (ap (λ (l : List ℕ). rest_of t l []) (nothing line h) ∙ rest_none t))
    where
      nothing : (l : List ℕ) → length l ≡ 0 → l ≡ []
      nothing [] g = refl
      nothing (b ∷ l) g = absurd (omega arith)

  pub last_full : t.lines ≡ 65535 → PrintsLast line t put out t put out
  last_full h = last_none (sym (rest_full t line [] h))

  module _ (sound : sound_totals t ≡ true) (n : t.lines ≡ 65535 → ⊥) where
    pub last_before : t.lines < 65535
    last_before = omega (arith, n, (sound_open t sound).some_lines)

    pub last_open : is_open t.lines (length out - put) ≡ true
    last_open = open_shut t.lines (length out - put) last_before (omega arith)

    pub last_line_put : (t' : Totals) (put' : ℕ) (out' : List ℕ) → Prints (outcome_of line) t put out t' put' out' → 0 < length line → PrintsLast line t put out t' put' out'
    last_line_put t' put' out' p some = record {
      text = text_of (t.lines + 1) (outcome_of line);
      adds = p.adds;
      is =
          rest_line t line [] line [] last_before (last_line_lem line some)
          ∙ ap (λ (u : Totals). text_of (t.lines + 1) (outcome_of line) ++ rest_of u [] []) (sym p.totals_is)
          ∙ ap (λ (x : List ℕ). text_of (t.lines + 1) (outcome_of line) ++ x) (rest_none t');
      room = omega (arith, p.adds.put_is, (small line).text_most (t.lines + 1));
    }

pub ruleset ending = (last_before, last_open, last_line_put)
