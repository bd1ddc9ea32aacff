-- Steps through a chunk, and chunks one after the other. Assumes nothing.
use Rattle.std.proofs.Common.{◌≡◌, refl, sym, ap, ap₂, subst, ◌∙◌, Bool, true, List, [], ◌++◌, append_assoc, ℕ, ◌+◌, ◌≤◌, ◌<◌, length, take, drop, arith, length-append, length-take, drop-drop, le-leb}
use Rattle.std.proofs.Math.Seq.{drop-length}
use Rattle.expr.specs.Parts.{tail}
use Rattle.expr.specs.TailLaws.{tail_drop, length_tail}
use Rattle.report_lines.specs.Steps.{ready, sound_totals, sound_room, Fed, fed, rest_of, StepIs, FeedsIf, Feeds, FinishesIf, Finishes}
use Rattle.report_lines.specs.BoundsLaws.{ready_open, sound_open, places_open}
use Rattle.report_lines.specs.StepsLaws.{fed_bounded, fed_some}
use Rattle.report_lines.specs.ReportLaws.{fed_leaves}
use Rattle.report_lines.specs.declared.State.{State}
use Rattle.report_lines.specs.declared.Step.{Step}
use Rattle.report.specs.Reading.{ReadsFront, ReadsChunk, ReadsSome}

-- before the first byte
pub start_ready : (s : State) → ((s.totals.lines ≡ 0) × ((s.totals.refused ≡ 0) × ((s.totals.before ≡ 0) × (s.totals.after ≡ 0)))) × (s.have ≡ 0) → ready s 9219 1024 4096 131072 ≡ true
unfolding ready sound_totals sound_room
start_ready s e = rw (e.0.0, e.0.1.0, e.0.1.1.0, e.0.1.1.1, e.1) refl

-- ---- one call

module _ (s : State) (line words work out : List ℕ) (h : ready s (length line) (length words) (length work) (length out) ≡ true) where
  pub lines_left : s.totals.lines ≤ 65535
  lines_left = (sound_open s.totals (ready_open s (length line) (length words) (length work) (length out) h).sound).some_lines

  module _ (chunk line' words' work' out' : List ℕ) (r : Step)
      (f : Feeds s chunk (record { line = line; words = words; work = work; out = out }) r (record { line = line'; words = words'; work = work'; out = out' })) where
    abbrev step : Fed
    step = fed s.totals (take s.have line) (length out) chunk

    is : StepIs step (record { line = line; words = words; work = work; out = out }) r (record { line = line'; words = words'; work = work'; out = out' })
    unfolding FeedsIf
    is =
        subst (λ (b : Bool). FeedsIf b s chunk (record { line = line; words = words; work = work; out = out }) r (record { line = line'; words = words'; work = work'; out = out' })) h f.is

    have_is : r.state.have ≡ length step.kept
    have_is = ap (λ (q : Step). q.state.have) is.answer

    totals_are : r.state.totals ≡ step.totals
    totals_are = ap (λ (q : Step). q.state.totals) is.answer

    pub put_inside : length out' ≡ length out → r.put ≤ length out
    put_inside e = omega (arith, ap (λ (q : Step). q.put) is.answer, ap length is.out, length-append step.text (drop (length step.text) out), e)

    pub front_read : ReadsFront s line chunk r.used r.state line'
    front_read = record {
      room = length out;
      enough = (places_open (length line) (length words) (length work) (length out) (ready_open s (length line) (length words) (length work) (length out) h).room).some_out;
      text = step.text;
      step =
          ap₂ (λ (n : ℕ) (l : List ℕ). record { used = n; text = step.text; totals = step.totals; kept = l }) (sym (ap (λ (q : Step). q.used) is.answer)) (sym (ap (λ (n : ℕ). take n line') have_is ∙ is.line))
          ∙ ap (λ t. record { used = r.used; text = step.text; totals = t; kept = take r.state.have line' }) (sym totals_are);
    }

    pub ready_on : length line' ≡ length line → length words' ≡ length words → length work' ≡ length work → length out' ≡ length out
        → ready r.state (length line') (length words') (length work') (length out') ≡ true
    unfolding ready
    ready_on d e g k =
        let i = ready_open s (length line) (length words) (length work) (length out) h in
        let b = fed_bounded s.totals (take s.have line) (length out) chunk in
        let size = (places_open (length line) (length words) (length work) (length out) i.room).line_is in
        let short : r.state.have ≤ length line = omega (arith, have_is, b.kept_most (omega (arith, length-take s.have line, size)), size) in
        rw (totals_are, b.sound i.sound, d, le-leb r.state.have (length line) short, e, g, k) i.room

  pub rest_inside : (words' work' out' : List ℕ) (r : ℕ)
      → Finishes s (record { line = line; words = words; work = work; out = out }) r (record { line = line; words = words'; work = work'; out = out' })
      → r ≤ length out'
  unfolding FinishesIf
  rest_inside words' work' out' r f =
      let rest = rest_of s.totals (take s.have line) [] in
      let g : FinishesIf true s (record { line = line; words = words; work = work; out = out }) r (record { line = line; words = words'; work = work'; out = out' }) =
      subst (λ (b : Bool). FinishesIf b s (record { line = line; words = words; work = work; out = out }) r (record { line = line; words = words'; work = work'; out = out' })) h f.is
      in
      omega (arith, g.1, ap length g.0, length-append rest (drop (length rest) out))

-- ---- the calls on one chunk

-- `at` bytes of the chunk are read, and so many lines at most
pub record Feeding (s : State) (line chunk : List ℕ) (at : ℕ) (s' : State) (line' : List ℕ) : Type 0 where
  pub text : List ℕ
  pub rest : (more : List ℕ) → rest_of s.totals (take s.have line) (chunk ++ more) ≡ text ++ rest_of s'.totals (take s'.have line') (drop at chunk ++ more)
  pub inside : at ≤ length chunk
  pub lines : s'.totals.lines + length chunk ≤ 65535 + at

module _ (s : State) (line chunk : List ℕ) where
  pub feeding_first : s.totals.lines + length chunk ≤ 65535 → Feeding s line chunk 0 s line
  feeding_first h = record { text = []; rest = λ more. refl; inside = omega arith; lines = omega arith }

  module _ (at : ℕ) (s' : State) (line' : List ℕ) (g : Feeding s line chunk at s' line') where
    pub feeding_last : length chunk ≤ at → ReadsChunk s line chunk s' line'
    feeding_last h = record {
      text = g.text;
      rest = λ more.
          g.rest more
          ∙ ap (λ (l : List ℕ). g.text ++ rest_of s'.totals (take s'.have line') (l ++ more)) (let e : at ≡ length chunk = omega (arith, g.inside) in ap (λ (n : ℕ). drop n chunk) e ∙ drop-length chunk);
    }

    module _ (l : at < length chunk) (used : ℕ) (s'' : State) (line'' : List ℕ) (f : ReadsFront s' line' (tail at chunk) used s'' line'') where
      some_left : 1 ≤ length (tail at chunk)
      some_left = omega (arith, length_tail at chunk)

      pub feeding_more : 1 ≤ used
      feeding_more =
          let some = fed_some s'.totals (take s'.have line') f.room (tail at chunk) (omega (arith, g.lines)) f.enough some_left in
          omega (arith, ap (λ (x : Fed). x.used) f.step)

      pub feeding_inside : at + used ≤ length chunk
      feeding_inside =
          omega (arith, ap (λ (x : Fed). x.used) f.step, (fed_bounded s'.totals (take s'.have line') f.room (tail at chunk)).used_most, length_tail at chunk)

      pub feeding_on : Feeding s line chunk (at + used) s'' line''
      feeding_on = record {
        text = g.text ++ f.text;
        rest = λ more.
            g.rest more
            ∙ ap (λ (b : List ℕ). g.text ++ rest_of s'.totals (take s'.have line') (b ++ more)) (sym (tail_drop at chunk))
            ∙ ap (λ (b : List ℕ). g.text ++ b) ((fed_leaves s'.totals (take s'.have line') f.room (tail at chunk)).rest more
            ∙ ap (λ (x : Fed). x.text ++ rest_of x.totals x.kept (drop x.used (tail at chunk) ++ more)) f.step)
            ∙ sym (append_assoc g.text f.text _)
            ∙ ap (λ (b : List ℕ). (g.text ++ f.text) ++ rest_of s''.totals (take s''.have line'') (b ++ more)) (ap (drop used) (tail_drop at chunk) ∙ drop-drop used at chunk);
        inside = feeding_inside;
        lines =
            omega (arith, g.lines, ap (λ (x : Fed). x.used) f.step, ap (λ (x : Fed). x.totals.lines) f.step, (fed_bounded s'.totals (take s'.have line') f.room (tail at chunk)).lines_most);
      }

-- ---- one chunk after the other

pub going_first : (s : State) (line : List ℕ) → ReadsSome s line s line
going_first s line = record { bytes = []; chunk = record { text = []; rest = λ more. refl } }

pub going_on : (s : State) (line : List ℕ) (t : State) (line' : List ℕ) (u : State) (line'' chunk : List ℕ) → ReadsSome s line t line' → ReadsChunk t line' chunk u line'' → ReadsSome s line u line''
going_on s line t line' u line'' chunk r f = record {
  bytes = r.bytes ++ chunk;
  chunk = record {
    text = r.chunk.text ++ f.text;
    rest = λ more.
        ap (rest_of s.totals (take s.have line)) (append_assoc r.bytes chunk more)
        ∙ r.chunk.rest (chunk ++ more)
        ∙ ap (λ (l : List ℕ). r.chunk.text ++ l) (f.rest more)
        ∙ sym (append_assoc r.chunk.text f.text _);
  };
}
