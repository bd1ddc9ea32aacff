-- The report in steps: what a call reads, prints and keeps, and what is still to be printed between two chunks of the input. Definitions only.
use Rattle.std.specs.Prelude.{◌≡◌, Bool, true, false, not, ◌&&◌, List, [], ◌∷◌, ◌++◌, map, ℕ, ◌+◌, ◌-◌, ◌*◌, leb, ltb, eqb, length, take, drop, if◌then◌else◌}
use Rattle.expr.specs.Outcome.{Outcome}
use Rattle.expr.specs.Lent.{over}
use Rattle.lines.specs.Lines.{lines_from}
use Rattle.report_lines.specs.declared.Totals.{Totals}
use Rattle.report_lines.specs.declared.State.{State}
use Rattle.report_lines.specs.declared.Step.{Step}
use Rattle.report_lines.specs.Report.{Done, outcome_of, text_of, texts_of, plus, totals_of, sums, closing}

-- ---- a step

-- another line is read: fewer than 65,535 were, and so many bytes of the output are left that there is room for what is printed of one line and for the
-- closing line
unfoldable pub is_open : ℕ → ℕ → Bool
is_open lines room = ltb lines 65535 && leb 9400 room

-- how many bytes a step reads and what it prints, and then the sums over the lines and the bytes that are kept of the line that goes on
pub record Fed : Type 0 where
  pub used : ℕ
  pub text : List ℕ
  pub totals : Totals
  pub kept : List ℕ

-- nothing is read
abbrev pub unread : Totals → List ℕ → Fed
unread t kept = record { used = 0; text = []; totals = t; kept = kept }

-- so many bytes are read and a text is printed before the rest of a step
abbrev pub read_on : ℕ → List ℕ → Fed → Fed
read_on used text f = record { used = used + f.used; text = text ++ f.text; totals = f.totals; kept = f.kept }

-- what is printed for a line after lines with these sums, and the sums with it
abbrev pub line_text : Totals → List ℕ → List ℕ
line_text t line = text_of (t.lines + 1) (outcome_of line)

abbrev pub with_line : Totals → List ℕ → Totals
with_line t line = plus t (totals_of (outcome_of line))

-- the step over a chunk, after lines with these sums, where these bytes are kept of the line that goes on and the output has so much room: bytes are read
-- as long as another line is; 0a ends a line, which is printed; of a line its first 9,219 bytes are kept, one more than the longest frame without its 0a,
-- so that a longer line shows
unfoldable pub fed : Totals → List ℕ → ℕ → List ℕ → Fed
fed t kept room [] = unread t kept
fed t kept room (b ∷ bs) =
    if not (is_open t.lines room) then unread t kept else
    if eqb b 10 then read_on 1 (line_text t kept) (fed (with_line t kept) [] (room - length (line_text t kept)) bs) else
    read_on 1 [] (fed t (take 9219 (kept ++ (b ∷ []))) room bs)

-- ---- what is left

-- what comes of the lines that are left, after so many lines and the bytes `kept` of the next one, where `bytes` are still to be read
abbrev pub outcomes_left : ℕ → List ℕ → List ℕ → List (Outcome Done)
outcomes_left lines kept bytes = map outcome_of (take (65535 - lines) (lines_from kept bytes))

-- what is still to be printed there
unfoldable pub rest_of : Totals → List ℕ → List ℕ → List ℕ
rest_of t kept bytes =
    texts_of (t.lines + 1) (outcomes_left t.lines kept bytes) ++ closing (plus t (sums (outcomes_left t.lines kept bytes)))

-- ---- the calls `feed` and `finish`

-- what a call is lent: places for a line, for the words of its tree, for the chain's work, and for what is printed
pub record Lent : Type 0 where
  pub line : List ℕ
  pub words : List ℕ
  pub work : List ℕ
  pub out : List ℕ

-- sums within the bounds that every number of lines keeps: at most 65,535 lines, no more refused ones, at most 512 nodes a line
unfoldable pub sound_totals : Totals → Bool
sound_totals t = leb t.lines 65535 && (leb t.refused t.lines && (leb t.before (512 * t.lines) && leb t.after (512 * t.lines)))

-- room for a step: 9,219 bytes for the line, one more than the longest frame without its 0a, so that a longer line shows; 1,024 words for the tree;
-- 4,096 for the work; 9,400 bytes, enough for what is printed of one line and the closing line
unfoldable pub sound_room : ℕ → ℕ → ℕ → ℕ → Bool
sound_room line words work out = eqb line 9219 && (leb 1024 words && (leb 4096 work && leb 9400 out))

-- a state and lent places from which a call goes on; from others it does nothing
unfoldable pub ready : State → ℕ → ℕ → ℕ → ℕ → Bool
ready s line words work out = sound_totals s.totals && (leb s.have line && sound_room line words work out)

-- the same by what is lent
abbrev pub is_ready : State → Lent → Bool
is_ready s lent = ready s (length lent.line) (length lent.words) (length lent.work) (length lent.out)

-- what `feed` answers and leaves: the step, its text at the front of the output, and the bytes that it keeps at the front of `line`. Free is what is in
-- `words`, in `work`, and in `line` behind the kept bytes
pub record StepIs (f : Fed) (before : Lent) (r : Step) (after : Lent) : Type 0 where
  pub answer : r ≡ record { used = f.used; put = length f.text; state = record { totals = f.totals; have = length f.kept } }
  pub out : after.out ≡ over f.text before.out
  pub line : take (length f.kept) after.line ≡ f.kept

unfoldable pub FeedsIf : Bool → State → List ℕ → Lent → Step → Lent → Type 0
FeedsIf false s chunk before r after = (r ≡ record { used = 0; put = 0; state = s }) × (after ≡ before)
FeedsIf true s chunk before r after = StepIs (fed s.totals (take s.have before.line) (length before.out) chunk) before r after

-- the same as a record, which a proof does not unfold
pub record Feeds (s : State) (chunk : List ℕ) (before : Lent) (r : Step) (after : Lent) : Type 0 where
  pub is : FeedsIf (is_ready s before) s chunk before r after

-- `finish` prints what is left where the input has no more bytes; it does not write `line`, and what is in `words` and `work` is left free
unfoldable pub FinishesIf : Bool → State → Lent → ℕ → Lent → Type 0
FinishesIf false s before r after = (r ≡ 0) × (after ≡ before)
FinishesIf true s before r after =
    (after.out ≡ over (rest_of s.totals (take s.have before.line) []) before.out)
    × (r ≡ length (rest_of s.totals (take s.have before.line) []))

-- the same as a record, which a proof does not unfold
pub record Finishes (s : State) (before : Lent) (r : ℕ) (after : Lent) : Type 0 where
  pub is : FinishesIf (is_ready s before) s before r after

-- ---- an input in chunks

-- all bytes of the chunks
unfoldable pub joined : List (List ℕ) → List ℕ
joined [] = []
joined (chunk ∷ chunks) = chunk ++ joined chunks

-- steps that lead through chunks from sums and kept bytes to others, and what they print together: an empty chunk is left behind, a step reads from the
-- front of a chunk with any room in the output, and after line 65,535 the rest may stay unread
pub data Stepped : Totals → List ℕ → List (List ℕ) → List ℕ → Totals → List ℕ → Type 0 where
  end : {t : Totals} {kept : List ℕ} → Stepped t kept [] [] t kept
  full : {t : Totals} {kept : List ℕ} {chunks : List (List ℕ)} → t.lines ≡ 65535 → Stepped t kept chunks [] t kept
  next : {t u : Totals} {kept kept' text : List ℕ} {chunks : List (List ℕ)} → Stepped t kept chunks text u kept' → Stepped t kept ([] ∷ chunks) text u kept'
  step : {t u : Totals} {kept kept' chunk texts : List ℕ} {chunks : List (List ℕ)} {f : Fed} (room : ℕ) → f ≡ fed t kept room chunk
      → Stepped f.totals f.kept (drop f.used chunk ∷ chunks) texts u kept' → Stepped t kept (chunk ∷ chunks) (f.text ++ texts) u kept'
