-- What holds of each step. Assumes nothing.
use Rattle.std.specs.Prelude.{◌≡◌, true, false, List, [], ◌∷◌, ◌++◌, ℕ, ◌+◌, ◌-◌, ◌≤◌, ◌<◌, eqb, length, take}
use Rattle.std.proofs.Common.{ap, arith, length-take}
use Rattle.expr.specs.Outcome.{◌and_then◌}
use Rattle.frame.specs.FrameLaws.{line_clip}
use Rattle.lines.specs.LinesLaws.{cases}
use Rattle.report_lines.specs.declared.Totals.{Totals}
use Rattle.report_lines.specs.Report.{chained, outcome_of}
use Rattle.report_lines.specs.Steps.{is_open, Fed, unread, read_on, line_text, with_line, fed, sound_totals}
use Rattle.report_lines.specs.BoundsLaws.{open_lines, open_shut, sound_next}

-- of a line 9,219 bytes are enough
pub outcome_clip : (l : List ℕ) → outcome_of (take 9219 l) ≡ outcome_of l
unfolding outcome_of
outcome_clip l = ap (λ o. o and_then chained) (line_clip l)

-- what holds where nothing is read, and of a byte where it holds of the bytes after it, holds of each step
module _ (P : Totals → List ℕ → List ℕ → Fed → Type 0) (stops : (t : Totals) (kept chunk : List ℕ) → P t kept chunk (unread t kept))
    (line : (t : Totals) (kept : List ℕ) (b : ℕ) (bs : List ℕ) (f : Fed) → t.lines < 65535 → eqb b 10 ≡ true → P (with_line t kept) [] bs f
    → P t kept (b ∷ bs) (read_on 1 (line_text t kept) f))
    (byte : (t : Totals) (kept : List ℕ) (b : ℕ) (bs : List ℕ) (f : Fed) → eqb b 10 ≡ false → P t (take 9219 (kept ++ (b ∷ []))) bs f → P t kept (b ∷ bs) (read_on 1 [] f)) where
  pub each_byte : (t : Totals) (kept : List ℕ) (room : ℕ) (chunk : List ℕ) → P t kept chunk (fed t kept room chunk)
  unfolding fed
  each_byte t kept room [] = stops t kept []
  each_byte t kept room (b ∷ bs) =
      cases (is_open t.lines room)
      (λ o. rw o (cases (eqb b 10)
      (λ e. rw e (line t kept b bs _ (open_lines t.lines room o) e (each_byte (with_line t kept) [] (room - length (line_text t kept)) bs)))
      (λ e. rw e (byte t kept b bs _ e (each_byte t (take 9219 (kept ++ (b ∷ []))) room bs)))))
      (λ o. rw o (stops t kept (b ∷ bs)))

-- so much a step reads and keeps, and so are the sums then
pub record Bounded (t : Totals) (kept chunk : List ℕ) (f : Fed) : Type 0 where
  pub used_most : f.used ≤ length chunk
  pub lines_most : f.totals.lines ≤ t.lines + f.used
  pub kept_most : length kept ≤ 9219 → length f.kept ≤ 9219
  pub sound : sound_totals t ≡ true → sound_totals f.totals ≡ true

pub fed_bounded : (t : Totals) (kept : List ℕ) (room : ℕ) (chunk : List ℕ) → Bounded t kept chunk (fed t kept room chunk)
fed_bounded = each_byte Bounded
    (λ t kept chunk. record { used_most = omega arith; lines_most = omega arith; kept_most = λ h. h; sound = λ s. s })
    (λ t kept b bs f h e g. record {
      used_most = omega (arith, g.used_most);
      lines_most = omega (arith, g.lines_most);
      kept_most = λ k. g.kept_most (omega arith);
      sound = λ s. g.sound (sound_next t kept s h);
    })
    (λ t kept b bs f e g. record {
      used_most = omega (arith, g.used_most);
      lines_most = omega (arith, g.lines_most);
      kept_most = λ k. g.kept_most (omega (arith, length-take 9219 (kept ++ (b ∷ []))));
      sound = g.sound;
    })

-- a step with room for a line reads something, as long as lines are left
pub fed_some : (t : Totals) (kept : List ℕ) (room : ℕ) (chunk : List ℕ) → t.lines < 65535 → 9400 ≤ room → 1 ≤ length chunk → 1 ≤ (fed t kept room chunk).used
unfolding fed
fed_some t kept room [] h k l = absurd (omega arith)
fed_some t kept room (b ∷ bs) h k l =
    rw (open_shut t.lines room h k) (cases (eqb b 10) (λ e. rw e (omega arith)) (λ e. rw e (omega arith)))
