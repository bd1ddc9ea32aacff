-- The report does not depend on how its input is split into chunks. Assumes nothing.
use Rattle.std.specs.Prelude.{◌≡◌, refl, true, false, List, [], ◌∷◌, ◌++◌, map, ℕ, zero, suc, ◌+◌, ◌-◌, ◌<◌, eqb, take, drop}
use Rattle.std.proofs.Common.{sym, ap, ap₂, ◌∙◌, append_assoc, arith}
use Rattle.expr.specs.Outcome.{Outcome}
use Rattle.lines.specs.Lines.{last_line, lines_from}
use Rattle.lines.specs.LinesLaws.{clip_first}
use Rattle.report_lines.specs.declared.Totals.{Totals}
use Rattle.report_lines.specs.Report.{Done, outcome_of, outcomes, text_of, texts_of, no_totals, plus, totals_of, sums, closing, report_of}
use Rattle.report_lines.specs.Steps.{Fed, read_on, line_text, with_line, fed, outcomes_left, rest_of, joined, Stepped}
use Rattle.report_lines.specs.StepsLaws.{outcome_clip, each_byte}

-- ---- the sums

-- sums that are equal in each of the four
totals_are : (t u : Totals) → t.lines ≡ u.lines → t.refused ≡ u.refused → t.before ≡ u.before → t.after ≡ u.after → t ≡ u
totals_are t u a b c d =
    ap₂ (λ (x y : ℕ). record { lines = x; refused = y; before = t.before; after = t.after }) a b
    ∙ ap₂ (λ (x y : ℕ). record { lines = u.lines; refused = u.refused; before = x; after = y }) c d

pub plus_none : (t : Totals) → plus t no_totals ≡ t
plus_none t = totals_are (plus t no_totals) t (omega arith) (omega arith) (omega arith) (omega arith)

none_plus : (t : Totals) → plus no_totals t ≡ t
none_plus t = totals_are (plus no_totals t) t (omega arith) (omega arith) (omega arith) (omega arith)

pub plus_plus : (a b c : Totals) → plus a (plus b c) ≡ plus (plus a b) c
plus_plus a b c = totals_are (plus a (plus b c)) (plus (plus a b) c) (omega arith) (omega arith) (omega arith) (omega arith)

-- ---- what is left

-- all of the report, before the first byte
pub rest_start : (bytes : List ℕ) → rest_of no_totals [] bytes ≡ report_of bytes
unfolding rest_of report_of
rest_start bytes = ap (λ (t : Totals). texts_of 1 (outcomes bytes) ++ closing t) (none_plus (sums (outcomes bytes)))

-- the closing line, after the last byte
pub rest_none : (t : Totals) → rest_of t [] [] ≡ closing t
unfolding rest_of texts_of sums lines_from last_line
rest_none t = go (65535 - t.lines)
  where
    go : (n : ℕ) → texts_of (t.lines + 1) (map outcome_of (take n [])) ++ closing (plus t (sums (map outcome_of (take n [])))) ≡ closing t
    go zero = ap closing (plus_none t)
    go (suc n) = ap closing (plus_none t)

-- the closing line, after line 65,535, whatever bytes follow
pub rest_full : (t : Totals) (kept bytes : List ℕ) → t.lines ≡ 65535 → rest_of t kept bytes ≡ closing t
unfolding rest_of texts_of sums
rest_full t kept bytes e =
    ap (λ (n : ℕ). texts_of (t.lines + 1) (map outcome_of (take n (lines_from kept bytes))) ++ closing (plus t (sums (map outcome_of (take n (lines_from kept bytes)))))) (let z : 65535 - t.lines ≡ 0 = omega arith in z)
    ∙ ap closing (plus_none t)

-- a line is printed, and the rest after it
pub rest_line : (t : Totals) (p bytes l more : List ℕ) → t.lines < 65535 → lines_from p bytes ≡ l ∷ lines_from [] more
    → rest_of t p bytes ≡ text_of (t.lines + 1) (outcome_of l) ++ rest_of (plus t (totals_of (outcome_of l))) [] more
unfolding rest_of texts_of sums
rest_line t p bytes l more h e =
    let os = outcomes_left (t.lines + 1) [] more in
    let n : 65535 - t.lines ≡ suc (65535 - (t.lines + 1)) = omega arith in
    let f : outcomes_left t.lines p bytes ≡ outcome_of l ∷ os =
    ap₂ (λ (k : ℕ) (ls : List (List ℕ)). map outcome_of (take k ls)) n e in
    ap (λ (xs : List (Outcome Done)). texts_of (t.lines + 1) xs ++ closing (plus t (sums xs))) f
    ∙ append_assoc (text_of (t.lines + 1) (outcome_of l)) (texts_of (t.lines + 1 + 1) os) (closing (plus t (plus (totals_of (outcome_of l)) (sums os))))
    ∙ ap (λ (s : Totals). text_of (t.lines + 1) (outcome_of l) ++ (texts_of (t.lines + 1 + 1) os ++ closing s)) (plus_plus t (totals_of (outcome_of l)) (sums os))

-- of a line that goes on, 9,219 bytes are enough
rest_clip : (t : Totals) (p bytes : List ℕ) → rest_of t (take 9219 p) bytes ≡ rest_of t p bytes
unfolding rest_of
rest_clip t p bytes =
    ap (λ (xs : List (Outcome Done)). texts_of (t.lines + 1) xs ++ closing (plus t (sums xs)))
    (clip_first 9219 outcome_of outcome_clip (omega arith) (65535 - t.lines) p bytes)

rest_same : (t : Totals) (p q bytes more : List ℕ) → lines_from p bytes ≡ lines_from q more → rest_of t p bytes ≡ rest_of t q more
unfolding rest_of
rest_same t p q bytes more e =
    ap (λ (ls : List (List ℕ)). texts_of (t.lines + 1) (map outcome_of (take (65535 - t.lines) ls)) ++ closing (plus t (sums (map outcome_of (take (65535 - t.lines) ls))))) e

-- ---- a step

-- what is left after a step is what was left before it, less what it prints, whatever bytes follow the chunk
pub record Leaves (t : Totals) (kept chunk : List ℕ) (f : Fed) : Type 0 where
  pub rest : (more : List ℕ) → rest_of t kept (chunk ++ more) ≡ f.text ++ rest_of f.totals f.kept (drop f.used chunk ++ more)

lines_end : (kept : List ℕ) (b : ℕ) (bs : List ℕ) → eqb b 10 ≡ true → lines_from kept (b ∷ bs) ≡ kept ∷ lines_from [] bs
unfolding lines_from
lines_end kept b bs e = rw e refl

lines_byte : (kept : List ℕ) (b : ℕ) (bs : List ℕ) → eqb b 10 ≡ false → lines_from kept (b ∷ bs) ≡ lines_from (kept ++ (b ∷ [])) bs
unfolding lines_from
lines_byte kept b bs e = rw e refl

drop_one : (n b : ℕ) (bs : List ℕ) → drop n bs ≡ drop (1 + n) (b ∷ bs)
drop_one n b bs = ap (λ (k : ℕ). drop k (b ∷ bs)) (let e : suc n ≡ 1 + n = omega arith in e)

leaves_line : (t : Totals) (kept : List ℕ) (b : ℕ) (bs : List ℕ) (f : Fed) → t.lines < 65535 → eqb b 10 ≡ true → Leaves (with_line t kept) [] bs f
    → Leaves t kept (b ∷ bs) (read_on 1 (line_text t kept) f)
leaves_line t kept b bs f h e g = record {
  rest = λ more.
      rest_line t kept (b ∷ (bs ++ more)) kept (bs ++ more) h (lines_end kept b (bs ++ more) e)
      ∙ ap (λ (l : List ℕ). line_text t kept ++ l) (g.rest more)
      ∙ sym (append_assoc (line_text t kept) f.text _)
      ∙ ap (λ (l : List ℕ). (line_text t kept ++ f.text) ++ rest_of f.totals f.kept (l ++ more)) (drop_one f.used b bs);
}

leaves_byte : (t : Totals) (kept : List ℕ) (b : ℕ) (bs : List ℕ) (f : Fed) → eqb b 10 ≡ false → Leaves t (take 9219 (kept ++ (b ∷ []))) bs f → Leaves t kept (b ∷ bs) (read_on 1 [] f)
leaves_byte t kept b bs f e g = record {
  rest = λ more.
      rest_same t kept (kept ++ (b ∷ [])) (b ∷ (bs ++ more)) (bs ++ more) (lines_byte kept b (bs ++ more) e)
      ∙ sym (rest_clip t (kept ++ (b ∷ [])) (bs ++ more))
      ∙ g.rest more
      ∙ ap (λ (l : List ℕ). f.text ++ rest_of f.totals f.kept (l ++ more)) (drop_one f.used b bs);
}

pub fed_leaves : (t : Totals) (kept : List ℕ) (room : ℕ) (chunk : List ℕ) → Leaves t kept chunk (fed t kept room chunk)
fed_leaves = each_byte Leaves (λ t kept chunk. record { rest = λ more. refl }) leaves_line leaves_byte

-- ---- any split into chunks

stepped_rest : {t u : Totals} {kept kept' text : List ℕ} {chunks : List (List ℕ)} → Stepped t kept chunks text u kept' → rest_of t kept (joined chunks) ≡ text ++ rest_of u kept' []
unfolding joined
stepped_rest Stepped.end = refl
stepped_rest (Stepped.full {t} {kept} {chunks} e) = rest_full t kept (joined chunks) e ∙ sym (rest_full t kept [] e)
stepped_rest (Stepped.next r) = stepped_rest r
stepped_rest (Stepped.step {t} {u} {kept} {kept'} {chunk} {texts} {chunks} {f} room e r) =
    (fed_leaves t kept room chunk).rest (joined chunks)
    ∙ ap (λ (g : Fed). g.text ++ rest_of g.totals g.kept (drop g.used chunk ++ joined chunks)) (sym e)
    ∙ ap (λ (l : List ℕ). f.text ++ l) (stepped_rest r)
    ∙ sym (append_assoc f.text texts (rest_of u kept' []))

-- whatever the chunks are, and however much room the output has at each step, what the steps print and what `finish` prints then are together the report of
-- all bytes
pub stepped_report : {u : Totals} {kept text : List ℕ} {chunks : List (List ℕ)} → Stepped no_totals [] chunks text u kept → text ++ rest_of u kept [] ≡ report_of (joined chunks)
stepped_report {chunks = chunks} r = sym (stepped_rest r) ∙ rest_start (joined chunks)
