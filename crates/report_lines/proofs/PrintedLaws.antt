-- One line's text and the sums with it. Assumes nothing.
use mathlib.Core.Path.{◌≡◌, refl, sym, ap, ap₂, subst, ◌∙◌}
use mathlib.Core.Bool.{true}
use mathlib.Core.List.{List, [], ◌∷◌, ◌++◌, append-nil}
use Prim.Native.Nat.{ℕ, ◌+◌, ◌-◌, ◌*◌, ◌≤◌, ◌<◌}
use native.Mathlib.Omega.{arith}
use mir.Syntax.{w64}
use mir.Val.{Fits}
use lib.Seq.{length-take-le}
use lib.ListN.{length, take, length-append, length-take}
use borrow.Rule.Slice.PartMut.{put_mid}
use Rattle.std.specs.Prelude.{Result, Ok, Err}
use Rattle.std.specs.Result.{IsOk}
use Rattle.expr.specs.declared.refusal.Reason.{Reason}
use Rattle.expr.specs.declared.refusal.Refusal.{Refusal}
use Rattle.expr.specs.Refusals.{reason_of}
use Rattle.expr.specs.Outcome.{Outcome, refused, accepted, mapped}
use Rattle.expr.specs.OutcomeLaws.{no_answer, same_answer, then_accepted, refused_then}
use Rattle.expr.specs.Expr.{Expr, nodes}
use Rattle.expr.specs.Parts.{tail, Laid}
use Rattle.expr.specs.Front.{Whole, tree_at}
use Rattle.expr.specs.PartLaws.{exact_length}
use Rattle.expr.specs.Lent.{lent_after}
use Rattle.expr.specs.LentLaws.{laid_on}
use Rattle.width.specs.CheckedLaws.{enough}
use Rattle.atom_simplifier.specs.declared.chain.ChainEnd.{ChainEnd}
use Rattle.expr.specs.Answers.{outcome}
use Rattle.atom_simplifier.specs.Answers.{end_numbers}
use Rattle.frame.specs.Frame.{frame, with_bytes, line_words, read_line}
use Rattle.frame.specs.FrameLaws.{length_frame, read_roomy, line_frame, LineLeft, line_left}
use Rattle.frame.specs.declared.Frame.{Frame}
use Rattle.report_lines.specs.declared.Totals.{Totals}
use Rattle.report_lines.specs.Report.{Done, chained, outcome_of, fields, row_of, text_of}
use Rattle.report_lines.specs.Steps.{sound_totals}
use Rattle.report_lines.specs.Promises.{highest, done_by, Reaches, Ran, Printed}
use Rattle.report_lines.specs.BoundsLaws.{sound_open}
use Rattle.report_lines.proofs.ConditionsLaws.{highest_tree, highest_small}

module _ (t : Totals) (sound : sound_totals t ≡ true) (more : t.lines < 65535) where
  pub refused_fits : Fits w64 (t.refused + 1)
  refused_fits = omega (arith, (sound_open t sound).some_refused)

-- ---- a refused line

module _ (t : Totals) (r q : Reason) (put : ℕ) (before after : List ℕ) where
  pub refused_printed : r ≡ q → Laid before after (fields ((t.lines + 1) ∷ r.number ∷ 0 ∷ 0 ∷ 0 ∷ 0 ∷ [])) → put ≡ length (fields ((t.lines + 1) ∷ r.number ∷ 0 ∷ 0 ∷ 0 ∷ 0 ∷ []))
      → Printed (refused q) t before after put (record { lines = t.lines + 1; refused = t.refused + 1; before = t.before; after = t.after })
  unfolding text_of
  refused_printed same l e =
      let row = fields ((t.lines + 1) ∷ r.number ∷ 0 ∷ 0 ∷ 0 ∷ 0 ∷ []) in
      subst (λ (p : Reason). Printed (refused p) t before after put (record { lines = t.lines + 1; refused = t.refused + 1; before = t.before; after = t.after })) same
      (record {
        text = subst (Laid before after) (sym (append-nil row)) l;
        put_is = e ∙ ap length (sym (append-nil row));
        totals_is = ap₂ (λ (b a : ℕ). record { lines = t.lines + 1; refused = t.refused + 1; before = b; after = a }) (let z : t.before ≡ t.before + 0 = omega arith in z) (let z : t.after ≡ t.after + 0 = omega arith in z);
      })

pub ruleset refusing = (refused_fits, refused_printed)

-- ---- an accepted line

module _ (t : Totals) (sound : sound_totals t ≡ true) (more : t.lines < 65535) (ws : List ℕ) (x : Whole ws) (short : length ws ≤ 1024) (n : ℕ) (e : n ≡ nodes (tree_at ws)) where
  pub before_fits : Fits w64 (t.before + n)
  before_fits = omega (arith, (sound_open t sound).some_before, exact_length ws (tree_at ws) x)

  pub after_fits : Fits w64 (t.after + n)
  after_fits = omega (arith, (sound_open t sound).some_after, exact_length ws (tree_at ws) x)

module _ (t : Totals) (w : ℕ) (ws es : List ℕ) (rewrites b a c : ℕ) (x : Whole ws) (e : b ≡ nodes (tree_at ws)) (f : a ≡ nodes (tree_at es)) (g : c ≡ highest ws) where
  abbrev row : List ℕ
  row = (t.lines + 1) ∷ 0 ∷ b ∷ a ∷ rewrites ∷ c ∷ []

  row_is : row ≡ row_of (t.lines + 1) (accepted (done_by w ws es rewrites))
  unfolding done_by
  row_is =
      ap₂ (λ (i j : ℕ). (t.lines + 1) ∷ 0 ∷ i ∷ j ∷ rewrites ∷ c ∷ []) e f
      ∙ ap (λ (d : ℕ). (t.lines + 1) ∷ 0 ∷ nodes (tree_at ws) ∷ nodes (tree_at es) ∷ rewrites ∷ d ∷ []) (g ∙ highest_tree ws (tree_at ws) x)

  module _ (before mid rest : List ℕ) (k m : ℕ) (l : Laid before mid (fields row)) (i : k ≡ length (fields row)) (p : Laid (tail k mid) rest (frame w (tree_at es))) (j : m ≡ length (frame w (tree_at es))) where
    text_is : fields row ++ frame w (tree_at es) ≡ text_of (t.lines + 1) (accepted (done_by w ws es rewrites))
    unfolding text_of done_by
    text_is = ap (λ (ns : List ℕ). fields ns ++ frame w (tree_at es)) row_is

    pub done_printed : Printed (accepted (done_by w ws es rewrites)) t before (put_mid k (length mid - k) mid rest) (k + m)
        (record { lines = t.lines + 1; refused = t.refused; before = t.before + b; after = t.after + a })
    unfolding done_by
    done_printed = record {
      text = subst (Laid before (put_mid k (length mid - k) mid rest)) text_is (laid_on before mid (fields row) l k i rest (frame w (tree_at es)) p);
      put_is = ap₂ (λ (u v : ℕ). u + v) i j ∙ sym (length-append (fields row) (frame w (tree_at es))) ∙ ap length text_is;
      totals_is =
          ap₂ (λ (u v : ℕ). record { lines = t.lines + 1; refused = t.refused; before = t.before + u; after = t.after + v }) e f
          ∙ ap (λ (r : ℕ). record { lines = t.lines + 1; refused = r; before = t.before + nodes (tree_at ws); after = t.after + nodes (tree_at es) }) (let z : t.refused ≡ t.refused + 0 = omega arith in z);
    }

-- ---- either

module _ (w : ℕ) (ws work : List ℕ) (x : Result ChainEnd Refusal) (o : Outcome Done) (g : Ran o w ws work (mapped end_numbers (outcome x))) where
  pub chain_down : (r : Refusal) → x ≡ Err r → o ≡ refused (reason_of r)
  unfolding Reaches
  chain_down r e = go o g.reaches
    where
      go : (a : Outcome Done) → Reaches a w ws work (mapped end_numbers (outcome x)) → a ≡ refused (reason_of r)
      go (refused q) h = let z : q ≡ reason_of r = cc in ap (λ (y : Reason). refused y) z
      go (accepted d) (n, k, h, f, a, b, c, l, i, j) = absurd (let z : ◌≡◌ {A = ℕ} 0 1 = cc in omega arith)

  module _ (end : ChainEnd) (e : x ≡ Ok end) where
    record Ended : Type 0 where
      is : o ≡ accepted (done_by w ws (take (2 * end.nodes) work) end.rewrites)
      whole : Whole ws
      end_whole : Whole (take (2 * end.nodes) work)
      inside : 2 * end.nodes ≤ length work
      few : 2 * end.nodes ≤ 1024
      least : 1 ≤ w
      most : w ≤ 64

    ended : Ended
    unfolding Reaches
    ended = go o refl g.reaches
      where
        go : (a : Outcome Done) → o ≡ a → Reaches a w ws work (mapped end_numbers (outcome x)) → Ended
        go (refused q) i h = absurd (let z : ◌≡◌ {A = ℕ} 0 1 = cc in omega arith)
        go (accepted d) i (m, j, h, f, a, b, c, l, p, q) =
            let both : ◌≡◌ {A = ℕ × ℕ} (m, j) (end_numbers end) = cc in
            let mn : m ≡ end.nodes = ap (λ (v : ℕ × ℕ). v.0) both in
            let jk : j ≡ end.rewrites = ap (λ (v : ℕ × ℕ). v.1) both in
            record {
              is = i ∙ ap (λ (y : Done). accepted y) (f ∙ ap₂ (λ (u v : ℕ). done_by w ws (take (2 * u) work) v) mn jk);
              whole = a;
              end_whole = subst (λ (u : ℕ). Whole (take (2 * u) work)) mn b;
              inside = omega arith;
              few = omega arith;
              least = p;
              most = q;
            }

    pub end_fits : Fits w64 (2 * end.nodes)
    end_fits = omega (arith, ended.few)

    pub end_taken : 2 * end.nodes ≡ length (take (2 * end.nodes) work)
    end_taken = sym (length-take-le (2 * end.nodes) work ended.inside)

    pub width_least : 1 ≤ w
    width_least = ended.least

    pub width_most : w ≤ 64
    width_most = ended.most

    pub tree_whole : Whole ws
    tree_whole = ended.whole

    pub end_whole : Whole (take (2 * end.nodes) work)
    end_whole = ended.end_whole

    pub end_short : length (take (2 * end.nodes) work) ≤ 1024
    end_short = omega (arith, length-take (2 * end.nodes) work, ended.few)

    pub chain_done : o ≡ accepted (done_by w ws (take (2 * end.nodes) work) end.rewrites)
    chain_done = ended.is

pub ruleset chaining = (chain_down, end_fits, end_taken, width_least, width_most, tree_whole, end_whole, end_short, chain_done)

-- ---- a line

module _ (line before words : List ℕ) (room : 1024 ≤ length before) where
  pub line_down : (r : Reason) → refused r ≡ mapped line_frame (read_line line (length before)) → refused r ≡ outcome_of line
  unfolding outcome_of
  line_down r e = refused_then line_frame chained (line_words line) (e ∙ ap (mapped line_frame) (read_roomy line (length before) room))

  module _ (f : Frame) (e : accepted f ≡ mapped line_frame (read_line line (length before))) (l : words ≡ lent_after (λ p. p.1) (read_line line (length before)) before) where
    left : LineLeft line f words
    left = line_left line before words f e l

    pub count_few : length (take (2 * f.nodes) words) ≤ 1024
    count_few = omega (arith, length-take (2 * f.nodes) words, left.few)

    pub line_chained : (o : Outcome Done) → chained (f.width, take (2 * f.nodes) words) ≡ o → outcome_of line ≡ o
    unfolding outcome_of
    line_chained o g = then_accepted left.is chained ∙ g

pub ruleset reading = (line_down, count_few, line_chained)

-- ---- a frame

module _ (es : List ℕ) (y : Whole es) (short : length es ≤ 1024) (before : List ℕ) (h : 9219 ≤ length before) where
  has_room : with_bytes (length before) (tree_at es) ≡ accepted (tree_at es)
  has_room = enough (λ t. 3 + 18 * nodes t) (length before) refl (omega (arith, exact_length es (tree_at es) y))

  pub tree_laid : (w : ℕ) (after : List ℕ) → after ≡ lent_after (frame w) (with_bytes (length before) (tree_at es)) before → Laid before after (frame w (tree_at es))
  tree_laid w after l = record { is = l ∙ ap (λ (o : Outcome Expr). lent_after (frame w) o before) has_room }

  module _ (r : Result ℕ Refusal) (a : outcome r ≡ mapped (λ t. 3 + 18 * nodes t) (with_bytes (length before) (tree_at es))) where
    count : outcome r ≡ accepted (3 + 18 * nodes (tree_at es))
    count = a ∙ ap (mapped (λ t. 3 + 18 * nodes t)) has_room

    pub frame_fits : IsOk r
    frame_fits = go r count
      where
        go : (q : Result ℕ Refusal) → outcome q ≡ accepted (3 + 18 * nodes (tree_at es)) → IsOk q
        go (Ok n) e = refl
        go (Err q) e = absurd (no_answer e)

    module _ (n : ℕ) (e : r ≡ Ok n) where
      bytes : n ≡ 3 + 18 * nodes (tree_at es)
      bytes = same_answer (sym (ap outcome e) ∙ count)

      pub frame_count : (w : ℕ) → n ≡ length (frame w (tree_at es))
      frame_count w = bytes ∙ sym (length_frame w (tree_at es))

      pub bytes_fit : (k : ℕ) → k ≤ 102 → Fits w64 (k + n)
      bytes_fit k l = omega (arith, bytes, exact_length es (tree_at es) y)

pub ruleset accepting = (highest_small, before_fits, after_fits, done_printed, tree_laid, frame_fits, frame_count, bytes_fit)
