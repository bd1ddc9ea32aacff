-- A frame that is written. Assumes nothing.
use Rattle.std.proofs.Common.{◌≡◌, refl, sym, ap, ap₂, ◌∙◌, List, [], ◌∷◌, ◌++◌, append_assoc, ℕ, suc, ◌+◌, ◌-◌, ◌*◌, ◌/◌, ◌≤◌, ◌<◌, min, length, drop, get_or, arith, length-append, drop-cons, Fits, w64}
use Rattle.std.proofs.Math.ListN.{set}
use Rattle.std.proofs.Math.Seq.{set_at}
use borrow.Rule.Slice.PartMut.{put_mid}
use Rattle.expr.specs.declared.refusal.Reason.{Reason}
use Rattle.expr.specs.Refusals.{refusal}
use Rattle.expr.specs.Outcome.{Outcome, refused, accepted, mapped}
use Rattle.expr.specs.OutcomeLaws.{then_accepted, then_refused}
use Rattle.expr.specs.Expr.{Expr, encode, nodes}
use Rattle.expr.specs.Parse.{parse}
use Rattle.expr.specs.Front.{Whole, tree_at}
use Rattle.expr.specs.PartLaws.{exact_length}
use Rattle.expr.specs.Parts.{tail, Laid}
use Rattle.expr.specs.TailLaws.{length_tail}
use Rattle.expr.specs.Lent.{over, lent_after}
use Rattle.expr.specs.LentLaws.{laid_length, laid_on}
use Rattle.width.specs.Checked.{width_of_call}
use Rattle.width.specs.CheckedLaws.{given_width, width_refused, checked_parse, too_little, enough}
use Rattle.hexadecimal.specs.Hex.{digits}
use Rattle.hexadecimal.specs.HexLaws.{length_digits}
use Rattle.hexadecimal.specs.Nodes.{nodes_text}
use Rattle.hexadecimal.specs.NodesLaws.{length_nodes}
use Rattle.frame.specs.Frame.{frame, with_bytes, write_frame}
use Rattle.frame.proofs.ReadLaws.{refusal_answer, refusal_keeps}

-- ---- `put_frame`

-- one place more is written
one_laid : (before after xs : List ℕ) (n x : ℕ) → Laid before after xs → n ≡ length xs → n < length before → Laid before (set after n x) (xs ++ (x ∷ []))
one_laid before after xs n x l e h = record {
  is =
      ap (λ (ys : List ℕ). set ys n x) (l.is ∙ ap (λ (ys : List ℕ). xs ++ ys) (drop-cons before (length xs) 0 (omega arith)))
      ∙ set_at xs (get_or before (length xs) 0) (drop (suc (length xs)) before) x n (sym e)
      ∙ sym (append_assoc xs (x ∷ []) (drop (suc (length xs)) before))
      ∙ ap (λ (i : ℕ). (xs ++ (x ∷ [])) ++ drop i before) (let f : suc (length xs) ≡ length (xs ++ (x ∷ [])) = omega (arith, length-append xs (x ∷ [])) in f);
}

module _ (ws : List ℕ) (x : Whole ws) (n : ℕ) (e : n ≡ nodes (tree_at ws)) where
  half : length ws / 2 ≡ n
  half = omega (arith, e, exact_length ws (tree_at ws) x)

  module _ (short : length ws ≤ 1024) where
    pub nodes_fit : Fits w64 (18 * n)
    nodes_fit = omega (arith, half)

    pub bytes_fit : Fits w64 (2 + 18 * n)
    bytes_fit = omega (arith, half)

  pub no_room : (room : ℕ) → room ≤ 2 + 18 * n → with_bytes room (tree_at ws) ≡ refused (refusal 9)
  no_room room h = too_little (λ t. 3 + 18 * nodes t) room refl (omega (arith, e))

  module _ (before : List ℕ) (h : 2 + 18 * n < length before) where
    has_room : with_bytes (length before) (tree_at ws) ≡ accepted (tree_at ws)
    has_room = enough (λ t. 3 + 18 * nodes t) (length before) refl (omega (arith, e))

    pub put_answer : accepted (2 + 18 * n + 1) ≡ mapped (λ t. 3 + 18 * nodes t) (with_bytes (length before) (tree_at ws))
    put_answer = ap accepted (let m : 2 + 18 * n + 1 ≡ 3 + 18 * nodes (tree_at ws) = omega (arith, e) in m) ∙ sym (ap (mapped (λ t. 3 + 18 * nodes t)) has_room)

    module _ (w : ℕ) (first : List ℕ) (f : first ≡ over (digits (min 2 (length before)) w) before) (rest : List ℕ)
        (g : rest ≡ over (nodes_text (min (length ws / 2) (length (tail 2 first) / 18)) ws) (tail 2 first)) where
      both : List ℕ
      both = digits 2 w ++ nodes_text (nodes (tree_at ws)) (encode (tree_at ws))

      both_long : length both ≡ 2 + 18 * n
      unfolding both
      both_long =
          omega (arith, e, length-append (digits 2 w) (nodes_text (nodes (tree_at ws)) (encode (tree_at ws))), length_digits 2 w, length_nodes (nodes (tree_at ws)) (encode (tree_at ws)))

      both_laid : Laid before (put_mid 2 (length first - 2) first rest) both
      unfolding both
      both_laid =
          let k : Laid before first (digits 2 w) = record { is = f ∙ ap (λ (i : ℕ). over (digits i w) before) (let m : min 2 (length before) ≡ 2 = omega arith in m) } in
          let l : length first ≡ length before = laid_length before first (digits 2 w) k (omega (arith, length_digits 2 w)) in
          let all : min (length ws / 2) (length (tail 2 first) / 18) ≡ nodes (tree_at ws) = omega (arith, e, half, length_tail 2 first, l) in
          laid_on before first (digits 2 w) k 2 (sym (length_digits 2 w)) rest (nodes_text (nodes (tree_at ws)) (encode (tree_at ws)))
          (record { is = g ∙ ap₂ (λ (i : ℕ) (vs : List ℕ). over (nodes_text i vs) (tail 2 first)) all x.words })

      pub put_written : set (put_mid 2 (length first - 2) first rest) (2 + 18 * n) 10 ≡ lent_after (frame w) (with_bytes (length before) (tree_at ws)) before
      unfolding both frame
      put_written =
          (one_laid before (put_mid 2 (length first - 2) first rest) both (2 + 18 * n) 10 both_laid (sym both_long) h).is
          ∙ ap (λ (l : List ℕ). over l before) (append_assoc (digits 2 w) (nodes_text (nodes (tree_at ws)) (encode (tree_at ws))) (10 ∷ []))
          ∙ sym (ap (λ (o : Outcome Expr). lent_after (frame w) o before) has_room)

pub ruleset putting = (refusal_answer, refusal_keeps, nodes_fit, bytes_fit, no_room, put_answer, put_written)

-- ---- `write_frame`

module _ (w : ℕ) (ws : List ℕ) (room : ℕ) where
  pub no_width : (r : Reason) → refused r ≡ width_of_call w → write_frame ws w room ≡ refused r
  unfolding write_frame
  no_width r e = then_refused (sym (width_refused w r e ws)) (with_bytes room)

  module _ (b : ℕ) (e : accepted b ≡ width_of_call w) where
    pub no_tree : (r : Reason) → refused r ≡ parse ws → write_frame ws w room ≡ refused r
    unfolding write_frame
    no_tree r f = then_refused (sym (f ∙ checked_parse w b e ws)) (with_bytes room)

    pub tree_put : (t : Expr) → accepted t ≡ parse ws → write_frame ws w room ≡ with_bytes room t
    unfolding write_frame
    tree_put t f = then_accepted (sym (f ∙ checked_parse w b e ws)) (with_bytes room)

pub ruleset writing = (refusal_answer, refusal_keeps, no_width, no_tree, given_width, tree_put)
