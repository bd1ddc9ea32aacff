-- A line that is read. Assumes nothing.
use Rattle.std.proofs.Common.{◌≡◌, refl, sym, ap, ap₂, subst, ◌∙◌, Bool, true, false, ◌&&◌, ◌||◌, List, [], ◌∷◌, ◌++◌, ℕ, suc, ◌+◌, ◌-◌, ◌*◌, ◌/◌, ◌%◌, ◌^◌, ◌≤◌, ◌<◌, min, Option, MatchOption, length, take, drop, get_or, arith, length-take, take_all, lt-ltb, le-ltb, le-leb, ne_eqb, leb-true, Fits, w32, w64}
use Rattle.std.specs.Bool.{then_some}
use Rattle.std.specs.Prelude.{replicate}
use Rattle.std.proofs.lemmas.Bool.{lt-leb}
use Rattle.std.proofs.lemmas.List.{length-replicate}
use Rattle.std.proofs.Math.Dec.{leb, ltb, eqb}
use Rattle.std.proofs.Math.Seq.{take-suc}
use Rattle.arith.specs.ChoiceLaws.{both_true}
use Rattle.expr.specs.declared.refusal.Reason.{Reason}
use Rattle.expr.specs.Refusals.{refusal}
use Rattle.expr.specs.Outcome.{Outcome, refused, accepted, mapped}
use Rattle.expr.specs.OutcomeLaws.{then_accepted, then_refused, refused_then}
use Rattle.expr.specs.Expr.{Expr, encode, nodes}
use Rattle.expr.specs.ExprLaws.{length_encode}
use Rattle.expr.specs.Parts.{tail}
use Rattle.expr.specs.TailLaws.{tail_drop, length_tail}
use Rattle.expr.specs.Lent.{over, lent_after}
use Rattle.hexadecimal.specs.declared.Parsed.{Parsed}
use Rattle.hexadecimal.specs.Hex.{digit_of, all_digits, number_of}
use Rattle.hexadecimal.specs.HexLaws.{digit_cases, all_append, number_below, number_whole}
use Rattle.hexadecimal.specs.Nodes.{words_of}
use Rattle.hexadecimal.specs.NodesLaws.{length_words}
use Rattle.frame.specs.Frame.{nodes_in, line_words, with_places, read_line, unended, framed, read_frame}
use Rattle.frame.specs.FrameLaws.{bytes_of_nodes, line_read, read_roomy, line_frame, line_left, unended_last}
use Rattle.width.specs.Checked.{checked, width_of_call}
use Rattle.expr.specs.Room.{with_words}
use Rattle.expr.specs.Parse.{parse}
use Rattle.expr.specs.ParseLaws.{parse_sound}
use Rattle.width.specs.CheckedLaws.{width_refused, checked_parse, too_little, enough}
use Rattle.frame.specs.declared.Frame.{Frame}

-- ---- `nodes_in`

pub nodes_told : (m : ℕ) (r : Option ℕ) → r ≡ then_some (leb 20 m && (leb m 9218 && eqb (m % 18) 2)) (m / 18) → MatchOption r (nodes_in m ≡ 0) (λ n. (n ≡ nodes_in m) × (1 ≤ n))
unfolding nodes_in
nodes_told m r e = subst (λ (o : Option ℕ). MatchOption o (nodes_in m ≡ 0) (λ n. (n ≡ nodes_in m) × (1 ≤ n))) (sym e) (go _ refl)
  where
    go : (b : Bool) → (leb 20 m && (leb m 9218 && eqb (m % 18) 2)) ≡ b → MatchOption (then_some b (m / 18)) (nodes_in m ≡ 0) (λ n. (n ≡ nodes_in m) × (1 ≤ n))
    go true f = (rw f, omega (arith, leb-true 20 m (both_true _ _ f).0))
    go false f = rw f

-- ---- `without_end`

module _ (line : List ℕ) where
  pub no_bytes : length line ≡ 0 → line ≡ unended line
  unfolding unended
  no_bytes = go line
    where
      go : (bs : List ℕ) → length bs ≡ 0 → bs ≡ unended bs
      go [] e = refl
      go (b ∷ bs) e = absurd (omega arith)

  module _ (some : 1 ≤ length line) where
    -- the last byte apart
    ended : line ≡ take (length line - 1) line ++ (get_or line (length line - 1) 0 ∷ [])
    ended =
        let s : suc (length line - 1) ≡ length line = omega (arith, some) in
        sym (take_all (length line) line (omega arith)) ∙ ap (λ (i : ℕ). take i line) (sym s) ∙ take-suc line (length line - 1) 0 (omega arith)

    pub byte_ends : get_or line (length line - 1) 0 ≡ 10 → take (length line - 1) line ≡ unended line
    byte_ends e = sym (ap unended ended ∙ unended_last (take (length line - 1) line) (get_or line (length line - 1) 0) ∙ rw e)

    pub nothing_ends : (get_or line (length line - 1) 0 ≡ 10 → ⊥) → line ≡ unended line
    nothing_ends e =
        sym (ap unended ended ∙ unended_last (take (length line - 1) line) (get_or line (length line - 1) 0) ∙ rw (ne_eqb (get_or line (length line - 1) 0) 10 e) (sym ended))

pub ruleset ending = (no_bytes, byte_ends, nothing_ends)

-- ---- `all_digits`

byte_good : (b : ℕ) → ((leb 48 b && leb b 57) || (leb 97 b && leb b 102)) ≡ ltb (digit_of b) 16
byte_good b =
    digit_cases (λ n. ((leb 48 b && leb b 57) || (leb 97 b && leb b 102)) ≡ ltb n 16) b
    (λ p q. rw (le-leb 48 b p, le-leb b 57 (omega arith), lt-ltb (b - 48) 16 (omega arith)) refl)
    (λ p q. rw (le-leb 48 b (omega arith), lt-leb b 57 (omega arith), le-leb 97 b p, le-leb b 102 (omega arith), lt-ltb (b - 87) 16 (omega arith)) refl)
    (λ p. rw (lt-leb 48 b p, lt-leb 97 b (omega arith)) refl)
    (λ p q. rw (le-leb 48 b (omega arith), lt-leb b 57 (omega arith), lt-leb 97 b q) refl)
    (λ p. rw (le-leb 48 b (omega arith), lt-leb b 57 (omega arith), le-leb 97 b (omega arith), lt-leb b 102 (omega arith)) refl)

pub none_tested : true ≡ all_digits []
unfolding all_digits
none_tested = refl

pub one_tested : (bs : List ℕ) (b : ℕ) (good : Bool) → good ≡ all_digits bs → (good && ((leb 48 b && leb b 57) || (leb 97 b && leb b 102))) ≡ all_digits (bs ++ (b ∷ []))
unfolding all_digits
one_tested bs b good e = ap₂ ◌&&◌ e (byte_good b ∙ sym (and_true (ltb (digit_of b) 16))) ∙ sym (all_append bs (b ∷ []))
  where
    and_true : (p : Bool) → (p && true) ≡ p
    and_true true = refl
    and_true false = refl

-- ---- `read_line`

module _ {A B : Type 0} (o : Outcome A) (r : Reason) (e : o ≡ refused r) where
  pub refusal_answer : (f : A → B) → refused r ≡ mapped f o
  refusal_answer f = sym (ap (mapped f) e)

module _ {A : Type 0} (o : Outcome A) (r : Reason) (e : o ≡ refused r) where
  pub refusal_keeps : (f : A → List ℕ) (before : List ℕ) → before ≡ lent_after f o before
  refusal_keeps f before = sym (ap (λ (p : Outcome A). lent_after f p before) e)

not_lined : (line : List ℕ) (room : ℕ) → (ltb 0 (nodes_in (length line)) && all_digits line) ≡ false → read_line line room ≡ refused (refusal 14)
unfolding read_line line_words
not_lined line room e = rw e

pub no_length : (line : List ℕ) (room : ℕ) → nodes_in (length line) ≡ 0 → read_line line room ≡ refused (refusal 14)
no_length line room e = not_lined line room (rw (le-ltb 0 (nodes_in (length line)) (omega (arith, e))))

module _ (line : List ℕ) (n : ℕ) (h : (n ≡ nodes_in (length line)) × (1 ≤ n)) where
  bytes : (length line ≡ 2 + 18 * n) × (n ≤ 512)
  bytes = let m = bytes_of_nodes (length line) (omega (arith, h)) in (omega (arith, h, m), omega (arith, h, m))

  pub width_there : 2 ≤ length line
  width_there = omega (arith, bytes)

  pub words_fit : Fits w64 (2 * n)
  words_fit = omega (arith, bytes)

  module _ (good : Bool) (g : good ≡ all_digits line) where
    pub bad_digit : good ≡ false → (room : ℕ) → read_line line room ≡ refused (refusal 14)
    bad_digit e room = not_lined line room (rw (lt-ltb 0 (nodes_in (length line)) (omega (arith, h)), sym g ∙ e))

    module _ (e : good ≡ true) where
      lined : (room : ℕ) → read_line line room ≡ with_places room (number_of (take 2 line), words_of n (drop 2 line))
      unfolding read_line
      lined room =
          then_accepted (line_read line (omega (arith, h)) (sym g ∙ e)) (with_places room)
          ∙ ap (λ (i : ℕ). with_places room (number_of (take 2 line), words_of i (drop 2 line))) (sym h.0)

      pub too_few : (room : ℕ) → room < 2 * n → read_line line room ≡ refused (refusal 9)
      unfolding with_places
      too_few room l = lined room ∙ rw (lt-ltb room (length (words_of n (drop 2 line))) (omega (arith, length_words n (drop 2 line))))

      module _ (before : List ℕ) (l : 2 * n ≤ length before) where
        with_room : read_line line (length before) ≡ accepted (number_of (take 2 line), words_of n (drop 2 line))
        unfolding with_places
        with_room = lined (length before) ∙ rw (le-ltb (length before) (length (words_of n (drop 2 line))) (omega (arith, length_words n (drop 2 line))))

        pub words_left : (after : List ℕ) → after ≡ over (words_of (min (length (tail 2 line) / 18) (length before / 2)) (tail 2 line)) before
            → after ≡ lent_after (λ p. p.1) (read_line line (length before)) before
        words_left after m =
            let all : min (length (tail 2 line) / 18) (length before / 2) ≡ n = omega (arith, bytes, length_tail 2 line) in
            m ∙ ap₂ (λ (i : ℕ) (bs : List ℕ). over (words_of i bs) before) all (tail_drop 2 line) ∙ sym (ap (λ (o : Outcome (ℕ × List ℕ)). lent_after (λ p. p.1) o before) with_room)

        module _ (width : Parsed) (f : width ≡ record { value = number_of (take 2 line) % 2 ^ 64; good = all_digits (take 2 line) }) where
          value_is : width.value ≡ number_of (take 2 line)
          value_is = ap (λ (p : Parsed). p.value) f ∙ number_whole (take 2 line) (omega (arith, length-take 2 line))

          pub width_fits : Fits w32 width.value
          width_fits = omega (arith, value_is, number_below (take 2 line) 2 (omega (arith, length-take 2 line)))

          pub line_answer : accepted (record { width = width.value; nodes = n }) ≡ mapped line_frame (read_line line (length before))
          line_answer =
              let half : n ≡ length (words_of n (drop 2 line)) / 2 = omega (arith, length_words n (drop 2 line)) in
              ap₂ (λ (v i : ℕ). accepted (record { width = v; nodes = i })) value_is half ∙ sym (ap (mapped line_frame) with_room)

pub ruleset lining = (refusal_answer, refusal_keeps, no_length, width_there, words_fit, bad_digit, too_few, words_left, width_fits, line_answer)

-- ---- `hand_over`

abbrev at_width : ℕ → Expr → Outcome (ℕ × Expr)
at_width w t = accepted (w, t)

module _ (w : ℕ) (ws : List ℕ) (room : ℕ) where
  not_checked : (r : Reason) → refused r ≡ checked w ws → framed room (w, ws) ≡ refused r
  unfolding framed
  not_checked r e = then_refused (then_refused (sym e) (with_words room)) (at_width w)

  pub width_no : (r : Reason) → refused r ≡ width_of_call w → framed room (w, ws) ≡ refused r
  width_no r e = not_checked r (width_refused w r e ws)

  module _ (b : ℕ) (e : accepted b ≡ width_of_call w) where
    pub words_no : (r : Reason) → refused r ≡ parse ws → framed room (w, ws) ≡ refused r
    words_no r f = not_checked r (f ∙ checked_parse w b e ws)

    module _ (t : Expr) (f : accepted t ≡ parse ws) where
      is_checked : checked w ws ≡ accepted t
      is_checked = sym (f ∙ checked_parse w b e ws)

      is : ws ≡ encode t
      is = (parse_sound ws t (sym f)).words

      pub room_no : room < length ws → framed room (w, ws) ≡ refused (refusal 9)
      unfolding framed
      room_no l = then_refused (too_little (λ u. 2 * nodes u) room is_checked (omega (arith, ap length is, length_encode t))) (at_width w)

      module _ (l : length ws ≤ room) where
        pub handed : framed room (w, ws) ≡ accepted (w, t)
        unfolding framed
        handed = then_accepted (enough (λ u. 2 * nodes u) room is_checked (omega (arith, ap length is, length_encode t))) (at_width w)

        pub copied : (before after : List ℕ) → after ≡ over (take room ws) before → after ≡ lent_after (λ p. encode p.1) (framed room (w, ws)) before
        copied before after m =
            m ∙ ap (λ (vs : List ℕ). over vs before) (take_all room ws l ∙ is) ∙ sym (ap (λ (o : Outcome (ℕ × Expr)). lent_after (λ p. encode p.1) o before) handed)

pub ruleset handing = (refusal_answer, refusal_keeps, width_no, words_no, room_no, handed, copied)

-- ---- `read_frame`

module _ (line bs : List ℕ) (e : bs ≡ unended line) (room : ℕ) where
  -- the words that it reads into
  abbrev own : List ℕ
  own = replicate 1024 0

  -- they have room for every line
  came : read_line bs (length own) ≡ line_words (unended line)
  came = read_roomy bs (length own) (omega (arith, length-replicate {0} {A = ℕ} 1024 0)) ∙ ap line_words e

  pub not_read : (r : Reason) → refused r ≡ mapped line_frame (read_line bs (length own)) → read_frame line room ≡ refused r
  unfolding read_frame
  not_read r f = sym (refused_then line_frame (framed room) (line_words (unended line)) (f ∙ ap (mapped line_frame) came))

  pub was_read : (f : Frame) (after : List ℕ) → accepted f ≡ mapped line_frame (read_line bs (length own)) → after ≡ lent_after (λ p. p.1) (read_line bs (length own)) own
      → read_frame line room ≡ framed room (f.width, take (2 * f.nodes) after)
  unfolding read_frame
  was_read f after h l = then_accepted (ap line_words (sym e) ∙ (line_left bs own after f h l).is) (framed room)

pub ruleset frames = (refusal_answer, refusal_keeps, not_read, was_read)
