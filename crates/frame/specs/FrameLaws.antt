-- The laws of frames: what is written is read back, and what is read is written back. Assumes nothing.
use Rattle.std.specs.Prelude.{◌≡◌, refl, Bool, true, false, ◌&&◌, List, [], ◌∷◌, ◌++◌, ℕ, zero, suc, ◌+◌, ◌*◌, ◌/◌, ◌%◌, ◌^◌, ◌≤◌, ◌<◌, leb, ltb, eqb, length, take, drop, get_or, if◌then◌else◌}
use Rattle.std.proofs.Common.{sym, ap, ap₂, subst, ◌∙◌, append_assoc, append-nil, zero-add, suc-add, one-add, arith, length-append, length-drop, take-append-drop, take_at, drop_at, take_all, length-take-le, get_or-append-add, lt-ltb, le-ltb, le-leb, eq-eqb, ltb-true, leb-true, leb-false, eqb-true}
use Rattle.std.proofs.Math.ListN.{get_or-append}
use Rattle.std.proofs.lemmas.Bool.{lt-leb}
use Rattle.arith.specs.ChoiceLaws.{both_true}
use Rattle.expr.specs.Refusals.{refusal}
use Rattle.expr.specs.Outcome.{Outcome, refused, accepted, mapped, ◌and_then◌}
use Rattle.expr.specs.OutcomeLaws.{no_answer, same_answer, if_came, else_came, then_accepted, mapped_made, then_came}
use Rattle.expr.specs.Expr.{Expr, leaf, unary, binary, encode, nodes}
use Rattle.expr.specs.ExprLaws.{nodes_pos, length_encode}
use Rattle.expr.specs.KindLaws.{number, operand, kind_back}
use Rattle.expr.specs.Parse.{Kind, none, one, two, kind_at, kinds, parse}
use Rattle.expr.specs.ParseLaws.{parse_sound, parse_encode}
use Rattle.width.specs.Width.{supported}
use Rattle.width.specs.WidthLaws.{supported_is}
use Rattle.width.specs.Checked.{checked}
use Rattle.expr.specs.Room.{room_for, with_words}
use Rattle.width.specs.CheckedLaws.{admitted_sound}
use Rattle.expr.specs.Lent.{lent_after}
use Rattle.hexadecimal.specs.Hex.{digits, all_digits, number_of}
use Rattle.hexadecimal.specs.HexLaws.{all_append, all_take, all_drop, all_digits_lem, length_digits, number_digits, digits_number}
use Rattle.hexadecimal.specs.Nodes.{nodes_text, words_of}
use Rattle.hexadecimal.specs.NodesLaws.{NodeWords, next, length_nodes, length_words, all_nodes, words_nodes, nodes_words}
use Rattle.hexadecimal.specs.NodesLaws as hex
use Rattle.frame.specs.Frame.{frame, nodes_in, line_words, with_places, read_line, unended, framed, read_frame}
use Rattle.frame.specs.declared.Frame.{Frame}

-- ---- how long frames are

pub length_frame : (w : ℕ) (t : Expr) → length (frame w t) ≡ 3 + 18 * nodes t
unfolding frame
length_frame w t = simp (length-append, length_digits, length_nodes) (omega arith)

-- the bytes of so many nodes have so many nodes
pub nodes_in_bytes : (n : ℕ) → 1 ≤ n → n ≤ 512 → nodes_in (2 + 18 * n) ≡ n
unfolding nodes_in
nodes_in_bytes n h k =
    let e : (2 + 18 * n) % 18 ≡ 2 = omega arith in
    rw (le-leb 20 (2 + 18 * n) (omega arith), le-leb (2 + 18 * n) 9218 (omega arith), eq-eqb ((2 + 18 * n) % 18) 2 e) (omega arith)

-- and a length that has nodes is that of their bytes
pub bytes_of_nodes : (m : ℕ) → 1 ≤ nodes_in m → (m ≡ 2 + 18 * nodes_in m) × (nodes_in m ≤ 512)
unfolding nodes_in
bytes_of_nodes m = go (leb 20 m && (leb m 9218 && eqb (m % 18) 2)) refl
  where
    go : (b : Bool) → (leb 20 m && (leb m 9218 && eqb (m % 18) 2)) ≡ b → 1 ≤ (if b then m / 18 else 0)
        → (m ≡ 2 + 18 * (if b then m / 18 else 0)) × ((if b then m / 18 else 0) ≤ 512)
    go true e h =
        let p = both_true (leb 20 m) (leb m 9218 && eqb (m % 18) 2) e in
        let q = both_true (leb m 9218) (eqb (m % 18) 2) p.1 in
        let most = leb-true m 9218 q.0 in
        let rest = eqb-true (m % 18) 2 q.1 in
        (omega arith, omega arith)
    go false e h = absurd (omega arith)

-- ---- lines

-- what an accepted line is: its width is that of the first two digits, and its words are those of the others
pub record Lined (bs : List ℕ) (w : ℕ) (ws : List ℕ) : Type 0 where
  pub some : 1 ≤ nodes_in (length bs)
  pub good : all_digits bs ≡ true
  pub width_is : w ≡ number_of (take 2 bs)
  pub words_are : ws ≡ words_of (nodes_in (length bs)) (drop 2 bs)

-- no other line is accepted
pub line_is : (bs : List ℕ) (w : ℕ) (ws : List ℕ) → line_words bs ≡ accepted (w, ws) → Lined bs w ws
unfolding line_words
line_is bs w ws e =
    let n : ℕ = nodes_in (length bs) in
    let c = if_came (accepted (number_of (take 2 bs), words_of n (drop 2 bs))) (refusal 14) (ltb 0 n && all_digits bs) e in
    let p = both_true (ltb 0 n) (all_digits bs) c.0 in
    let same = same_answer c.1 in
    record { some = ltb-true 0 n p.0; good = p.1; width_is = sym (ap (λ q. q.0) same); words_are = sym (ap (λ q. q.1) same) }

-- and each such line is
pub line_read : (bs : List ℕ) → 1 ≤ nodes_in (length bs) → all_digits bs ≡ true → line_words bs ≡ accepted (number_of (take 2 bs), words_of (nodes_in (length bs)) (drop 2 bs))
unfolding line_words
line_read bs h e = rw (lt-ltb 0 (nodes_in (length bs)) h, e)

too_long : (bs : List ℕ) → 9218 < length bs → line_words bs ≡ refused (refusal 14)
unfolding line_words nodes_in
too_long bs h = rw (le-leb 20 (length bs) (omega arith), lt-leb (length bs) 9218 h)

-- of a line only its first 9,219 bytes count: a longer one is refused for its length
pub line_clip : (bs : List ℕ) → line_words (take 9219 bs) ≡ line_words bs
line_clip bs = go (leb (length bs) 9219) refl
  where
    go : (b : Bool) → leb (length bs) 9219 ≡ b → line_words (take 9219 bs) ≡ line_words bs
    go true e = ap line_words (take_all 9219 bs (leb-true (length bs) 9219 e))
    go false e =
        let h = leb-false (length bs) 9219 e in
        too_long (take 9219 bs) (omega (arith, length-take-le 9219 bs (omega arith))) ∙ sym (too_long bs (omega arith))

-- ---- lines that are read

-- the answer for a width and words
abbrev pub line_frame : ℕ × List ℕ → Frame
line_frame p = record { width = p.0; nodes = length p.1 / 2 }

module _ (line : List ℕ) where
  line_few : (w : ℕ) (ws : List ℕ) → line_words line ≡ accepted (w, ws) → (length ws ≡ 2 * nodes_in (length line)) × (nodes_in (length line) ≤ 512)
  line_few w ws e =
      let l = line_is line w ws e in
      (ap length l.words_are ∙ length_words (nodes_in (length line)) (drop 2 line), (bytes_of_nodes (length line) l.some).1)

  -- 1,024 words have room for every line's
  pub read_roomy : (room : ℕ) → 1024 ≤ room → read_line line room ≡ line_words line
  unfolding read_line with_places
  read_roomy room h = go (line_words line) refl
    where
      go : (o : Outcome (ℕ × List ℕ)) → line_words line ≡ o → (o and_then with_places room) ≡ o
      go (refused r) e = refl
      go (accepted p) e = rw (le-ltb room (length p.1) (omega (arith, line_few p.0 p.1 e)))

  -- what an answer of `read_line` says of the line, and of the words that it leaves
  pub record LineLeft (f : Frame) (after : List ℕ) : Type 0 where
    pub is : line_words line ≡ accepted (f.width, take (2 * f.nodes) after)
    pub few : f.nodes ≤ 512

  module _ (before after : List ℕ) where
    abbrev came : Outcome (ℕ × List ℕ)
    came = read_line line (length before)

    pub line_left : (f : Frame) → accepted f ≡ mapped line_frame came → after ≡ lent_after (λ p. p.1) came before → LineLeft f after
    unfolding read_line with_places
    line_left f e l =
        let m = mapped_made line_frame came e in
        let c = then_came (with_places (length before)) (line_words line) m.was in
        let k = else_came (accepted c.answer) (refusal 9) (ltb (length before) (length c.answer.1)) c.made in
        let was : line_words line ≡ accepted m.answer = c.was ∙ ap accepted (same_answer k.1) in
        let few = line_few m.answer.0 m.answer.1 was in
        let half : length m.answer.1 ≡ 2 * f.nodes = omega (arith, few, ap (λ (g : Frame). g.nodes) m.made) in
        let front : take (2 * f.nodes) after ≡ m.answer.1 =
        ap (take (2 * f.nodes)) (l ∙ ap (λ (o : Outcome (ℕ × List ℕ)). lent_after (λ p. p.1) o before) m.was) ∙ take_at m.answer.1 (drop (length m.answer.1) before) (2 * f.nodes) half in
        record {
          is = was ∙ ap₂ (λ (v : ℕ) (vs : List ℕ). accepted (v, vs)) (ap (λ (g : Frame). g.width) m.made) (sym front);
          few = omega (arith, few, half);
        }

cons_if : (t : Bool) (b : ℕ) (bs cs : List ℕ) → (b ∷ (if t then bs else cs)) ≡ (if t then b ∷ bs else b ∷ cs)
cons_if true b bs cs = refl
cons_if false b bs cs = refl

-- a last byte that is 0a does not count, and any other does
pub unended_last : (bs : List ℕ) (b : ℕ) → unended (bs ++ (b ∷ [])) ≡ (if eqb b 10 then bs else bs ++ (b ∷ []))
unfolding unended
unended_last [] b = refl
unended_last (c ∷ []) b = cons_if (eqb b 10) c [] (b ∷ [])
unended_last (c ∷ d ∷ bs) b = ap (λ (l : List ℕ). c ∷ l) (unended_last (d ∷ bs) b) ∙ cons_if (eqb b 10) c (d ∷ bs) (d ∷ (bs ++ (b ∷ [])))

-- ---- what is accepted

framed_is : (room w : ℕ) (ws : List ℕ) (v : ℕ) (t : Expr) → framed room (w, ws) ≡ accepted (v, t) → (w ≡ v) × (ws ≡ encode t)
unfolding framed
framed_is room w ws v t e =
    let last = then_came (λ u. accepted (w, u)) (checked w ws and_then with_words room) e in
    let same = same_answer last.made in
    let a = admitted_sound _ ws w room last.answer last.was in
    (ap (λ q. q.0) same, a.exact.words ∙ ap (λ q. encode q.1) same)

-- an accepted line is its width and its tree's words
frame_lined : (line : List ℕ) (room w : ℕ) (t : Expr) → read_frame line room ≡ accepted (w, t) → Lined (unended line) w (encode t)
unfolding read_frame
frame_lined line room w t e =
    let c = then_came (framed room) (line_words (unended line)) e in
    let v = c.answer.0 in
    let ws = c.answer.1 in
    let p = framed_is room v ws w t c.made in
    subst (λ (x : ℕ). Lined (unended line) x (encode t)) p.0 (subst (Lined (unended line) v) p.1 (line_is (unended line) v ws c.was))

-- ---- read and written back

-- Writing what was read gives the line's bytes and 0a, whether or not the line had its 0a.
pub write_back : (line : List ℕ) (room w : ℕ) (t : Expr) → read_frame line room ≡ accepted (w, t) → frame w t ≡ unended line ++ (10 ∷ [])
unfolding frame
write_back line room w t e =
    let bs : List ℕ = unended line in
    let l = frame_lined line room w t e in
    let m = bytes_of_nodes (length bs) l.some in
    let n : nodes t ≡ nodes_in (length bs) = omega (arith, length_encode t, ap length l.words_are, length_words (nodes_in (length bs)) (drop 2 bs)) in
    let width : digits 2 w ≡ take 2 bs = ap (digits 2) l.width_is ∙ digits_number (take 2 bs) 2 (length-take-le 2 bs (omega arith)) (all_take bs 2 l.good) in
    let tree : nodes_text (nodes t) (encode t) ≡ drop 2 bs =
    ap₂ nodes_text n l.words_are
    ∙ nodes_words (nodes_in (length bs)) (drop 2 bs) (omega (arith, length-drop 2 bs)) (all_drop bs 2 l.good)
    ∙ take_all (18 * nodes_in (length bs)) (drop 2 bs) (omega (arith, length-drop 2 bs)) in
    rw (width, tree) (sym (append_assoc (take 2 bs) (drop 2 bs) (10 ∷ [])) ∙ ap (λ (l : List ℕ). l ++ (10 ∷ [])) (take-append-drop 2 bs))

-- ---- written and read back

place_within : (k : ℕ) (κs : List Kind) {κ : Kind} → kind_at k κs ≡ accepted κ → k < length κs
unfolding kind_at
place_within k [] e = absurd (no_answer e)
place_within zero (κ ∷ κs) e = omega arith
place_within (suc k) (κ ∷ κs) e = let h = place_within k κs e in omega arith

kind_small : (κ : Kind) → number κ < 256
kind_small κ = let h = place_within (number κ) (kinds (operand κ)) (kind_back κ) in omega arith

join : {m n : ℕ} {xs ys : List ℕ} → NodeWords m xs → NodeWords n ys → NodeWords (m + n) (xs ++ ys)
join {m} {n} {xs} {ys} hex.none q = subst (λ (k : ℕ). NodeWords k ys) (sym (zero-add n)) q
join {m} {n} {xs} {ys} (next {n = i} {k} {o} {ws} h l p) q = subst (λ (j : ℕ). NodeWords j (k ∷ o ∷ (ws ++ ys))) (sym (suc-add i n)) (next h l (join p q))

-- the words of a tree are those of its nodes, where each is one of 64 bits
tree_words : (t : Expr) → ((i : ℕ) → i < length (encode t) → get_or (encode t) i 0 < 2 ^ 64) → NodeWords (nodes t) (encode t)
unfolding encode nodes
tree_words (leaf k) h = next (kind_small (none k)) (h 1 (omega arith)) hex.none
tree_words (unary k t) h =
    subst (λ (n : ℕ). NodeWords n (encode (unary k t))) (sym (one-add (nodes t)))
    (next (kind_small (one k)) (h 1 (omega arith)) (tree_words t (λ i l. h (suc (suc i)) (omega arith))))
tree_words (binary k l r) h =
    let left = tree_words l (λ i p. subst (λ (x : ℕ). x < 2 ^ 64) (get_or-append (encode l) (encode r) 0 i p) (h (suc (suc i)) (omega (arith, length-append (encode l) (encode r))))) in
    let right = tree_words r (λ i p. subst (λ (x : ℕ). x < 2 ^ 64) (get_or-append-add (encode l) (encode r) i 0) (h (suc (suc (length (encode l) + i))) (omega (arith, length-append (encode l) (encode r))))) in
    subst (λ (n : ℕ). NodeWords n (encode (binary k l r))) (let e : suc (nodes l + nodes r) ≡ 1 + nodes l + nodes r = omega arith in e)
    (next (kind_small (two k)) (omega arith) (join left right))

-- Reading the bytes that were written for a tree, 0a included, gives the same width and tree: for each supported width, each tree whose words
-- are accepted and have 64 bits, and each room that holds its words.
pub read_back : (w : ℕ) (ws : List ℕ) (t : Expr) (room : ℕ) → supported w ≡ true → parse ws ≡ accepted t → ((i : ℕ) → i < length ws → get_or ws i 0 < 2 ^ 64) → 2 * nodes t ≤ room
    → read_frame (frame w t) room ≡ accepted (w, t)
unfolding frame read_frame framed checked room_for
read_back w ws t room ok e each fits =
    let a = parse_sound ws t e in
    let valid = a.valid in
    let range = supported_is w ok in
    let A : List ℕ = digits 2 w in
    let N : List ℕ = nodes_text (nodes t) (encode t) in
    let bs : List ℕ = A ++ N in
    let whole : unended (A ++ (N ++ (10 ∷ []))) ≡ bs = ap unended (sym (append_assoc A N (10 ∷ []))) ∙ unended_last bs 10 in
    let len : length bs ≡ 2 + 18 * nodes t = omega (arith, length-append A N, length_digits 2 w, length_nodes (nodes t) (encode t)) in
    let n : nodes_in (length bs) ≡ nodes t = ap nodes_in len ∙ nodes_in_bytes (nodes t) (nodes_pos t) valid.count in
    let good : all_digits bs ≡ true = all_append A N ∙ ap₂ ◌&&◌ (all_digits_lem 2 w) (all_nodes (nodes t) (encode t)) in
    let width : number_of (take 2 bs) ≡ w = ap number_of (take_at A N 2 (length_digits 2 w)) ∙ number_digits 2 w (omega arith) in
    let words : words_of (nodes_in (length bs)) (drop 2 bs) ≡ encode t =
    ap₂ words_of n (drop_at A N 2 (length_digits 2 w) ∙ sym (append-nil N))
    ∙ words_nodes (tree_words t (λ i l. subst (λ (vs : List ℕ). get_or vs i 0 < 2 ^ 64) a.words (each i (subst (λ (vs : List ℕ). i < length vs) (sym a.words) l)))) [] in
    let line : line_words bs ≡ accepted (w, encode t) = line_read bs (omega (arith, nodes_pos t)) good ∙ ap₂ (λ (v : ℕ) (vs : List ℕ). accepted (v, vs)) width words in
    then_accepted (ap line_words whole ∙ line) (framed room)
    ∙ rw (ok, parse_encode t valid, le-ltb room (2 * nodes t) fits)
