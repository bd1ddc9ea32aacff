-- Frames: document 01's line of lower-case hexadecimal for a tree and a width. Definitions only.
use Rattle.std.specs.Prelude.{◌&&◌, List, [], ◌∷◌, ◌++◌, ℕ, ◌+◌, ◌*◌, ◌/◌, ◌%◌, leb, ltb, eqb, length, take, drop, if◌then◌else◌}
use Rattle.expr.specs.Refusals.{refusal}
use Rattle.expr.specs.Outcome.{Outcome, refused, accepted, ◌and_then◌}
use Rattle.expr.specs.Expr.{Expr, encode, nodes}
use Rattle.width.specs.Checked.{checked}
use Rattle.expr.specs.Room.{room_for, with_words}
use Rattle.hexadecimal.specs.Hex.{digits, all_digits, number_of}
use Rattle.hexadecimal.specs.Nodes.{nodes_text, words_of}

-- ---- writing

-- the frame of a tree at a width: two digits of width, the digits of each node, and byte 0a
unfoldable pub frame : ℕ → Expr → List ℕ
frame w t = digits 2 w ++ (nodes_text (nodes t) (encode t) ++ (10 ∷ []))

-- 9 where so many bytes have no room for the frame
abbrev pub with_bytes : ℕ → Expr → Outcome Expr
with_bytes = room_for (λ t. 3 + 18 * nodes t)

-- `write_frame`: the tree whose frame is written, or the refusal: 1, then 2 to 7, then 9
unfoldable pub write_frame : List ℕ → ℕ → ℕ → Outcome Expr
write_frame ws w room = checked w ws and_then with_bytes room

-- ---- reading

-- how many nodes a line of m bytes has, its 0a not counted: k where m is 2 + 18 × k with k from 1 to 512; 0 where no frame has that length
unfoldable pub nodes_in : ℕ → ℕ
nodes_in m = if leb 20 m && (leb m 9218 && eqb (m % 18) 2) then m / 18 else 0

-- the width and the words that a line stands for, its 0a not counted; 14 where its length is not that of a frame or a byte is no digit
unfoldable pub line_words : List ℕ → Outcome (ℕ × List ℕ)
line_words bs =
    if ltb 0 (nodes_in (length bs)) && all_digits bs
    then accepted (number_of (take 2 bs), words_of (nodes_in (length bs)) (drop 2 bs))
    else refused (refusal 14)

-- 9 where so many places have no room for a line's words
unfoldable pub with_places : ℕ → ℕ × List ℕ → Outcome (ℕ × List ℕ)
with_places room (w, ws) = if ltb room (length ws) then refused (refusal 9) else accepted (w, ws)

-- `read_line`: the width and the words of a line, its 0a not counted, or the refusal: 14, then 9
unfoldable pub read_line : List ℕ → ℕ → Outcome (ℕ × List ℕ)
read_line line room = line_words line and_then with_places room

-- a line without its one final 0a
unfoldable pub unended : List ℕ → List ℕ
unended [] = []
unended (b ∷ []) = if eqb b 10 then [] else b ∷ []
unended (b ∷ c ∷ bs) = b ∷ unended (c ∷ bs)

-- the tree that the words are at that width: 1, then 2 to 7, of which 2 cannot occur, then 9
unfoldable pub framed : ℕ → ℕ × List ℕ → Outcome (ℕ × Expr)
framed room (w, ws) = checked w ws and_then with_words room and_then (λ t. accepted (w, t))

-- `read_frame`: the width and the tree that a line is the frame of, or the refusal: 14 first
unfoldable pub read_frame : List ℕ → ℕ → Outcome (ℕ × Expr)
read_frame line room = line_words (unended line) and_then framed room
