-- What the private functions promise one another. No public promise names these. Definitions only.
use Rattle.std.specs.Prelude.{◌≡◌, List, [], ◌∷◌, ◌++◌, ℕ, suc, ◌+◌, ◌-◌, ◌*◌, ◌≤◌, max, eqb, length, take, drop, if◌then◌else◌}
use Rattle.expr.specs.Outcome.{Outcome, refused, accepted}
use Rattle.expr.specs.Front.{Whole, tree_at}
use Rattle.expr.specs.Parts.{Laid}
use Rattle.hexadecimal.specs.Hex.{hex_text}
use Rattle.report_lines.specs.declared.Totals.{Totals}
use Rattle.report_lines.specs.declared.State.{State}
use Rattle.report_lines.specs.declared.line.Accepted.{Accepted}
use Rattle.report_lines.specs.Report.{Done, text_of, plus, totals_of, closing}
use Rattle.report_lines.specs.Steps.{read_on, fed, rest_of}

-- ---- text

-- a number and the byte that ends its field
unfoldable pub field : ℕ → ℕ → List ℕ
field n end = hex_text n ++ (end ∷ [])

-- ---- conditions

-- a node's own: one more than a Variable's number, by kind word and operand word
unfoldable pub own_conditions : ℕ → ℕ → ℕ
own_conditions k o = if eqb k 1 then suc o else 0

-- the highest over the nodes in a list of words
unfoldable pub highest : List ℕ → ℕ
highest [] = 0
highest (k ∷ []) = 0
highest (k ∷ o ∷ ws) = max (own_conditions k o) (highest ws)

-- ---- a line

-- a line with this outcome after lines with these sums: its text is at the front of the output, and the sums have it
pub record Printed (o : Outcome Done) (t : Totals) (before after : List ℕ) (put : ℕ) (t' : Totals) : Type 0 where
  pub text : Laid before after (text_of (t.lines + 1) o)
  pub put_is : put ≡ length (text_of (t.lines + 1) o)
  pub totals_is : t' ≡ plus t (totals_of o)

-- an accepted line by the words of its tree and of its end tree
unfoldable pub done_by : ℕ → List ℕ → List ℕ → ℕ → Done
done_by w ws es rewrites = record { width = w; tree = tree_at ws; end = tree_at es; rewrites = rewrites }

-- an accepted line that was worked out
abbrev pub done_of : Accepted → Done
done_of a = done_by a.width.bits a.tree.words.now a.end.words.now a.rewrites

-- the chain of the words' tree has ended with this answer: the width is supported, and the end tree's words are at the front of the work
unfoldable pub Reaches : Outcome Done → ℕ → List ℕ → List ℕ → Outcome (ℕ × ℕ) → Type 0
Reaches (refused r) w ws work answer = answer ≡ refused r
Reaches (accepted d) w ws work answer =
    (n : ℕ) × (k : ℕ) × (answer ≡ accepted (n, k)) × (d ≡ done_by w ws (take (2 * n) work) k) × Whole ws × Whole (take (2 * n) work)
    × (2 * n ≤ length work) × (2 * n ≤ 1024) × (1 ≤ w) × (w ≤ 64)

pub record Ran (o : Outcome Done) (w : ℕ) (ws work : List ℕ) (answer : Outcome (ℕ × ℕ)) : Type 0 where
  pub reaches : Reaches o w ws work answer

-- ---- the printer

-- a text is put behind the bytes that were put
pub record Adds (text : List ℕ) (put : ℕ) (before : List ℕ) (put' : ℕ) (after : List ℕ) : Type 0 where
  pub laid : Laid before after (take put before ++ text)
  pub put_is : put' ≡ put + length text
  pub fits : put' ≤ length before

-- a line with this outcome after lines with these sums
pub record Prints (o : Outcome Done) (t : Totals) (put : ℕ) (before : List ℕ) (t' : Totals) (put' : ℕ) (after : List ℕ) : Type 0 where
  pub adds : Adds (text_of (t.lines + 1) o) put before put' after
  pub totals_is : t' ≡ plus t (totals_of o)

-- where the input ends with these bytes of a line: what is left of the report but for its closing line, which has room
pub record PrintsLast (line : List ℕ) (t : Totals) (put : ℕ) (before : List ℕ) (t' : Totals) (put' : ℕ) (after : List ℕ) : Type 0 where
  pub text : List ℕ
  pub adds : Adds text put before put' after
  pub is : rest_of t line [] ≡ text ++ closing t'
  pub room : put' + 53 ≤ length before

-- ---- a chunk

abbrev pub state_of : Totals → ℕ → State
state_of t have = record { totals = t; have = have }

-- so many bytes of the chunk are read, what is printed of them is put behind the bytes that were put, and the rest of the step is a step from there
pub record Goes (s : State) (line chunk : List ℕ) (put : ℕ) (before : List ℕ) (used : ℕ) (s' : State) (line' : List ℕ) (put' : ℕ) (after : List ℕ) : Type 0 where
  pub text : List ℕ
  pub step : fed s.totals (take s.have line) (length before - put) chunk ≡ read_on used text (fed s'.totals (take s'.have line') (length after - put') (drop used chunk))
  pub used_most : used ≤ length chunk
  pub adds : Adds text put before put' after
