-- The report: what document 01's program prints, as a function of the bytes of its input. Definitions only.
use Rattle.std.specs.Prelude.{List, [], ◌∷◌, ◌++◌, map, ℕ, suc, ◌+◌, ◌-◌, ◌*◌, ◌/◌, max, eqb, length, take, if◌then◌else◌}
use Rattle.expr.specs.Outcome.{Outcome, refused, accepted, mapped, ◌and_then◌}
use Rattle.expr.specs.Expr.{Expr, leaf, unary, binary, nodes}
use Rattle.expr.specs.declared.kind.Leaf.TheVariants.{Constant, Variable}
use Rattle.rewriting.specs.Chain.{last_of, trees_of}
use Rattle.atom_simplifier.specs.Calls.{chain_admitted}
use Rattle.hexadecimal.specs.Hex.{hex_text}
use Rattle.frame.specs.Frame.{frame, line_words}
use Rattle.lines.specs.Lines.{lines_of}
use Rattle.report_lines.specs.declared.Totals.{Totals}

-- ---- what comes of a line

-- document 01's conditions: the highest variable number of the tree plus one, 0 where it has no variable
unfoldable pub conditions_of : Expr → ℕ
conditions_of (leaf (Constant c)) = 0
conditions_of (leaf (Variable i)) = suc i
conditions_of (unary k t) = conditions_of t
conditions_of (binary k l r) = max (conditions_of l) (conditions_of r)

-- an accepted line: its width, its tree, the end tree and the number of rewrites
pub record Done : Type 0 where
  pub width : ℕ
  pub tree : Expr
  pub end : Expr
  pub rewrites : ℕ

-- the chain of a tree: document 01's list of trees, its last one and one fewer than their number
abbrev pub done : ℕ → Expr → Done
done w t = record { width = w; tree = t; end = last_of t (trees_of w t); rewrites = length (trees_of w t) - 1 }

-- the tree of a line's words at its width, or the refusal: 1 to 8, then 9; work for 2,048 nodes and an empty width list
abbrev pub chained : ℕ × List ℕ → Outcome Done
chained (w, ws) = mapped (done w) (chain_admitted ws w [] 4096)

-- what comes of a line, its 0a not counted: 14, or what the chain gives
unfoldable pub outcome_of : List ℕ → Outcome Done
outcome_of line = line_words line and_then chained

-- ---- text

-- numbers in hexadecimal without leading zeros, one space between them, and a line end behind the last
unfoldable pub fields : List ℕ → List ℕ
fields [] = []
fields (n ∷ []) = hex_text n ++ (10 ∷ [])
fields (n ∷ m ∷ ns) = hex_text n ++ (32 ∷ fields (m ∷ ns))

-- line number, refusal, nodes before, nodes after, rewrites, conditions; a refused line has 0 in its last four
abbrev pub row_of : ℕ → Outcome Done → List ℕ
row_of i (refused r) = i ∷ r.number ∷ 0 ∷ 0 ∷ 0 ∷ 0 ∷ []
row_of i (accepted d) = i ∷ 0 ∷ nodes d.tree ∷ nodes d.end ∷ d.rewrites ∷ conditions_of d.tree ∷ []

-- the frame of the end tree, after an accepted line
abbrev pub frame_of : Outcome Done → List ℕ
frame_of (refused r) = []
frame_of (accepted d) = frame d.width d.end

-- what is printed for the line of that number
unfoldable pub text_of : ℕ → Outcome Done → List ℕ
text_of i o = fields (row_of i o) ++ frame_of o

-- what is printed for lines, of which the first has that number
unfoldable pub texts_of : ℕ → List (Outcome Done) → List ℕ
texts_of i [] = []
texts_of i (o ∷ os) = text_of i o ++ texts_of (i + 1) os

-- ---- the closing line

-- a refused line counts one
abbrev pub refused_lines : Outcome Done → ℕ
refused_lines (refused r) = 1
refused_lines (accepted d) = 0

-- the nodes of an accepted line before the chain
abbrev pub nodes_before : Outcome Done → ℕ
nodes_before (refused r) = 0
nodes_before (accepted d) = nodes d.tree

-- and after it
abbrev pub nodes_after : Outcome Done → ℕ
nodes_after (refused r) = 0
nodes_after (accepted d) = nodes d.end

-- the sums over two groups of lines
abbrev pub plus : Totals → Totals → Totals
plus a b = record {
  lines = a.lines + b.lines;
  refused = a.refused + b.refused;
  before = a.before + b.before;
  after = a.after + b.after;
}

-- the sums over no line
abbrev pub no_totals : Totals
no_totals = record { lines = 0; refused = 0; before = 0; after = 0 }

-- the sums over one line
abbrev pub totals_of : Outcome Done → Totals
totals_of o = record { lines = 1; refused = refused_lines o; before = nodes_before o; after = nodes_after o }

-- the sums over several lines
unfoldable pub sums : List (Outcome Done) → Totals
sums [] = no_totals
sums (o ∷ os) = plus (totals_of o) (sums os)

-- the percentage of nodes left, cut down to a whole number; 0 where no line was accepted
unfoldable pub percentage_of : ℕ → ℕ → ℕ
percentage_of before after = if eqb before 0 then 0 else 100 * after / before

-- `=`, lines, refused lines, percentage
unfoldable pub closing : Totals → List ℕ
closing t = 61 ∷ 32 ∷ fields (t.lines ∷ t.refused ∷ percentage_of t.before t.after ∷ [])

-- ---- the report

-- what comes of the lines of bytes: line 65,535 is the last that counts
abbrev pub outcomes : List ℕ → List (Outcome Done)
outcomes bytes = map outcome_of (take 65535 (lines_of bytes))

-- the report of all bytes of an input
unfoldable pub report_of : List ℕ → List ℕ
report_of bytes = texts_of 1 (outcomes bytes) ++ closing (sums (outcomes bytes))
