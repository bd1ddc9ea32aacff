-- What the theorems about rewriting count in a tree. Definitions only.
use Rattle.std.specs.Prelude.{ℕ, ◌+◌, eqb, if◌then◌else◌}
use Rattle.expr.specs.Expr.{Expr, leaf, unary, binary}
use Rattle.expr.specs.declared.kind.Leaf.TheVariants.{Constant, Variable}
use Rattle.expr.specs.declared.kind.Unary.{Unary}
use Rattle.expr.specs.declared.kind.Unary.TheVariants.{Not, Neg, Shr, ZExt, SExt, Trunc}
use Rattle.expr.specs.declared.kind.Binary.{Binary}
use Rattle.expr.specs.declared.kind.Binary.TheVariants.{Add, Mul, And, Or, Xor, Concat}

-- an And or an Or counts one
abbrev pub and_or : Binary → ℕ
and_or Add = 0
and_or Mul = 0
and_or And = 1
and_or Or = 1
and_or Xor = 0
and_or Concat = 0

-- the number of And and Or nodes
unfoldable pub and_ors_of : Expr → ℕ
and_ors_of (leaf k) = 0
and_ors_of (unary k t) = and_ors_of t
and_ors_of (binary k l r) = and_or k + and_ors_of l + and_ors_of r

-- the pairs that a node makes with n And and Or nodes below it: a Not makes one with each
abbrev pub pairs : Unary → ℕ → ℕ
pairs Not n = n
pairs Neg n = 0
pairs (Shr k) n = 0
pairs (ZExt w) n = 0
pairs (SExt w) n = 0
pairs (Trunc w) n = 0

-- document 01's D: for each Not, the number of And and Or nodes below it, summed over the tree
unfoldable pub D : Expr → ℕ
D (leaf k) = 0
D (unary k t) = pairs k (and_ors_of t) + D t
D (binary k l r) = D l + D r

-- how often variable i stands in the tree
unfoldable pub occurrences : ℕ → Expr → ℕ
occurrences i (leaf (Constant c)) = 0
occurrences i (leaf (Variable j)) = if eqb i j then 1 else 0
occurrences i (unary k t) = occurrences i t
occurrences i (binary k l r) = occurrences i l + occurrences i r
