-- expr.rs: `Kind` and `Expr`; the words of a tree, its nodes and its depth. Definitions only.
use Rattle.std.specs.Prelude.{List, [], ◌∷◌, ◌++◌, ℕ, ◌+◌, max}
-- the kinds by their number of children are the enums of `kind`; a kind that carries a number holds it
use Rattle.expr.specs.declared.kind.Leaf.{Leaf}
use Rattle.expr.specs.declared.kind.Leaf.TheVariants.{Constant, Variable}
use Rattle.expr.specs.declared.kind.Unary.{Unary}
use Rattle.expr.specs.declared.kind.Unary.TheVariants.{Not, Neg, Shr, ZExt, SExt, Trunc}
use Rattle.expr.specs.declared.kind.Binary.{Binary}
use Rattle.expr.specs.declared.kind.Binary.TheVariants.{Add, Mul, And, Or, Xor, Concat}

-- a tree: each node has as many children as its kind
pub data Expr : Type 0 where
  leaf : Leaf → Expr
  unary : Unary → Expr → Expr
  binary : Binary → Expr → Expr → Expr

-- ---- words

-- document 01's number of a kind: leaves
abbrev pub leaf_number : Leaf → ℕ
leaf_number (Constant c) = 0
leaf_number (Variable i) = 1

-- kinds with two children
abbrev pub binary_number : Binary → ℕ
binary_number Add = 2
binary_number Mul = 3
binary_number And = 4
binary_number Or = 5
binary_number Xor = 6
binary_number Concat = 13

-- kinds with one child
abbrev pub unary_number : Unary → ℕ
unary_number Not = 7
unary_number Neg = 8
unary_number (Shr k) = 9
unary_number (ZExt w) = 10
unary_number (SExt w) = 11
unary_number (Trunc w) = 12

-- the operand word is the number that the kind holds, 0 where it holds none: leaves
abbrev pub leaf_operand : Leaf → ℕ
leaf_operand (Constant c) = c
leaf_operand (Variable i) = i

-- kinds with one child; a kind with two holds none
abbrev pub unary_operand : Unary → ℕ
unary_operand Not = 0
unary_operand Neg = 0
unary_operand (Shr k) = k
unary_operand (ZExt w) = w
unary_operand (SExt w) = w
unary_operand (Trunc w) = w

-- the words of a tree: kind, operand, then the children's words, left child first
unfoldable pub encode : Expr → List ℕ
encode (leaf k) = leaf_number k ∷ leaf_operand k ∷ []
encode (unary k t) = unary_number k ∷ unary_operand k ∷ encode t
encode (binary k l r) = binary_number k ∷ 0 ∷ (encode l ++ encode r)

-- ---- measures

-- the number of nodes
unfoldable pub nodes : Expr → ℕ
nodes (leaf k) = 1
nodes (unary k t) = 1 + nodes t
nodes (binary k l r) = 1 + nodes l + nodes r

-- the number of levels; a leaf has one
unfoldable pub depth : Expr → ℕ
depth (leaf k) = 1
depth (unary k t) = 1 + depth t
depth (binary k l r) = 1 + max (depth l) (depth r)
