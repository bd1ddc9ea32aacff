-- A tree by its words, and what is asked of a node. Definitions only.
use Rattle.std.specs.Prelude.{Bool, ◌&&◌, ℕ, eqb, Option, Some, None}
use Rattle.std.proofs.Math.Option as option
use Rattle.std.proofs.Math.Option.{none, some}
use Rattle.expr.specs.Expr.{Expr, leaf, unary, binary, unary_number, unary_operand, binary_number}
use Rattle.expr.specs.declared.kind.Leaf.TheVariants.{Constant, Variable}
use Rattle.expr.specs.declared.kind.Unary.{Unary}
use Rattle.expr.specs.declared.kind.Binary.{Binary}
use Rattle.expr.specs.declared.tree.Tree.{Tree}
use Rattle.expr.specs.declared.tree.Node.{Node}
use Rattle.expr.specs.declared.tree.Node.TheVariants as node
use Rattle.expr.specs.Optional.{only_if}
use Rattle.expr.specs.Front.{tree_at}

-- ---- what a node is

-- the two kinds are the same
abbrev pub same_kind : Binary → Binary → Bool
same_kind k j = eqb (binary_number k) (binary_number j)

-- the same of two kinds with one child, and of the numbers that they hold
abbrev pub same_unary : Unary → Unary → Bool
same_unary k j = eqb (unary_number k) (unary_number j) && eqb (unary_operand k) (unary_operand j)

-- the operands of a node of kind k
unfoldable pub operands_of : Binary → Expr → option.Option (Expr × Expr)
operands_of k (leaf j) = none
operands_of k (unary j t) = none
operands_of k (binary j l r) = only_if (same_kind j k) (l, r)

-- the operand of a node of kind k
unfoldable pub operand_of : Unary → Expr → option.Option Expr
operand_of k (leaf j) = none
operand_of k (unary j t) = only_if (same_unary j k) t
operand_of k (binary j l r) = none

-- the word that a Constant holds
abbrev pub constant_of : Expr → option.Option ℕ
constant_of (leaf (Constant c)) = some c
constant_of (leaf (Variable i)) = none
constant_of (unary k t) = none
constant_of (binary k l r) = none

-- ---- what the types stand for

-- the tree of the words
abbrev pub tree_of : Tree → Expr
tree_of t = tree_at t.words.now

-- a node over the trees below it
abbrev pub node_of : Node → Expr
node_of (node.Leaf k) = leaf k
node_of (node.Unary k t) = unary k (tree_of t)
node_of (node.Binary k l r) = binary k (tree_of l) (tree_of r)

abbrev pub optional_tree : Option Tree → option.Option Expr
optional_tree None = none
optional_tree (Some t) = some (tree_of t)

abbrev pub optional_trees : Option (Tree × Tree) → option.Option (Expr × Expr)
optional_trees None = none
optional_trees (Some p) = some (tree_of p.0, tree_of p.1)
