-- Words that begin with those of a tree. Private walks over parts of the lent words, in the crates above this one, promise and require
-- it; no public promise names it. Definitions only.
use Rattle.std.specs.Prelude.{◌≡◌, List, ◌++◌, ℕ, T, length}
use Rattle.expr.specs.Outcome.{Outcome, refused, accepted}
use Rattle.expr.specs.Expr.{Expr, leaf, unary, binary, encode}
use Rattle.expr.specs.declared.kind.Leaf.TheVariants.{Constant}
use Rattle.expr.specs.Parse.{operands_ok, subtree}
use Rattle.expr.specs.Parts.{part}

-- the words begin with those of the tree, whose operands are in range
pub record Front (ws : List ℕ) (t : Expr) : Type 0 where
  pub rest : List ℕ
  pub words : ws ≡ encode t ++ rest
  pub operands : T (operands_ok t)

-- the words begin with those of some tree
pub record Starts (ws : List ℕ) : Type 0 where
  pub tree : Expr
  pub front : Front ws tree

-- the tree that the words begin with takes n of them
pub record Spans (ws : List ℕ) (n : ℕ) : Type 0 where
  pub spans : (t : Expr) → Front ws t → n ≡ length (encode t)

-- a walk has read the tree that the words begin with: it takes n of them, and P holds of it
pub record Read (ws : List ℕ) (n : ℕ) (P : Expr → Type 0) : Type 0 where
  pub spans : Spans ws n
  pub holds : (t : Expr) → Front ws t → P t

-- ---- the tree, by its words

-- the tree that was read; the constant 0 where none was
abbrev pub read_tree : Outcome (Expr × List ℕ) → Expr
read_tree (refused r) = leaf (Constant 0)
read_tree (accepted p) = p.0

-- the tree that the words begin with; the constant 0 where they begin with none
unfoldable pub tree_at : List ℕ → Expr
tree_at ws = read_tree (subtree (length ws) ws)

-- the words are exactly those of the tree, whose operands are in range
pub record Exactly (ws : List ℕ) (t : Expr) : Type 0 where
  pub words : ws ≡ encode t
  pub operands : T (operands_ok t)

-- the words are exactly those of a tree
abbrev pub Whole : List ℕ → Type 0
Whole ws = Exactly ws (tree_at ws)

-- the words begin with exactly those of a tree
abbrev pub Leads : List ℕ → Type 0
Leads ws = Exactly (part 0 (length (encode (tree_at ws))) ws) (tree_at ws)

-- a node's first child; the tree itself where it has none
abbrev pub left_of : Expr → Expr
left_of (leaf k) = leaf k
left_of (unary k t) = t
left_of (binary k l r) = l

-- a node's second child; the tree itself where it has none
abbrev pub right_of : Expr → Expr
right_of (leaf k) = leaf k
right_of (unary k t) = unary k t
right_of (binary k l r) = r
