-- width.rs: the widths of a tree's nodes, and the refusals 10 to 13. Definitions only.
use Rattle.std.specs.Prelude.{Bool, true, false, ◌&&◌, List, ℕ, ◌+◌, leb, ltb, eqb, get_or, if◌then◌else◌}
use Rattle.expr.specs.Refusals.{carrying}
use Rattle.expr.specs.Outcome.{Outcome, refused, accepted, ◌and_then◌}
use Rattle.expr.specs.Expr.{Expr, leaf, unary, binary}
use Rattle.expr.specs.declared.kind.Leaf.TheVariants.{Constant, Variable}
use Rattle.expr.specs.declared.kind.Unary.{Unary}
use Rattle.expr.specs.declared.kind.Unary.TheVariants.{Not, Neg, Shr, ZExt, SExt, Trunc}
use Rattle.expr.specs.declared.kind.Binary.{Binary}
use Rattle.expr.specs.declared.kind.Binary.TheVariants.{Add, Mul, And, Or, Xor, Concat}

-- a width is one of 1 to 64
unfoldable pub supported : ℕ → Bool
supported w = leb 1 w && leb w 64

-- any other is refused with 10, which carries it
unfoldable pub ranged : ℕ → Outcome ℕ
ranged w = if supported w then accepted w else refused (carrying 10 w 0)

-- no refusal
abbrev pub valid : Outcome Unit
valid = accepted tt

-- the width of a node with one child, from the child's: a cast has the width that it holds, whatever its child's is
abbrev pub unary_width : Unary → Outcome ℕ → Outcome ℕ
unary_width Not c = c
unary_width Neg c = c
unary_width (Shr k) c = c
unary_width (ZExt w) c = accepted w
unary_width (SExt w) c = accepted w
unary_width (Trunc w) c = accepted w

-- the width of a node with two, from theirs: a Concat has the sum, and its left child's refusal is first; the others have the left child's
abbrev pub binary_width : Binary → Outcome ℕ → Outcome ℕ → Outcome ℕ
binary_width Add l r = l
binary_width Mul l r = l
binary_width And l r = l
binary_width Or l r = l
binary_width Xor l r = l
binary_width Concat l r = l and_then (λ a. r and_then (λ b. accepted (a + b)))

-- a width, 0 where it is refused
abbrev pub or_zero : Outcome ℕ → ℕ
or_zero (refused r) = 0
or_zero (accepted w) = w

-- the operand rule of a node with one child: an extension is no narrower than its child (12), a truncation no wider (13)
abbrev pub unary_rule : Unary → Outcome ℕ → Outcome Unit
unary_rule Not c = valid
unary_rule Neg c = valid
unary_rule (Shr k) c = valid
unary_rule (ZExt w) c = c and_then (λ b. if ltb w b then refused (carrying 12 w b) else valid)
unary_rule (SExt w) c = c and_then (λ b. if ltb w b then refused (carrying 12 w b) else valid)
unary_rule (Trunc w) c = c and_then (λ b. if ltb b w then refused (carrying 13 w b) else valid)

-- operands of the same width (11)
abbrev pub agree : Outcome ℕ → Outcome ℕ → Outcome Unit
agree l r = l and_then (λ a. r and_then (λ b. if eqb a b then valid else refused (carrying 11 a b)))

-- the operand rule of a node with two children
abbrev pub binary_rule : Binary → Outcome ℕ → Outcome ℕ → Outcome Unit
binary_rule Add l r = agree l r
binary_rule Mul l r = agree l r
binary_rule And l r = agree l r
binary_rule Or l r = agree l r
binary_rule Xor l r = agree l r
binary_rule Concat l r = valid

-- `widths` is document 01's width list, the widths of the variables by their number; a variable past its end has the default width
module _ (widths : List ℕ) (default : ℕ) where
  -- `checked_width_of`: the width of a tree, or 10 at the first node on the way to it whose width is out of range
  unfoldable pub checked_width_of : Expr → Outcome ℕ
  checked_width_of (leaf (Constant c)) = ranged default
  checked_width_of (leaf (Variable i)) = ranged (get_or widths i default)
  checked_width_of (unary k t) = unary_width k (checked_width_of t) and_then ranged
  checked_width_of (binary k l r) = binary_width k (checked_width_of l) (checked_width_of r) and_then ranged

  -- `width_of`: 0 where there is none
  unfoldable pub width_of : Expr → ℕ
  width_of t = or_zero (checked_width_of t)

  -- `validate_widths`: the node's own width, then the children from left to right, then the node's operand rule
  unfoldable pub validate_widths : Expr → Outcome Unit
  validate_widths (leaf k) = checked_width_of (leaf k) and_then (λ w. valid)
  validate_widths (unary k t) = checked_width_of (unary k t) and_then (λ w. validate_widths t and_then (λ v. unary_rule k (checked_width_of t)))
  validate_widths (binary k l r) =
      checked_width_of (binary k l r) and_then (λ w.
      validate_widths l and_then (λ v.
      validate_widths r and_then (λ v'.
      binary_rule k (checked_width_of l) (checked_width_of r))))

-- a kind with one child whose width is its child's
abbrev pub unary_keeps : Unary → Bool
unary_keeps Not = true
unary_keeps Neg = true
unary_keeps (Shr k) = true
unary_keeps (ZExt w) = false
unary_keeps (SExt w) = false
unary_keeps (Trunc w) = false

-- a kind with two children whose width is its left child's
abbrev pub binary_keeps : Binary → Bool
binary_keeps Add = true
binary_keeps Mul = true
binary_keeps And = true
binary_keeps Or = true
binary_keeps Xor = true
binary_keeps Concat = false

-- `is_uniform_width`, a uniform tree: no cast and no Concat, and every variable is w bits wide; here w is the default width too
unfoldable pub is_uniform_width : List ℕ → ℕ → Expr → Bool
is_uniform_width widths w (leaf (Constant c)) = true
is_uniform_width widths w (leaf (Variable i)) = eqb (get_or widths i w) w
is_uniform_width widths w (unary k t) = unary_keeps k && is_uniform_width widths w t
is_uniform_width widths w (binary k l r) = binary_keeps k && (is_uniform_width widths w l && is_uniform_width widths w r)
