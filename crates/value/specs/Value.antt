-- The value of a tree, which document 01 adds to the Rust: SMT-LIB's bit vectors decide it. Definitions only.
use Rattle.std.specs.Prelude.{Bool, true, ◌&&◌, List, ℕ, ◌%◌, ◌^◌, ltb, length, get_or, if◌then◌else◌}
use Rattle.arith.specs.Bv.{bvadd, bvmul, bvand, bvor, bvxor, bvnot, bvneg, bvlshr}
use Rattle.expr.specs.Refusals.{refusal}
use Rattle.expr.specs.Outcome.{Outcome, refused, accepted, ◌and_then◌}
use Rattle.expr.specs.Expr.{Expr, leaf, unary, binary}
use Rattle.expr.specs.declared.kind.Leaf.TheVariants.{Constant, Variable}
use Rattle.expr.specs.declared.kind.Unary.{Unary}
use Rattle.expr.specs.declared.kind.Unary.TheVariants.{Not, Neg, Shr, ZExt, SExt, Trunc}
use Rattle.expr.specs.declared.kind.Binary.{Binary}
use Rattle.expr.specs.declared.kind.Binary.TheVariants.{Add, Mul, And, Or, Xor, Concat}
use Rattle.width.specs.Width.{is_uniform_width}
use Rattle.width.specs.Checked.{checked}

-- a node with one child at width w, from the child's value; Shr goes by its operand as a number. A cast has no value at one width: no
-- call gives one to a tree that has it, and 0 stands here
abbrev pub unary_value : ℕ → Unary → ℕ → ℕ
unary_value w Not x = bvnot w x
unary_value w Neg x = bvneg w x
unary_value w (Shr k) x = bvlshr w x k
unary_value w (ZExt n) x = 0
unary_value w (SExt n) x = 0
unary_value w (Trunc n) x = 0

-- a node with two children, from their values; a Concat as a cast
abbrev pub binary_value : ℕ → Binary → ℕ → ℕ → ℕ
binary_value w Add x y = bvadd w x y
binary_value w Mul x y = bvmul w x y
binary_value w And x y = bvand x y
binary_value w Or x y = bvor x y
binary_value w Xor x y = bvxor x y
binary_value w Concat x y = 0

-- the value of a tree at width w and a list σ of the variables' words: a leaf's word is taken modulo 2 ^ w. A variable without a word counts as 0
-- here; `value_at` refuses such a tree
unfoldable pub value : ℕ → List ℕ → Expr → ℕ
value w σ (leaf (Constant c)) = c % 2 ^ w
value w σ (leaf (Variable i)) = get_or σ i 0 % 2 ^ w
value w σ (unary k t) = unary_value w k (value w σ t)
value w σ (binary k l r) = binary_value w k (value w σ l) (value w σ r)

-- the list has a word for each variable of the tree: document 01's setting
unfoldable pub is_lent : List ℕ → Expr → Bool
is_lent σ (leaf (Constant c)) = true
is_lent σ (leaf (Variable i)) = ltb i (length σ)
is_lent σ (unary k t) = is_lent σ t
is_lent σ (binary k l r) = is_lent σ l && is_lent σ r

-- 8 where `is_uniform_width` says no
abbrev pub uniform : List ℕ → ℕ → Expr → Outcome Expr
uniform widths w t = if is_uniform_width widths w t then accepted t else refused (refusal 8)

-- document 01's tree of one width, or the first of the refusals 1 to 8, at width w and a width list
unfoldable pub one_width_of : List ℕ → ℕ → List ℕ → Outcome Expr
one_width_of ws w widths = checked w ws and_then uniform widths w

-- the value of a tree of one width; 15 where a variable has no lent word
unfoldable pub value_at : ℕ → List ℕ → Expr → Outcome ℕ
value_at w σ t = if is_lent σ t then accepted (value w σ t) else refused (refusal 15)
