-- expr_utils.rs: the variables of a tree. Definitions only.
use Rattle.std.specs.Prelude.{Bool, true, false, ◌&&◌, ◌||◌}
use Rattle.expr.specs.Expr.{Expr, leaf, unary, binary}
use Rattle.expr.specs.declared.kind.Leaf.TheVariants.{Constant, Variable}

-- the tree has no Variable
unfoldable pub is_constant_subtree : Expr → Bool
is_constant_subtree (leaf (Constant c)) = true
is_constant_subtree (leaf (Variable i)) = false
is_constant_subtree (unary k t) = is_constant_subtree t
is_constant_subtree (binary k l r) = is_constant_subtree l && is_constant_subtree r

-- the tree has a Variable
unfoldable pub has_var_dep_of : Expr → Bool
has_var_dep_of (leaf (Constant c)) = false
has_var_dep_of (leaf (Variable i)) = true
has_var_dep_of (unary k t) = has_var_dep_of t
has_var_dep_of (binary k l r) = has_var_dep_of l || has_var_dep_of r
