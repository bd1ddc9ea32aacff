-- atom_identity_rewrite.rs: the matchers, and the candidates of a node in their order. Trees are compared word by word, and a constant with a
-- number under the mask of the width. Definitions only.
use Rattle.std.specs.Prelude.{Bool, true, false, ◌&&◌, ◌||◌, List, [], ◌∷◌, ◌++◌, ℕ, ◌%◌, ◌^◌, eqb, length, if◌then◌else◌}
use Rattle.std.proofs.Math.Bool as bool
use Rattle.std.proofs.Math.Option.{Option, none, some}
use Rattle.expr.specs.Expr.{Expr, leaf, unary, binary, encode}
use Rattle.expr.specs.declared.kind.Leaf.TheVariants.{Constant, Variable}
use Rattle.expr.specs.declared.kind.Unary.{Unary}
use Rattle.expr.specs.declared.kind.Unary.TheVariants.{Not, Neg, Shr, ZExt, SExt, Trunc}
use Rattle.expr.specs.declared.kind.Binary.TheVariants.{Add, Mul, And, Or, Xor}
use Rattle.expr.specs.SameWords.{same_words}
use Rattle.expr.specs.Trees.{operands_of}
use Rattle.expr.specs.Optional.{only_if, map, ◌and_then◌, ◌or_else◌}
use Rattle.rewriting.specs.AtomSimplifier.{not, is_not_kind}
use Rattle.expr.specs.Trees.{same_kind}

-- ---- looking at a node

-- `expr_eq`: the Rust's `==` of two trees
unfoldable pub expr_eq : Expr → Expr → Bool
expr_eq t u = same_words (encode t) (encode u)

-- the operand of a Not
unfoldable pub operand_of_not : Expr → Option Expr
operand_of_not (leaf j) = none
operand_of_not (unary k t) = only_if (is_not_kind k) t
operand_of_not (binary j l r) = none

-- the kind is Neg
abbrev pub is_neg_kind : Unary → Bool
is_neg_kind Not = false
is_neg_kind Neg = true
is_neg_kind (Shr n) = false
is_neg_kind (ZExt n) = false
is_neg_kind (SExt n) = false
is_neg_kind (Trunc n) = false

-- the operand of a Neg
unfoldable pub operand_of_neg : Expr → Option Expr
operand_of_neg (leaf j) = none
operand_of_neg (unary k t) = only_if (is_neg_kind k) t
operand_of_neg (binary j l r) = none

-- `is_not_of`: n is exactly Not of inner
unfoldable pub is_not_of : Expr → Expr → Bool
is_not_of (leaf j) inner = false
is_not_of (unary k t) inner = is_not_kind k && expr_eq t inner
is_not_of (binary j l r) inner = false

-- of two operands the one beside Not of a; the left one is tested first
unfoldable pub beside_not_of : Expr → Expr → Expr → Option Expr
beside_not_of a l r =
    if is_not_of l a then some r else
    if is_not_of r a then some l else
    none

-- `match_binary_add_with_neg`: X and Y of `Neg Y + X` or `X + Neg Y`; the left operand is tested first
unfoldable pub match_binary_add_with_neg : Expr → Option (Expr × Expr)
match_binary_add_with_neg node =
    operands_of Add node and_then λ (l, r). map (λ y. (r, y)) (operand_of_neg l) or_else map (λ y. (l, y)) (operand_of_neg r)

-- ---- tag 1, `match_xor_and_absorb`: `x ^ (x & y)` becomes `x & !y`

-- `xor_absorb_one`: x and the And of x and another tree, either operand of the And being x; the left one is tested first
unfoldable pub xor_absorb_one : Expr → Expr → Option Expr
xor_absorb_one x and_node =
    operands_of And and_node and_then λ (a, b).
    if expr_eq a x then some (binary And x (not b)) else
    if expr_eq b x then some (binary And x (not a)) else
    none

-- either operand of the Xor may be the And
unfoldable pub match_xor_and_absorb : Expr → Option Expr
match_xor_and_absorb node = operands_of Xor node and_then λ (c0, c1). xor_absorb_one c0 c1 or_else xor_absorb_one c1 c0

-- ---- tag 2, `match_xor_via_or_minus_and`: `(a | b) - (a & b)` becomes `a ^ b`; the Rust also takes `(a & b) - (a | b)`

-- `exprs_equal_as_unordered_pair`: the same two trees in either order
unfoldable pub same_unordered_pair : Expr → Expr → Expr → Expr → Bool
same_unordered_pair a b x y = (expr_eq a x && expr_eq b y) || (expr_eq a y && expr_eq b x)

-- of an Or and an And, either of which may be the one under Neg
unfoldable pub xor_of_or_and : Expr → Expr → Option Expr
xor_of_or_and or_side and_side =
    operands_of Or or_side and_then λ (a, b). operands_of And and_side and_then λ (x, y). only_if (same_unordered_pair a b x y) (binary Xor a b)

-- the Rust's `pick_or_and` finds the Or and the And: an Or is no And, so that at most one of the two orders gives a tree
unfoldable pub match_xor_via_or_minus_and : Expr → Option Expr
match_xor_via_or_minus_and node = match_binary_add_with_neg node and_then λ (lhs, rhs). xor_of_or_and lhs rhs or_else xor_of_or_and rhs lhs

-- ---- tag 3, `match_and_via_not_or_minus_not`: `(!a | b) - !a` becomes `a & b`; the Rust also takes `!a - (!a | b)`

-- of an Or and a Not, either of which may be the one under Neg
unfoldable pub and_of_or_not : Expr → Expr → Option Expr
and_of_or_not or_side not_side =
    operands_of Or or_side and_then λ (l, r). operand_of_not not_side and_then λ a. map (binary And a) (beside_not_of a l r)

-- the Rust's `pick_kind` and `pick_other` find the Or and the Not: an Or is no Not, so that at most one of the two orders gives a tree
unfoldable pub match_and_via_not_or_minus_not : Expr → Option Expr
match_and_via_not_or_minus_not node = match_binary_add_with_neg node and_then λ (lhs, rhs). and_of_or_not lhs rhs or_else and_of_or_not rhs lhs

-- ---- the addends of a sum

-- one addend: its tree, and whether it is subtracted
pub record Addend : Type 0 where
  pub expr : Expr
  pub negated : Bool

-- `push_addend`: an Add is gone through, left operand first, a Neg turns the sign, and any other node is one addend
unfoldable pub push_addend : Bool → Expr → List Addend
push_addend negated (leaf k) = record { expr = leaf k; negated = negated } ∷ []
push_addend negated (unary k t) =
    if is_neg_kind k then push_addend (bool.not negated) t else record { expr = unary k t; negated = negated } ∷ []
push_addend negated (binary k l r) =
    if same_kind k Add then push_addend negated l ++ push_addend negated r else record { expr = binary k l r; negated = negated } ∷ []

-- `flatten_addends`: the addends of a tree, which is not subtracted itself
abbrev pub flatten_addends : Expr → List Addend
flatten_addends node = push_addend false node

-- some addend is subtracted
unfoldable pub any_negated : List Addend → Bool
any_negated [] = false
any_negated (a ∷ as') = a.negated || any_negated as'

-- the first addend that f answers, by that answer, and the other addends in their order
unfoldable pub extract : {B : Type 0} → (Addend → Option B) → List Addend → Option (B × List Addend)
extract f [] = none
extract f (a ∷ xs) = map (λ b. (b, xs)) (f a) or_else map (λ p. (p.0, a ∷ p.1)) (extract f xs)

-- the only addend of a list
unfoldable pub only : List Addend → Option Addend
only [] = none
only (a ∷ []) = some a
only (a ∷ b ∷ xs) = none

-- of two addends the tree that is not subtracted, and the one that is
unfoldable pub plus_and_minus : List Addend → Option (Expr × Expr)
plus_and_minus [] = none
plus_and_minus (a ∷ []) = none
plus_and_minus (a ∷ b ∷ []) =
    if bool.not a.negated && b.negated then some (a.expr, b.expr) else
    if a.negated && bool.not b.negated then some (b.expr, a.expr) else
    none
plus_and_minus (a ∷ b ∷ c ∷ xs) = none

-- the operands of an addend that is an Or
abbrev pub as_or : Addend → Option (Expr × Expr)
as_or a = operands_of Or a.expr

-- the tree is a Constant
unfoldable pub is_constant_node : Expr → Bool
is_constant_node (leaf (Constant c)) = true
is_constant_node (leaf (Variable i)) = false
is_constant_node (unary k t) = false
is_constant_node (binary k l r) = false

-- the operands of the Or in a product with a factor that passes the test; the left factor is tested first
unfoldable pub or_in_product : (Expr → Bool) → Expr → Option (Expr × Expr)
or_in_product factor t =
    operands_of Mul t and_then λ (l, r).
    (if factor l then operands_of Or r else none) or_else (if factor r then operands_of Or l else none)

module _ (w : ℕ) where
  -- a Constant that is n under the mask of the width
  unfoldable pub is_masked : ℕ → Expr → Bool
  is_masked n (leaf (Constant c)) = eqb (c % 2 ^ w) n
  is_masked n (leaf (Variable i)) = false
  is_masked n (unary k t) = false
  is_masked n (binary k l r) = false

  -- ---- tag 4, `match_and_via_not_or_plus_a_plus_one`: `(!a | x) + a + 1` becomes `a & x`. Three addends, none subtracted: the first that is 1,
  -- of the others the first that is an Or, and the one that is left

  -- an addend that is 1
  abbrev pub as_one : Addend → Option Expr
  as_one a = only_if (is_masked 1 a.expr) a.expr

  -- the matcher, on the addends of a node
  unfoldable pub match_and_via_not_or_plus_a_plus_one : List Addend → Option Expr
  match_and_via_not_or_plus_a_plus_one addends =
      if bool.not (eqb (length addends) 3) || any_negated addends then none else
      (extract as_one addends and_then λ (one, rest).
      extract as_or rest and_then λ (sides, rest').
      only rest' and_then λ a.
      map (binary And a.expr) (beside_not_of a.expr sides.0 sides.1))

  -- ---- tag 5, `match_xor_via_ornot_flat`: `a - b - 2 * (a | !b) - 2` becomes `a ^ b`. Four addends: the first that is -2, of the others the first
  -- that is -2 times an Or, and of the two that are left one that is subtracted and one that is not. At width 1 no constant is 2 under the mask

  -- an addend that is -2
  abbrev pub as_minus_two : Addend → Option Expr
  as_minus_two a = only_if (a.negated && is_masked 2 a.expr) a.expr

  -- the operands of the Or in an addend that is -2 times an Or
  abbrev pub as_minus_twice_or : Addend → Option (Expr × Expr)
  as_minus_twice_or a = if a.negated then or_in_product (is_masked 2) a.expr else none

  -- the matcher, on the addends of a node
  unfoldable pub match_xor_via_ornot_flat : List Addend → Option Expr
  match_xor_via_ornot_flat addends =
      if bool.not (eqb (length addends) 4) then none else
      (extract as_minus_two addends and_then λ (two, rest).
      extract as_minus_twice_or rest and_then λ (sides, rest').
      plus_and_minus rest' and_then λ (a, b).
      only_if ((expr_eq sides.0 a && is_not_of sides.1 b) || (expr_eq sides.1 a && is_not_of sides.0 b)) (binary Xor a b))

-- ---- tags 6 and 7, for an Add: each Or with a Not among the addends

-- what is there, as a list
abbrev pub to_list : {A : Type 0} → Option A → List A
to_list none = []
to_list (some a) = a ∷ []

-- `match_and_via_ornot_lax`: an addend `!x | y` that is not subtracted gives `x & y`; the left Not first
abbrev pub lax_and_of : Expr × Expr → List Expr
lax_and_of (l, r) = to_list (map (λ x. binary And x r) (operand_of_not l)) ++ to_list (map (λ x. binary And x l) (operand_of_not r))

-- `match_xor_via_ornot_lax`: an addend with `x | !y` gives `x ^ y`; the right Not first
abbrev pub lax_xor_of : Expr × Expr → List Expr
lax_xor_of (l, r) = to_list (map (λ y. binary Xor l y) (operand_of_not r)) ++ to_list (map (λ y. binary Xor r y) (operand_of_not l))

-- f of the operands, where they are there
abbrev pub of_operands : (Expr × Expr → List Expr) → Option (Expr × Expr) → List Expr
of_operands f none = []
of_operands f (some s) = f s

-- what tag 6 offers for an addend
unfoldable pub lax_and : Addend → List Expr
lax_and a = if a.negated then [] else of_operands lax_and_of (operands_of Or a.expr)

-- what tag 7 offers for an addend: the Or may also stand in a product with a Constant, and the addend may be subtracted
unfoldable pub lax_xor : Addend → List Expr
lax_xor a = of_operands lax_xor_of (operands_of Or a.expr or_else or_in_product is_constant_node a.expr)

-- f of each addend, one after the other
unfoldable pub each : (Addend → List Expr) → List Addend → List Expr
each f [] = []
each f (a ∷ xs) = f a ++ each f xs

-- the tree is an Add
unfoldable pub is_add : Expr → Bool
is_add (leaf j) = false
is_add (unary j t) = false
is_add (binary j l r) = same_kind j Add

-- ---- `try_match_all`

-- a candidate, in document 01's terms what a matcher offers for a node: its tree, and its tag, the number of the matcher: 1 absorb, 2 or_minus_and,
-- 3 or-minus-not, 4 plus-one, 5 flat or_not, 6 lax And, 7 lax Xor
pub record Candidate : Type 0 where
  pub tag : ℕ
  pub tree : Expr

-- trees as candidates of one tag
unfoldable pub tagged : ℕ → List Expr → List Candidate
tagged n [] = []
tagged n (t ∷ ts) = record { tag = n; tree = t } ∷ tagged n ts

-- tags 6 and 7, which only an Add has
unfoldable pub lax_candidates : Expr → List Candidate
lax_candidates node =
    if is_add node then tagged 6 (each lax_and (flatten_addends node)) ++ tagged 7 (each lax_xor (flatten_addends node)) else []

-- the candidates of a node at width w, in the order of the Rust's `try_match_all`; the first has number 0
unfoldable pub candidates : ℕ → Expr → List Candidate
candidates w node =
    tagged 1 (to_list (match_xor_and_absorb node))
    ++ (tagged 2 (to_list (match_xor_via_or_minus_and node))
    ++ (tagged 3 (to_list (match_and_via_not_or_minus_not node))
    ++ (tagged 4 (to_list (match_and_via_not_or_plus_a_plus_one w (flatten_addends node)))
    ++ (tagged 5 (to_list (match_xor_via_ornot_flat w (flatten_addends node)))
    ++ lax_candidates node))))

-- ---- what is claimed of a candidate's value

-- something is there
abbrev pub is_there : {A : Type 0} → Option A → Bool
is_there none = false
is_there (some a) = true

-- Or is the operand not under Neg: of an Add with a Neg operand, the other operand is an Or. The claims for tags 2 and 3 go by this
unfoldable pub or_not_under_neg : Expr → Bool
or_not_under_neg node = is_there (match_binary_add_with_neg node and_then λ (x, y). operands_of Or x)
