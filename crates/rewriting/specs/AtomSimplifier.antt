-- atom_simplifier.rs: the fold with its helpers, the local rewrite, the first site, each arm in the Rust's order. Definitions only.
use Rattle.std.specs.Prelude.{Bool, true, false, ◌&&◌, ◌||◌, List, [], ◌∷◌, ℕ, zero, suc, ◌%◌, ◌^◌, eqb, if◌then◌else◌}
use Rattle.std.proofs.Math.Option.{Option, none, some}
use Rattle.arith.specs.Bv.{ones, bvand, bvor, bvxor}
use Rattle.expr.specs.Expr.{Expr, leaf, unary, binary, encode}
use Rattle.expr.specs.declared.kind.Leaf.TheVariants.{Constant, Variable}
use Rattle.expr.specs.declared.kind.Unary.{Unary}
use Rattle.expr.specs.declared.kind.Unary.TheVariants.{Not, Neg, Shr, ZExt, SExt, Trunc}
use Rattle.expr.specs.declared.kind.Binary.{Binary}
use Rattle.expr.specs.declared.kind.Binary.TheVariants.{Add, Mul, And, Or, Xor, Concat}
use Rattle.expr.specs.SameWords.{same_words}
use Rattle.expr.specs.Trees.{same_kind}
use Rattle.expr.specs.Optional.{only_if, map, ◌and_then◌, ◌or_else◌, ◌otherwise◌, ◌equals_some◌}

-- the tree of one constant
abbrev pub constant : ℕ → Expr
constant c = leaf (Constant c)

-- the Not of a tree
abbrev pub not : Expr → Expr
not t = unary Not t

-- ---- the fold's tests of its operands

-- the kind is Not
abbrev pub is_not_kind : Unary → Bool
is_not_kind Not = true
is_not_kind Neg = false
is_not_kind (Shr k) = false
is_not_kind (ZExt n) = false
is_not_kind (SExt n) = false
is_not_kind (Trunc n) = false

-- the tree is a Not
abbrev pub is_not : Expr → Bool
is_not (leaf k) = false
is_not (unary k t) = is_not_kind k
is_not (binary k l r) = false

-- all at the width w of the call. `constant_val` and `same_part` do not depend on it, since the fold compares whole words: they are the two places
-- that say so
module _ (w : ℕ) where
  -- `constant_val`: the word that a Constant holds, not masked to the width
  abbrev pub constant_val : Expr → Option ℕ
  constant_val (leaf (Constant c)) = some c
  constant_val (leaf (Variable i)) = none
  constant_val (unary k t) = none
  constant_val (binary k l r) = none

  -- the Rust's `==` of two trees: the same words, so that two constants with the same value at the width may still differ
  unfoldable pub same_part : Expr → Expr → Bool
  same_part t u = same_words (encode t) (encode u)

  -- the first tree is exactly Not of the second
  unfoldable pub is_not_of : Expr → Expr → Bool
  is_not_of (leaf k) inner = false
  is_not_of (unary k t) inner = is_not_kind k && same_part t inner
  is_not_of (binary k l r) inner = false

  -- `are_complements`: one of the two trees is exactly Not of the other
  unfoldable pub are_complements : Expr → Expr → Bool
  are_complements a b = is_not_of a b || is_not_of b a

  -- `contains_operand`: the first tree is an op-node with the second as one of its two operands
  unfoldable pub contains_operand : Expr → Binary → Expr → Bool
  contains_operand (leaf k) op part = false
  contains_operand (unary k t) op part = false
  contains_operand (binary k l r) op part = same_kind k op && (same_part l part || same_part r part)

-- ---- `try_fold_binary`

-- the kinds that are folded; the local rewrite folds no other
pub data Bitwise : Type 0 where
  and or xor : Bitwise

-- the kind of the node
abbrev pub kind_of : Bitwise → Binary
kind_of and = And
kind_of or = Or
kind_of xor = Xor

-- the kind's operation on two words
abbrev pub word_of : Bitwise → ℕ → ℕ → ℕ
word_of and c d = bvand c d
word_of or c d = bvor c d
word_of xor c d = bvxor c d

module _ (w : ℕ) where
  -- the last arms, for the constants 0 and all ones; the node itself where none of them fits
  unfoldable pub constant_arms : Bitwise → Expr → Expr → Expr
  constant_arms and lhs rhs =
      if (constant_val w rhs equals_some 0) || (constant_val w lhs equals_some 0) then constant 0 else
      if constant_val w rhs equals_some ones w then lhs else
      if constant_val w lhs equals_some ones w then rhs else
      binary And lhs rhs
  constant_arms or lhs rhs =
      if constant_val w rhs equals_some 0 then lhs else
      if constant_val w lhs equals_some 0 then rhs else
      if (constant_val w rhs equals_some ones w) || (constant_val w lhs equals_some ones w) then constant (ones w) else
      binary Or lhs rhs
  constant_arms xor lhs rhs =
      if constant_val w rhs equals_some 0 then lhs else
      if constant_val w lhs equals_some 0 then rhs else
      binary Xor lhs rhs

  -- complements and absorption, and then the last arms
  unfoldable pub arms : Bitwise → Expr → Expr → Expr
  arms and lhs rhs =
      if are_complements w lhs rhs then constant 0 else
      if contains_operand w rhs Or lhs then lhs else
      if contains_operand w lhs Or rhs then rhs else
      constant_arms and lhs rhs
  arms or lhs rhs =
      if are_complements w lhs rhs then constant (ones w) else
      if contains_operand w rhs And lhs then lhs else
      if contains_operand w lhs And rhs then rhs else
      constant_arms or lhs rhs
  arms xor lhs rhs =
      if are_complements w lhs rhs then constant (ones w) else
      constant_arms xor lhs rhs

  -- two constants as one, masked to the width
  abbrev pub folded_word : Bitwise → ℕ → ℕ → ℕ
  folded_word op d c = word_of op d c % 2 ^ w

  -- `reassociate_constant`: of `(x op d) op c`, or `(d op x) op c`, what the fold makes of `x op (d op c)`; d is looked for on the right
  -- first. The Rust calls `try_fold_binary` here: its right operand is then a constant, so that it reassociates with x again or comes to
  -- the arms (FoldLaws, `fold_again`)
  unfoldable pub reassociate_constant : Bitwise → Expr → ℕ → Option Expr
  reassociate_constant op (leaf k) c = none
  reassociate_constant op (unary k t) c = none
  reassociate_constant op (binary k l r) c =
      if same_kind k (kind_of op) then
      (map (λ d. let e = folded_word op d c in reassociate_constant op l e otherwise arms op l (constant e)) (constant_val w r)
      or_else map (λ d. let e = folded_word op d c in reassociate_constant op r e otherwise arms op r (constant e)) (constant_val w l))
      else none

  -- `try_fold_binary`: reassociation with the right operand's constant, then with the left one's, then the arms
  unfoldable pub try_fold_binary : Bitwise → Expr → Expr → Expr
  try_fold_binary op lhs rhs =
      (constant_val w rhs and_then reassociate_constant op lhs or_else constant_val w lhs and_then reassociate_constant op rhs)
      otherwise arms op lhs rhs

-- ---- `local_certifiable_atom_rewrite`

-- De Morgan's laws, for And and Or
abbrev pub de_morgan : Binary → Expr → Expr → Option Expr
de_morgan Add a b = none
de_morgan Mul a b = none
de_morgan And a b = some (binary Or (not a) (not b))
de_morgan Or a b = some (binary And (not a) (not b))
de_morgan Xor a b = none
de_morgan Concat a b = none

-- Not of Not: the grandchild; Not of an And or Or with a Not operand: De Morgan's laws
unfoldable pub not_rewrite : Expr → Option Expr
not_rewrite (leaf k) = none
not_rewrite (unary k t) = only_if (is_not_kind k) t
not_rewrite (binary k a b) = if is_not a || is_not b then de_morgan k a b else none

-- a node with one child: Shr by 0 is its child
unfoldable pub unary_rewrite : Unary → Expr → Option Expr
unary_rewrite Not t = not_rewrite t
unary_rewrite Neg t = none
unary_rewrite (Shr k) t = only_if (eqb k 0) t
unary_rewrite (ZExt n) t = none
unary_rewrite (SExt n) t = none
unary_rewrite (Trunc n) t = none

module _ (w : ℕ) where
  -- the tree u, where it is another than the node
  unfoldable pub unless_same : Expr → Expr → Option Expr
  unless_same node u = if same_part w u node then none else some u

  -- what the fold makes of the node
  unfoldable pub fold_rewrite : Bitwise → Expr → Expr → Option Expr
  fold_rewrite op lhs rhs = unless_same (binary (kind_of op) lhs rhs) (try_fold_binary w op lhs rhs)

  -- a node with two children: equal operands of And or Or are one; And(3, 1) is 1; else the fold's
  unfoldable pub binary_rewrite : Binary → Expr → Expr → Option Expr
  binary_rewrite Add lhs rhs = none
  binary_rewrite Mul lhs rhs = none
  binary_rewrite And lhs rhs =
      if same_part w lhs rhs then some lhs else
      if (constant_val w lhs equals_some 3) && (constant_val w rhs equals_some 1) then some (constant 1) else
      fold_rewrite and lhs rhs
  binary_rewrite Or lhs rhs = if same_part w lhs rhs then some lhs else fold_rewrite or lhs rhs
  binary_rewrite Xor lhs rhs = fold_rewrite xor lhs rhs
  binary_rewrite Concat lhs rhs = none

  -- document 01's local rewrite: what a tree becomes at its root, or none
  unfoldable pub local_rewrite : Expr → Option Expr
  local_rewrite (leaf k) = none
  local_rewrite (unary k t) = unary_rewrite k t
  local_rewrite (binary k l r) = binary_rewrite k l r

-- ---- `find_first_certifiable_atom_rewrite`

-- a site, in document 01's terms a node that has a local rewrite: the path to it from the root, 0 for a node's first child and 1 for its
-- second, and the local rewrite
pub record Site : Type 0 where
  pub path : List ℕ
  pub replacement : Expr

-- the root as a site
abbrev pub here : Expr → Site
here u = record { path = []; replacement = u }

-- a child's site by its path from the parent, where the child has number i
abbrev pub below : ℕ → Site → Site
below i s = record { path = i ∷ s.path; replacement = s.replacement }

module _ (w : ℕ) where
  -- document 01's first site: children before parent, left before right
  unfoldable pub first_site : Expr → Option Site
  first_site (leaf k) = map here (local_rewrite w (leaf k))
  first_site (unary k t) = map (below 0) (first_site t) or_else map here (local_rewrite w (unary k t))
  first_site (binary k l r) =
      map (below 0) (first_site l) or_else
      map (below 1) (first_site r) or_else
      map here (local_rewrite w (binary k l r))

  -- the whole tree after the rewrite at its first site (SiteLaws, `first_is`)
  unfoldable pub first_rewrite : Expr → Option Expr
  first_rewrite (leaf k) = local_rewrite w (leaf k)
  first_rewrite (unary k t) = map (unary k) (first_rewrite t) or_else local_rewrite w (unary k t)
  first_rewrite (binary k l r) =
      map (λ u. binary k u r) (first_rewrite l) or_else
      map (binary k l) (first_rewrite r) or_else
      local_rewrite w (binary k l r)

-- the subtree at the end of a path; none where the tree has no such path. `first_site_lem` of SiteLaws is stated with this and the next
unfoldable pub subtree_at : List ℕ → Expr → Option Expr
subtree_at [] t = some t
subtree_at (i ∷ path) (leaf k) = none
subtree_at (zero ∷ path) (unary k t) = subtree_at path t
subtree_at (suc i ∷ path) (unary k t) = none
subtree_at (zero ∷ path) (binary k l r) = subtree_at path l
subtree_at (suc zero ∷ path) (binary k l r) = subtree_at path r
subtree_at (suc (suc i) ∷ path) (binary k l r) = none

-- the whole tree with a new tree in place of that subtree; none likewise
unfoldable pub replace_at : List ℕ → Expr → Expr → Option Expr
replace_at [] new t = some new
replace_at (i ∷ path) new (leaf k) = none
replace_at (zero ∷ path) new (unary k t) = map (unary k) (replace_at path new t)
replace_at (suc i ∷ path) new (unary k t) = none
replace_at (zero ∷ path) new (binary k l r) = map (λ u. binary k u r) (replace_at path new l)
replace_at (suc zero ∷ path) new (binary k l r) = map (binary k l) (replace_at path new r)
replace_at (suc (suc i) ∷ path) new (binary k l r) = none
