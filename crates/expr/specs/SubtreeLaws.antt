-- The parts of a tree, and where their words stand in its words. Assumes nothing.
use Rattle.std.specs.Prelude.{◌≡◌, ℕ, ◌*◌, ◌-◌, ◌<◌, length, drop}
use Rattle.std.proofs.Common.{sym, ap, subst, ◌∙◌, arith, length-append, length-drop, drop_at}
use mathlib.Core.List.{List, [], ◌∷◌, ◌++◌, append_assoc, append-nil}
use Rattle.std.proofs.Math.Decide.{dec_lt}
use Rattle.std.proofs.lemmas.List.{drop-append-le}
use Rattle.expr.specs.Expr.{Expr, leaf, unary, binary, encode, nodes}
use Rattle.expr.specs.declared.kind.Leaf.{Leaf}
use Rattle.expr.specs.declared.kind.Unary.{Unary}
use Rattle.expr.specs.declared.kind.Binary.{Binary}
use Rattle.expr.specs.ExprLaws.{nodes_pos, length_encode, prefix_free}

infix 4 ◌IsIn◌
-- the left tree is the right one or a part of it
pub data ◌IsIn◌ : Expr → Expr → Type 0 where
  itself : {t : Expr} → t IsIn t
  in_child_lem : {k : Unary} {u t : Expr} → u IsIn t → u IsIn unary k t
  in_left : {k : Binary} {u l r : Expr} → u IsIn l → u IsIn binary k l r
  in_right : {k : Binary} {u l r : Expr} → u IsIn r → u IsIn binary k l r

module _ (u : Expr) (back : List ℕ) where
  -- where the words of u stand at an even place of those of t, u is in t, whatever follows
  abbrev Found : Expr → Type 0
  Found t = (front rest : List ℕ) (half : ℕ) → half < nodes t → length front ≡ 2 * half → encode t ++ rest ≡ front ++ (encode u ++ back) → u IsIn t

  found_root : (t : Expr) (rest : List ℕ) → encode t ++ rest ≡ encode u ++ back → u IsIn t
  found_root t rest e = subst (λ (s : Expr). u IsIn s) (sym (prefix_free t u rest back e).0) itself

  found_leaf : (k : Leaf) → Found (leaf k)
  unfolding nodes
  found_leaf k [] rest half h n e = found_root (leaf k) rest e
  found_leaf k (x ∷ front) rest half h n e = absurd (omega arith)

  found_one : (k : Unary) (t : Expr) → Found t → Found (unary k t)
  unfolding encode nodes
  found_one k t f [] rest half h n e = found_root (unary k t) rest e
  found_one k t f (x ∷ []) rest half h n e = absurd (omega arith)
  found_one k t f (x ∷ y ∷ front) rest half h n e = in_child_lem (f front rest (half - 1) (omega arith) (omega arith) (cc))

  found_two : (k : Binary) (l r : Expr) → Found l → Found r → Found (binary k l r)
  unfolding encode nodes
  found_two k l r f g [] rest half h n e = found_root (binary k l r) rest e
  found_two k l r f g (x ∷ []) rest half h n e = absurd (omega arith)
  found_two k l r f g (x ∷ y ∷ front) rest half h n e = go (dec_lt (half - 1) (nodes l))
    where
      words : encode l ++ (encode r ++ rest) ≡ front ++ (encode u ++ back)
      words = cc (append_assoc (encode l) (encode r) rest)

      -- the number of words of l
      a : ℕ
      a = 2 * nodes l

      go : Dec (half - 1 < nodes l) → u IsIn binary k l r
      go (yes p) = in_left (f front (encode r ++ rest) (half - 1) p (omega arith) words)
      go (no p) =
          in_right (g (drop a front) rest (half - 1 - nodes l) (omega arith) (omega (arith, length-drop a front))
          (sym (drop_at (encode l) (encode r ++ rest) a (length_encode l)) ∙ ap (drop a) words ∙ drop-append-le a front (encode u ++ back) (omega arith)))

  found : (t : Expr) → Found t
  found (leaf k) = found_leaf k
  found (unary k t) = found_one k t (found t)
  found (binary k l r) = found_two k l r (found l) (found r)

-- an even place of a tree's words is where one of its parts begins
pub even_part : (t u : Expr) (front back : List ℕ) (half : ℕ) → encode t ≡ front ++ (encode u ++ back) → length front ≡ 2 * half → u IsIn t
even_part t u front back half e n =
    found u back t front [] half
    (omega (arith, length_encode t, length_encode u, nodes_pos u, ap length e, length-append front (encode u ++ back), length-append (encode u) back))
    n (append-nil (encode t) ∙ e)
