-- The local rewrite keeps the value, for every tree, width and setting. For a tree with a cast or a Concat this says nothing, since `value`
-- puts 0 there. Assumes nothing.
use Rattle.std.specs.Prelude.{◌≡◌, refl, ◌&&◌, ◌||◌, List, ℕ, ◌%◌, ◌^◌, ◌<◌, T, eqb}
use Rattle.std.proofs.Math.Path.{sym, ap}
use Rattle.std.proofs.Common.{ap₂, ◌∙◌, mod-eq_of_lt, eqb→eq}
use Rattle.std.proofs.Math.Logic.{⊎_elim}
use Rattle.std.proofs.Math.Option.{some}
use Rattle.std.proofs.Math.Nat.{mod-mod, zero-mod}
use Rattle.std.proofs.Math.Pow.{ones_lt}
use Rattle.std.specs.Int.Bits.{and_comm, or_comm, xor_comm, and_self, or_self, and_zero_r, or_zero_r, xor_zero_r, and_mod}
use Rattle.std.proofs.Math.Facts.{and_yes, or_yes}
use Rattle.arith.specs.Bv.{ones, bvand, bvor, bvxor, bvnot}
use Rattle.arith.specs.BvLaws as L
use Rattle.expr.specs.Expr.{Expr, leaf, unary, binary}
use Rattle.expr.specs.declared.kind.Unary.{Unary}
use Rattle.expr.specs.declared.kind.Unary.TheVariants.{Not, Neg, Shr, ZExt, SExt, Trunc}
use Rattle.expr.specs.declared.kind.Binary.{Binary}
use Rattle.expr.specs.declared.kind.Binary.TheVariants.{Add, Mul, And, Or, Xor, Concat}
use Rattle.value.specs.Value.{unary_value, binary_value, value}
use Rattle.value.specs.ValueLaws.{value_lt}
use Rattle.expr.specs.Optional.{◌equals_some◌}
use Rattle.expr.specs.OptionalLaws.{Every, if_case, every_only_if, every_at}
use Rattle.rewriting.specs.AtomSimplifier.{constant, is_not_kind, is_not, constant_val, same_part, is_not_of, are_complements, contains_operand, Bitwise, and, or, xor, kind_of, constant_arms, arms, folded_word, try_fold_binary, de_morgan, not_rewrite, unary_rewrite, unless_same, fold_rewrite, binary_rewrite, local_rewrite}
use Rattle.expr.specs.Trees.{same_kind}
use Rattle.rewriting.specs.TestLaws.{not_kind→eq, same_kind→eq, same_part→eq, not_of→eq, is_some→eq}
use Rattle.rewriting.specs.FoldLaws.{node, Folding, at_fold}

module _ (w : ℕ) (σ : List ℕ) where
  abbrev val : Expr → ℕ
  val t = value w σ t

  lt : (t : Expr) → val t < 2 ^ w
  lt t = value_lt w σ t

  -- u has the value of t
  abbrev Keeps : Expr → Expr → Type 0
  Keeps t u = val u ≡ val t

  -- ---- what a test says of values

  constant_val_lem : (t : Expr) (c : ℕ) → T (constant_val w t equals_some c) → val t ≡ c % 2 ^ w
  unfolding value
  constant_val_lem t c h = ap val (is_some→eq w t c h)

  zero_val : (t : Expr) → T (constant_val w t equals_some 0) → val t ≡ 0
  zero_val t h = constant_val_lem t 0 h ∙ zero-mod (2 ^ w)

  ones_mod : ones w % 2 ^ w ≡ ones w
  ones_mod = mod-eq_of_lt (ones_lt w)

  ones_val : (t : Expr) → T (constant_val w t equals_some ones w) → val t ≡ ones w
  ones_val t h = constant_val_lem t (ones w) h ∙ ones_mod

  complement_val : (a b : Expr) → T (are_complements w a b) → val b ≡ bvnot w (val a)
  unfolding are_complements value
  complement_val a b h =
      ⊎_elim (λ p. sym (ap (bvnot w) (ap val (not_of→eq w a b p)) ∙ L.not_not w (lt b))) (λ p. ap val (not_of→eq w b a p))
      (or_yes (is_not_of w a b) (is_not_of w b a) h)

  -- the operands in either order
  swap_val : (op : Bitwise) (l r : Expr) → val (node op r l) ≡ val (node op l r)
  unfolding value
  swap_val and l r = and_comm (val r) (val l)
  swap_val or l r = or_comm (val r) (val l)
  swap_val xor l r = xor_comm (val r) (val l)

  -- the operand beside the one that was found
  record Beside (op : Bitwise) (whole part : Expr) : Type 0 where
    other : Expr
    is : val whole ≡ val (node op part other)

  contains_val : (op : Bitwise) (whole part : Expr) → T (contains_operand w whole (kind_of op) part) → Beside op whole part
  unfolding contains_operand
  contains_val op (leaf k) part h = absurd h
  contains_val op (unary k t) part h = absurd h
  contains_val op (binary k l r) part h =
      let p = and_yes (same_kind k (kind_of op)) (same_part w l part || same_part w r part) h in
      let e = ap (λ (j : Binary). val (binary j l r)) (same_kind→eq k (kind_of op) p.0) in
      ⊎_elim (λ q. record { other = r; is = e ∙ ap (λ (t : Expr). val (node op t r)) (same_part→eq w l part q) })
      (λ q. record { other = l; is = e ∙ ap (λ (t : Expr). val (node op l t)) (same_part→eq w r part q) ∙ swap_val op part l })
      (or_yes (same_part w l part) (same_part w r part) p.1)

  -- ---- the arms of the fold, for what stands on the right

  module _ (l r : Expr) where
    and_complements : T (are_complements w l r) → Keeps (binary And l r) (constant 0)
    unfolding value
    and_complements h = zero-mod (2 ^ w) ∙ sym (ap (bvand (val l)) (complement_val l r h) ∙ L.and_not w (lt l))

    or_complements : T (are_complements w l r) → Keeps (binary Or l r) (constant (ones w))
    unfolding value
    or_complements h = ones_mod ∙ sym (ap (bvor (val l)) (complement_val l r h) ∙ L.or_not w (lt l))

    xor_complements : T (are_complements w l r) → Keeps (binary Xor l r) (constant (ones w))
    unfolding value
    xor_complements h = ones_mod ∙ sym (ap (bvxor (val l)) (complement_val l r h) ∙ L.xor_not w (lt l))

    and_absorbs : T (contains_operand w r Or l) → Keeps (binary And l r) l
    unfolding value
    and_absorbs h = let b = contains_val or r l h in sym (ap (bvand (val l)) b.is ∙ L.and_or_lem w (lt l) (lt b.other))

    or_absorbs : T (contains_operand w r And l) → Keeps (binary Or l r) l
    unfolding value
    or_absorbs h = let b = contains_val and r l h in sym (ap (bvor (val l)) b.is ∙ L.or_and w (lt l) (lt b.other))

    and_zero : T (constant_val w r equals_some 0) → Keeps (binary And l r) (constant 0)
    unfolding value
    and_zero h = zero-mod (2 ^ w) ∙ sym (ap (bvand (val l)) (zero_val r h) ∙ and_zero_r (val l))

    or_zero_lem : T (constant_val w r equals_some 0) → Keeps (binary Or l r) l
    unfolding value
    or_zero_lem h = sym (ap (bvor (val l)) (zero_val r h) ∙ or_zero_r (val l))

    xor_zero : T (constant_val w r equals_some 0) → Keeps (binary Xor l r) l
    unfolding value
    xor_zero h = sym (ap (bvxor (val l)) (zero_val r h) ∙ xor_zero_r (val l))

    and_ones : T (constant_val w r equals_some ones w) → Keeps (binary And l r) l
    unfolding value
    and_ones h = sym (ap (bvand (val l)) (ones_val r h) ∙ L.and_all w (lt l))

    or_ones : T (constant_val w r equals_some ones w) → Keeps (binary Or l r) (constant (ones w))
    unfolding value
    or_ones h = ones_mod ∙ sym (ap (bvor (val l)) (ones_val r h) ∙ L.or_all w (lt l))

  -- ---- the fold

  arms_keep : (op : Bitwise) (l r : Expr) → Keeps (node op l r) (arms w op l r)
  unfolding arms constant_arms
  arms_keep and l r =
      let K = Keeps (binary And l r) in
      if_case K (are_complements w l r) (and_complements l r)
      (if_case K (contains_operand w r Or l) (and_absorbs l r)
      (if_case K (contains_operand w l Or r) (λ h. and_absorbs r l h ∙ swap_val and l r)
      (if_case K ((constant_val w r equals_some 0) || (constant_val w l equals_some 0))
      (λ h. ⊎_elim (and_zero l r) (λ p. and_zero r l p ∙ swap_val and l r) (or_yes (constant_val w r equals_some 0) (constant_val w l equals_some 0) h))
      (if_case K (constant_val w r equals_some ones w) (and_ones l r)
      (if_case K (constant_val w l equals_some ones w) (λ h. and_ones r l h ∙ swap_val and l r)
      refl)))))
  arms_keep or l r =
      let K = Keeps (binary Or l r) in
      if_case K (are_complements w l r) (or_complements l r)
      (if_case K (contains_operand w r And l) (or_absorbs l r)
      (if_case K (contains_operand w l And r) (λ h. or_absorbs r l h ∙ swap_val or l r)
      (if_case K (constant_val w r equals_some 0) (or_zero_lem l r)
      (if_case K (constant_val w l equals_some 0) (λ h. or_zero_lem r l h ∙ swap_val or l r)
      (if_case K ((constant_val w r equals_some ones w) || (constant_val w l equals_some ones w))
      (λ h. ⊎_elim (or_ones l r) (λ p. or_ones r l p ∙ swap_val or l r) (or_yes (constant_val w r equals_some ones w) (constant_val w l equals_some ones w) h))
      refl)))))
  arms_keep xor l r =
      let K = Keeps (binary Xor l r) in
      if_case K (are_complements w l r) (xor_complements l r)
      (if_case K (constant_val w r equals_some 0) (xor_zero l r)
      (if_case K (constant_val w l equals_some 0) (λ h. xor_zero r l h ∙ swap_val xor l r)
      refl))

  -- two constants as one, which reassociation makes of them
  joined : (op : Bitwise) (x : Expr) (d c : ℕ)
      → val (node op x (constant (folded_word w op d c))) ≡ val (node op (node op x (constant d)) (constant c))
  unfolding value
  joined and x d c = ap (bvand (val x)) (mod-mod (bvand d c) (2 ^ w)) ∙ sym (L.and_consts w d c (lt x))
  joined or x d c = ap (bvor (val x)) (mod-mod (bvor d c) (2 ^ w)) ∙ sym (L.or_consts w d c (lt x))
  joined xor x d c = ap (bvxor (val x)) (mod-mod (bvxor d c) (2 ^ w)) ∙ sym (L.xor_consts w d c (lt x))

  keeps_folding : (op : Bitwise) → Folding w op Keeps Keeps
  unfolding value
  keeps_folding op = record {
    arm = arms_keep op;
    right = λ x d c u h. h ∙ joined op x d c;
    left = λ x d c u h. h ∙ joined op x d c ∙ ap (λ (n : ℕ). binary_value w (kind_of op) n (c % 2 ^ w)) (swap_val op (constant d) x);
    swapped = λ l r u h. h ∙ swap_val op l r;
    weaker = λ t u h. h;
  }

  fold_keeps : (op : Bitwise) (l r : Expr) → Every (Keeps (node op l r)) (fold_rewrite w op l r)
  unfolding fold_rewrite unless_same
  fold_keeps op l r =
      if_case (Every (Keeps (node op l r))) (same_part w (try_fold_binary w op l r) (node op l r)) (λ h. tt)
      (at_fold w op (keeps_folding op) l r)

  -- ---- the local rewrite

  de_morgan_keeps : (k : Binary) (a b : Expr) → Every (Keeps (unary Not (binary k a b))) (de_morgan k a b)
  unfolding value
  de_morgan_keeps Add a b = tt
  de_morgan_keeps Mul a b = tt
  de_morgan_keeps And a b = sym (L.de_morgan_and w (lt a) (lt b))
  de_morgan_keeps Or a b = sym (L.de_morgan_or w (lt a) (lt b))
  de_morgan_keeps Xor a b = tt
  de_morgan_keeps Concat a b = tt

  not_keeps : (t : Expr) → Every (Keeps (unary Not t)) (not_rewrite t)
  unfolding not_rewrite value
  not_keeps (leaf k) = tt
  not_keeps (unary k t) =
      every_only_if (Keeps (unary Not (unary k t))) (is_not_kind k)
      (λ h. sym (ap (λ (j : Unary). bvnot w (unary_value w j (val t))) (not_kind→eq k h) ∙ L.not_not w (lt t)))
  not_keeps (binary k a b) = if_case (Every (Keeps (unary Not (binary k a b)))) (is_not a || is_not b) (λ h. de_morgan_keeps k a b) tt

  unary_keeps_lem : (k : Unary) (t : Expr) → Every (Keeps (unary k t)) (unary_rewrite k t)
  unfolding unary_rewrite value
  unary_keeps_lem Not t = not_keeps t
  unary_keeps_lem Neg t = tt
  unary_keeps_lem (Shr n) t =
      every_only_if (Keeps (unary (Shr n) t)) (eqb n 0)
      (λ h. sym (ap (λ (m : ℕ). unary_value w (Shr m) (val t)) (eqb→eq n 0 h) ∙ L.lshr_none w (lt t)))
  unary_keeps_lem (ZExt n) t = tt
  unary_keeps_lem (SExt n) t = tt
  unary_keeps_lem (Trunc n) t = tt

  binary_keeps_lem : (k : Binary) (l r : Expr) → Every (Keeps (binary k l r)) (binary_rewrite w k l r)
  unfolding binary_rewrite value
  binary_keeps_lem Add l r = tt
  binary_keeps_lem Mul l r = tt
  binary_keeps_lem And l r =
      if_case (Every (Keeps (binary And l r))) (same_part w l r) (λ h. sym (ap (bvand (val l)) (sym (ap val (same_part→eq w l r h))) ∙ and_self (val l)))
      (if_case (Every (Keeps (binary And l r))) ((constant_val w l equals_some 3) && (constant_val w r equals_some 1))
      (λ h. let p = and_yes (constant_val w l equals_some 3) (constant_val w r equals_some 1) h in
      and_mod 3 1 w ∙ sym (ap₂ bvand (constant_val_lem l 3 p.0) (constant_val_lem r 1 p.1)))
      (fold_keeps and l r))
  binary_keeps_lem Or l r =
      if_case (Every (Keeps (binary Or l r))) (same_part w l r) (λ h. sym (ap (bvor (val l)) (sym (ap val (same_part→eq w l r h))) ∙ or_self (val l)))
      (fold_keeps or l r)
  binary_keeps_lem Xor l r = fold_keeps xor l r
  binary_keeps_lem Concat l r = tt

  root_keeps : (t : Expr) → Every (Keeps t) (local_rewrite w t)
  unfolding local_rewrite
  root_keeps (leaf k) = tt
  root_keeps (unary k t) = unary_keeps_lem k t
  root_keeps (binary k l r) = binary_keeps_lem k l r

  pub local_keeps : (t u : Expr) → local_rewrite w t ≡ some u → value w σ u ≡ value w σ t
  local_keeps t u e = every_at (Keeps t) (local_rewrite w t) (root_keeps t) e
