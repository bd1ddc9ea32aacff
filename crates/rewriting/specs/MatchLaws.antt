-- What a matcher of tags 1 to 5 has found, as a relation of its tree and the candidate: the candidate's value and its shape both follow
-- from it. Assumes nothing.
use Rattle.std.specs.Prelude.{◌≡◌, refl, Bool, true, false, ◌&&◌, ◌||◌, ℕ, ◌%◌, ◌^◌, T, eqb, length, if◌then◌else◌}
use Rattle.std.proofs.Common.{sym, ap₂, subst, subst₂, ◌∙◌, ⊎_elim, add_comm, mul_comm, mod-lt, arith, pow_pos, ne_eqb}
use Rattle.std.proofs.Math.Path.{ap}
use Rattle.std.proofs.Math.Bool as bool
use mathlib.Core.List.{List, [], ◌∷◌}
use Rattle.std.proofs.Math.Option.{Option, none, some}
use Rattle.std.proofs.lemmas.Nat.{and_comm, or_comm, xor_comm}
use Rattle.std.proofs.Math.Facts.{and_yes, or_yes, or_no}
use Rattle.expr.specs.Expr.{Expr, leaf, unary, binary, unary_number}
use Rattle.expr.specs.declared.kind.Leaf.TheVariants.{Constant, Variable}
use Rattle.expr.specs.declared.kind.Unary.{Unary}
use Rattle.expr.specs.declared.kind.Unary.TheVariants.{Not, Neg, Shr, ZExt, SExt, Trunc}
use Rattle.expr.specs.declared.kind.Binary.{Binary}
use Rattle.expr.specs.declared.kind.Binary.TheVariants.{Add, Mul, And, Or, Xor, Concat}
use Rattle.expr.specs.SameWordsLaws.{same→tree}
use Rattle.value.specs.Value.{binary_value, value}
use Rattle.expr.specs.Optional.{only_if, map, ◌and_then◌, ◌or_else◌}
use Rattle.expr.specs.OptionalLaws.{then_none, Every, if_case, every_only_if, every_unless, every_or_else, every_at, every_on, every_and_then, every_map_on, every_and_then_on}
use Rattle.rewriting.specs.AtomSimplifier.{not, is_not_kind}
use Rattle.expr.specs.Trees.{same_kind, same_unary, operand_of, operands_of}
use Rattle.rewriting.specs.AtomIdentityRewrite.{expr_eq, operand_of_not, is_neg_kind, operand_of_neg, is_not_of, beside_not_of, match_binary_add_with_neg, xor_absorb_one, match_xor_and_absorb, same_unordered_pair, xor_of_or_and, match_xor_via_or_minus_and, and_of_or_not, match_and_via_not_or_minus_not, Addend, any_negated, extract, only, plus_and_minus, as_or, or_in_product, is_masked, as_one, match_and_via_not_or_plus_a_plus_one, as_minus_two, as_minus_twice_or, match_xor_via_ornot_flat, is_there, or_not_under_neg}
use Rattle.rewriting.specs.TestLaws.{not_kind→eq, same_kind→eq}
use Rattle.rewriting.specs.ShapeLaws.{◌⊑◌, as_it_is, both, swapped, in_turn}

-- ---- each test as the equation that it decides

expr_eq→eq : (t u : Expr) → T (expr_eq t u) → t ≡ u
unfolding expr_eq
expr_eq→eq t u h = same→tree t u h

not_of→eq : (t inner : Expr) → T (is_not_of t inner) → t ≡ not inner
unfolding is_not_of
not_of→eq (leaf k) inner h = absurd h
not_of→eq (unary k t) inner h =
    let p = and_yes (is_not_kind k) (expr_eq t inner) h in
    ap₂ unary (not_kind→eq k p.0) (expr_eq→eq t inner p.1)
not_of→eq (binary k l r) inner h = absurd h

-- by the number of the kind
pub neg_number : (k : Unary) → is_neg_kind k ≡ eqb (unary_number k) 8
neg_number Not = refl
neg_number Neg = refl
neg_number (Shr n) = refl
neg_number (ZExt n) = refl
neg_number (SExt n) = refl
neg_number (Trunc n) = refl

pub neg_kind→eq : (k : Unary) → T (is_neg_kind k) → k ≡ Neg
neg_kind→eq Not h = absurd h
neg_kind→eq Neg h = refl
neg_kind→eq (Shr n) h = absurd h
neg_kind→eq (ZExt n) h = absurd h
neg_kind→eq (SExt n) h = absurd h
neg_kind→eq (Trunc n) h = absurd h

-- the operand of a node of either kind, as `expr` has it
not_unary : (k : Unary) → same_unary k Not ≡ is_not_kind k
not_unary Not = refl
not_unary Neg = refl
not_unary (Shr n) = refl
not_unary (ZExt n) = refl
not_unary (SExt n) = refl
not_unary (Trunc n) = refl

neg_unary : (k : Unary) → same_unary k Neg ≡ is_neg_kind k
neg_unary Not = refl
neg_unary Neg = refl
neg_unary (Shr n) = refl
neg_unary (ZExt n) = refl
neg_unary (SExt n) = refl
neg_unary (Trunc n) = refl

pub not_operand : (t : Expr) → operand_of Not t ≡ operand_of_not t
unfolding operand_of operand_of_not
not_operand (leaf k) = refl
not_operand (unary k t) = ap (λ (b : Bool). only_if b t) (not_unary k)
not_operand (binary k l r) = refl

pub neg_operand : (t : Expr) → operand_of Neg t ≡ operand_of_neg t
unfolding operand_of operand_of_neg
neg_operand (leaf k) = refl
neg_operand (unary k t) = ap (λ (b : Bool). only_if b t) (neg_unary k)
neg_operand (binary k l r) = refl

pub operands : (k : Binary) (t : Expr) → Every (λ p. t ≡ binary k p.0 p.1) (operands_of k t)
unfolding operands_of
operands k (leaf j) = tt
operands k (unary j t) = tt
operands k (binary j l r) = every_only_if _ (same_kind j k) (λ h. ap (λ (i : Binary). binary i l r) (same_kind→eq j k h))

pub operand_not : (t : Expr) → Every (λ u. t ≡ not u) (operand_of_not t)
unfolding operand_of_not
operand_not (leaf j) = tt
operand_not (unary k t) = every_only_if _ (is_not_kind k) (λ h. ap (λ (j : Unary). unary j t) (not_kind→eq k h))
operand_not (binary j l r) = tt

operand_neg : (t : Expr) → Every (λ u. t ≡ unary Neg u) (operand_of_neg t)
unfolding operand_of_neg
operand_neg (leaf j) = tt
operand_neg (unary k t) = every_only_if _ (is_neg_kind k) (λ h. ap (λ (j : Unary). unary j t) (neg_kind→eq k h))
operand_neg (binary j l r) = tt

-- one of two pairs of tests
either_pair : {X : Type 0} (p q r s : Bool) → (T p → T q → X) → (T r → T s → X) → T ((p && q) || (r && s)) → X
either_pair p q r s f g h =
    ⊎_elim (λ k. let c = and_yes p q k in f c.0 c.1) (λ k. let c = and_yes r s k in g c.0 c.1) (or_yes (p && q) (r && s) h)

-- ---- up to the order of operands

infix 4 ◌~◌
-- u is t with the operands of some nodes swapped: it is t cut down, and has its value
pub record ◌~◌ (t u : Expr) : Type 0 where
  pub cut : u ⊑ t
  pub same_value : (w : ℕ) (σ : List ℕ) → value w σ u ≡ value w σ t

swap_value : (w : ℕ) (k : Binary) (x y : ℕ) → binary_value w k y x ≡ binary_value w k x y
swap_value w Add x y = ap (λ (n : ℕ). n % 2 ^ w) (add_comm y x)
swap_value w Mul x y = ap (λ (n : ℕ). n % 2 ^ w) (mul_comm y x)
swap_value w And x y = and_comm y x
swap_value w Or x y = or_comm y x
swap_value w Xor x y = xor_comm y x
swap_value w Concat x y = refl

is : {t u : Expr} → t ≡ u → t ~ u
is {t} e = subst (λ (u : Expr). t ~ u) e (record { cut = as_it_is; same_value = λ w σ. refl })

by_swap : {t l r : Expr} {k : Binary} → t ≡ binary k l r → t ~ binary k r l
unfolding value
by_swap {t} {l} {r} {k} e =
    subst (λ (u : Expr). u ~ binary k r l) (sym e) (record { cut = swapped; same_value = λ w σ. swap_value w k (value w σ l) (value w σ r) })

under : {t l r s : Expr} {k : Binary} → t ~ binary k l r → r ~ s → t ~ binary k l s
unfolding value
under {l = l} {k = k} h g = record {
  cut = in_turn (both as_it_is g.cut) h.cut;
  same_value = λ w σ. ap (binary_value w k (value w σ l)) (g.same_value w σ) ∙ h.same_value w σ;
}

-- ---- tag 1

-- t is `x ^ (x & y)`, and the candidate `x & !y`
pub data Absorbs (t : Expr) : Expr → Type 0 where
  absorbs : {x y : Expr} → t ~ binary Xor x (binary And x y) → Absorbs t (binary And x (not y))

absorbs_one : {t : Expr} (x a : Expr) → t ~ binary Xor x a → Every (Absorbs t) (xor_absorb_one x a)
unfolding xor_absorb_one
absorbs_one {t} x a h =
    every_and_then_on (Absorbs t) _ (operands_of And a) _ (operands And a) (λ (p, q) e.
    if_case (Every (Absorbs t)) (expr_eq p x) (λ g. absorbs (under h (is (e ∙ ap (λ (s : Expr). binary And s q) (expr_eq→eq p x g)))))
    (if_case (Every (Absorbs t)) (expr_eq q x) (λ g. absorbs (under h (by_swap (e ∙ ap (binary And p) (expr_eq→eq q x g)))))
    tt))

pub found_1 : (t : Expr) → Every (Absorbs t) (match_xor_and_absorb t)
unfolding match_xor_and_absorb
found_1 t =
    every_and_then_on (Absorbs t) _ (operands_of Xor t) _ (operands Xor t) (λ (l, r) e.
    every_or_else (Absorbs t) (xor_absorb_one l r) (xor_absorb_one r l) (absorbs_one l r (is e)) (absorbs_one r l (by_swap e)))

-- ---- tags 2 and 3

add_neg : (t : Expr) → Every (λ p. t ~ binary Add p.0 (unary Neg p.1)) (match_binary_add_with_neg t)
unfolding match_binary_add_with_neg
add_neg t =
    every_and_then_on _ _ (operands_of Add t) _ (operands Add t) (λ (l, r) e.
    every_or_else _ (map (λ y. (r, y)) (operand_of_neg l)) (map (λ y. (l, y)) (operand_of_neg r))
    (every_map_on _ _ (operand_of_neg l) (operand_neg l) (λ y f. by_swap (e ∙ ap (λ (s : Expr). binary Add s r) f)))
    (every_map_on _ _ (operand_of_neg r) (operand_neg r) (λ y f. is (e ∙ ap (binary Add l) f))))

-- `(a | b) - (a & b)` and `a ^ b`, or `(!a | x) - !a` and `a & x`; of the two operands only the first is an Or
pub data Minus : Expr → Expr → Expr → Type 0 where
  or_and : {a b x y : Expr} → binary And x y ~ binary And a b → Minus (binary Or a b) (binary And x y) (binary Xor a b)
  or_not : {l r a x : Expr} → binary Or l r ~ binary Or (not a) x → Minus (binary Or l r) (not a) (binary And a x)

either_order : (a b x y : Expr) → T (same_unordered_pair a b x y) → binary And x y ~ binary And a b
unfolding same_unordered_pair
either_order a b x y =
    either_pair (expr_eq a x) (expr_eq b y) (expr_eq a y) (expr_eq b x)
    (λ p q. is (sym (ap₂ (binary And) (expr_eq→eq a x p) (expr_eq→eq b y q))))
    (λ p q. by_swap (sym (ap₂ (binary And) (expr_eq→eq b x q) (expr_eq→eq a y p))))

xor_minus : (o n : Expr) → Every (Minus o n) (xor_of_or_and o n)
unfolding xor_of_or_and
xor_minus o n =
    every_and_then_on (Minus o n) _ (operands_of Or o) _ (operands Or o) (λ (a, b) e.
    every_and_then_on (Minus o n) _ (operands_of And n) _ (operands And n) (λ (x, y) f.
    every_only_if (Minus o n) (same_unordered_pair a b x y) (λ h.
    subst₂ (λ (s u : Expr). Minus s u (binary Xor a b)) (sym e) (sym f) (or_and (either_order a b x y h)))))

beside_not : (a l r : Expr) → Every (λ x. binary Or l r ~ binary Or (not a) x) (beside_not_of a l r)
unfolding beside_not_of
beside_not a l r =
    let E = Every (λ x. binary Or l r ~ binary Or (not a) x) in
    if_case E (is_not_of l a) (λ h. is (ap (λ (s : Expr). binary Or s r) (not_of→eq l a h)))
    (if_case E (is_not_of r a) (λ h. by_swap (ap (binary Or l) (not_of→eq r a h)))
    tt)

and_minus : (o n : Expr) → Every (Minus o n) (and_of_or_not o n)
unfolding and_of_or_not
and_minus o n =
    every_and_then_on (Minus o n) _ (operands_of Or o) _ (operands Or o) (λ (l, r) e.
    every_and_then_on (Minus o n) _ (operand_of_not n) _ (operand_not n) (λ a f.
    every_map_on (Minus o n) _ (beside_not_of a l r) (beside_not a l r) (λ x h.
    subst₂ (λ (s u : Expr). Minus s u (binary And a x)) (sym e) (sym f) (or_not h))))

-- t is x - y, and u is x - y or y - x
pub data Differs (t u : Expr) : Type 0 where
  or_first : {x y : Expr} → or_not_under_neg t ≡ true → t ~ binary Add x (unary Neg y) → Minus x y u → Differs t u
  or_second : {x y : Expr} → or_not_under_neg t ≡ false → t ~ binary Add x (unary Neg y) → Minus y x u → Differs t u

or_kinds : {o n u : Expr} → Minus o n u → (is_there (operands_of Or o) ≡ true) × (is_there (operands_of Or n) ≡ false)
unfolding operands_of
or_kinds (or_and h) = (refl, refl)
or_kinds (or_not h) = (refl, refl)

module _ (t : Expr) where
  or_kind : {x y : Expr} → match_binary_add_with_neg t ≡ some (x, y) → or_not_under_neg t ≡ is_there (operands_of Or x)
  unfolding or_not_under_neg
  or_kind e = ap (λ (o : Option (Expr × Expr)). is_there (o and_then λ (x, y). operands_of Or x)) e

  both_orders : (f : Expr → Expr → Option Expr) → ((o n : Expr) → Every (Minus o n) (f o n))
      → Every (Differs t) (match_binary_add_with_neg t and_then λ (x, y). f x y or_else f y x)
  both_orders f h =
      every_and_then (Differs t) (match_binary_add_with_neg t) _ (λ (x, y) e.
      let c = every_at _ (match_binary_add_with_neg t) (add_neg t) e in
      every_or_else (Differs t) (f x y) (f y x)
      (every_on (Minus x y) (Differs t) (f x y) (λ u m. or_first (or_kind e ∙ (or_kinds m).0) c m) (h x y))
      (every_on (Minus y x) (Differs t) (f y x) (λ u m. or_second (or_kind e ∙ (or_kinds m).1) c m) (h y x)))

  pub found_2 : Every (Differs t) (match_xor_via_or_minus_and t)
  unfolding match_xor_via_or_minus_and
  found_2 = both_orders xor_of_or_and xor_minus

  pub found_3 : Every (Differs t) (match_and_via_not_or_minus_not t)
  unfolding match_and_via_not_or_minus_not
  found_3 = both_orders and_of_or_not and_minus

-- ---- addends

-- the last list is the one before it with a put in
pub data Insert (a : Addend) : List Addend → List Addend → Type 0 where
  here : {xs : List Addend} → Insert a xs (a ∷ xs)
  there : {b : Addend} {xs ys : List Addend} → Insert a ys xs → Insert a (b ∷ ys) (b ∷ xs)

-- an addend of xs of which Q holds, beside the others
record Took (Q : Addend → Type 0) (xs ys : List Addend) : Type 0 where
  addend : Addend
  has : Q addend
  put : Insert addend ys xs

took : {B : Type 0} (Q : B → Addend → Type 0) (f : Addend → Option B) → ((a : Addend) → Every (λ b. Q b a) (f a))
    → (xs : List Addend) → Every (λ p. Took (Q p.0) xs p.1) (extract f xs)
unfolding extract
took Q f h [] = tt
took Q f h (a ∷ xs) =
    every_or_else _ (map (λ b. (b, xs)) (f a)) (map (λ p. (p.0, a ∷ p.1)) (extract f xs))
    (every_map_on _ _ (f a) (h a) (λ b q. record { addend = a; has = q; put = here }))
    (every_map_on _ _ (extract f xs) (took Q f h xs) (λ p k. record { addend = k.addend; has = k.has; put = there k.put }))

passed : (b : Bool) (t : Expr) → Every (λ u. T b) (only_if b t)
passed b t = every_only_if (λ u. T b) b (λ h. h)

the_only : (xs : List Addend) → Every (λ a. xs ≡ a ∷ []) (only xs)
unfolding only
the_only [] = tt
the_only (a ∷ []) = refl
the_only (a ∷ b ∷ xs) = tt

-- t is the product of `l | r` and a factor of that kind
pub data Product (factor : Expr → Bool) (t l r : Expr) : Type 0 where
  product : {c : Expr} → T (factor c) → t ~ binary Mul c (binary Or l r) → Product factor t l r

pub or_in_product_lem : (factor : Expr → Bool) (t : Expr) → Every (λ s. Product factor t s.0 s.1) (or_in_product factor t)
unfolding or_in_product
or_in_product_lem factor t =
    let P : Expr × Expr → Type 0 = λ (l, r). Product factor t l r in
    every_and_then_on P _ (operands_of Mul t) _ (operands Mul t) (λ (l, r) e.
    every_or_else P (if factor l then operands_of Or r else none) (if factor r then operands_of Or l else none)
    (if_case (Every P) (factor l)
    (λ h. every_on _ P (operands_of Or r) (λ s f. product h (is (e ∙ ap (binary Mul l) f))) (operands Or r)) tt)
    (if_case (Every P) (factor r)
    (λ h. every_on _ P (operands_of Or l) (λ s f. product h (by_swap (e ∙ ap (λ (u : Expr). binary Mul u r) f))) (operands Or l)) tt))

product_on : {factor : Expr → Bool} {t l r a b : Expr} → Product factor t l r → binary Or l r ~ binary Or a b → Product factor t a b
product_on (product h g) e = product h (under g e)

with_not : (l r a b : Expr) → T ((expr_eq l a && is_not_of r b) || (expr_eq r a && is_not_of l b)) → binary Or l r ~ binary Or a (not b)
with_not l r a b =
    either_pair (expr_eq l a) (is_not_of r b) (expr_eq r a) (is_not_of l b)
    (λ p q. is (ap₂ (binary Or) (expr_eq→eq l a p) (not_of→eq r b q)))
    (λ p q. by_swap (ap₂ (binary Or) (not_of→eq l b q) (expr_eq→eq r a p)))

-- ---- tags 4 and 5

module _ (w : ℕ) where
  -- -2 times an Or with these operands
  abbrev pub MinusTwice : Expr × Expr → Addend → Type 0
  MinusTwice (l, r) a = T a.negated × Product (is_masked w 2) a.expr l r

  minus_twice : (a : Addend) → Every (λ s. MinusTwice s a) (as_minus_twice_or w a)
  minus_twice a =
      if_case (Every (λ s. MinusTwice s a)) a.negated
      (λ n. every_on _ (λ s. MinusTwice s a) (or_in_product (is_masked w 2) a.expr) (λ s h. (n, h)) (or_in_product_lem (is_masked w 2) a.expr)) tt

  module _ (xs : List Addend) where
    -- three addends: 1, `!a | x` and a; the candidate is `a & x`
    pub data PlusOne : Expr → Type 0 where
      plus_one : {one o a : Addend} {ys : List Addend} {x : Expr} → T (bool.not (any_negated xs)) → T (is_masked w 1 one.expr) → Insert one ys xs
          → o.expr ~ binary Or (not a.expr) x → Insert o (a ∷ []) ys → PlusOne (binary And a.expr x)

    pub found_4 : Every PlusOne (match_and_via_not_or_plus_a_plus_one w xs)
    unfolding match_and_via_not_or_plus_a_plus_one
    found_4 =
        every_unless PlusOne (bool.not (eqb (length xs) 3) || any_negated xs) _ (λ n.
        every_and_then_on PlusOne _ (extract (as_one w) xs) _ (took _ (as_one w) (λ b. passed (is_masked w 1 b.expr) b.expr) xs) (λ (one, ys) p.
        every_and_then_on PlusOne _ (extract as_or ys) _ (took _ as_or (λ b. operands Or b.expr) ys) (λ ((l, r), zs) q.
        every_and_then_on PlusOne _ (only zs) _ (the_only zs) (λ a e.
        every_map_on PlusOne _ (beside_not_of a.expr l r) (beside_not a.expr l r) (λ x h.
        plus_one (or_no (bool.not (eqb (length xs) 3)) (any_negated xs) n).1 p.has p.put
        (subst (λ (s : Expr). s ~ binary Or (not a.expr) x) (sym q.has) h)
        (subst (λ (l : List Addend). Insert q.addend l ys) e q.put))))))

    -- four addends: -2, -2 times `a | !b`, a and -b; the candidate is `a ^ b`
    pub data OrNotFlat : Expr → Type 0 where
      or_not_flat : {two twice : Addend} {ys zs : List Addend} {a b : Expr} → T (two.negated && is_masked w 2 two.expr) → Insert two ys xs
          → MinusTwice (a, not b) twice → Insert twice zs ys → plus_and_minus zs ≡ some (a, b) → OrNotFlat (binary Xor a b)

    pub found_5 : Every OrNotFlat (match_xor_via_ornot_flat w xs)
    unfolding match_xor_via_ornot_flat
    found_5 =
        if_case (Every OrNotFlat) (bool.not (eqb (length xs) 4)) (λ n. tt)
        (every_and_then_on OrNotFlat _ (extract (as_minus_two w) xs) _
        (took _ (as_minus_two w) (λ b. passed (b.negated && is_masked w 2 b.expr) b.expr) xs) (λ (two, ys) p.
        every_and_then_on OrNotFlat _ (extract (as_minus_twice_or w) ys) _ (took MinusTwice (as_minus_twice_or w) minus_twice ys) (λ ((l, r), zs) q.
        every_and_then OrNotFlat (plus_and_minus zs) _ (λ (a, b) e.
        every_only_if OrNotFlat ((expr_eq l a && is_not_of r b) || (expr_eq r a && is_not_of l b)) (λ h.
        or_not_flat p.has p.put (q.has.0, product_on q.has.1 (with_not l r a b h)) q.put e)))))

-- ---- tag 5 at width 1

no_two : (t : Expr) → is_masked 1 2 t ≡ false
unfolding is_masked
no_two (leaf (Constant c)) = ne_eqb (c % 2 ^ 1) 2 (λ e. omega (arith, mod-lt c (pow_pos 1), e))
no_two (leaf (Variable i)) = refl
no_two (unary k t) = refl
no_two (binary k l r) = refl

-- no constant is 2 under the mask of one bit
no_minus_two : (xs : List Addend) → extract (as_minus_two 1) xs ≡ none
unfolding extract
no_minus_two [] = refl
no_minus_two (a ∷ xs) =
    ap₂ (λ (o : Option Expr) (p : Option (Expr × List Addend)). map (λ b. (b, xs)) o or_else map (λ q. (q.0, a ∷ q.1)) p) (never a.negated (no_two a.expr)) (no_minus_two xs)
  where
    never : (n : Bool) {m : Bool} → m ≡ false → only_if (n && m) a.expr ≡ none
    never true e = ap (λ (b : Bool). only_if b a.expr) e
    never false e = refl

pub no_tag_5_at_1 : (xs : List Addend) → match_xor_via_ornot_flat 1 xs ≡ none
unfolding match_xor_via_ornot_flat
no_tag_5_at_1 xs = either (eqb (length xs) 4) (then_none (extract (as_minus_two 1) xs) _ (no_minus_two xs))
  where
    either : (b : Bool) {o : Option Expr} → o ≡ none → (if bool.not b then none else o) ≡ none
    either true e = e
    either false e = refl
