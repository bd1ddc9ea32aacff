-- The laws of the operations of `Bv` that rewriting rests on, each at every width w, for x, y and z below 2 ^ w. A law is stated in
-- one order of its operands. The kit's `lib.Bits` has those that need no width: `and_comm`, `or_comm`, `xor_comm`, `and_self`, `or_self`,
-- `and_zero_r`, `or_zero_r`, `xor_zero_r`. Assumes nothing.
use Rattle.std.specs.Prelude.{◌≡◌, ℕ, suc, ◌+◌, ◌-◌, ◌*◌, ◌/◌, ◌%◌, ◌^◌, ◌<◌, ◌≤◌, min, max}
use Rattle.std.proofs.Common.{sym, ap, ◌∙◌, mod-lt, div-one, lt_of_lt_of_le, pow-suc, arith, pow_pos, pow_mono, lt-ltb, le-ltb}
use Rattle.std.proofs.Math.Nat.{div-eq_of_lt, zero-div}
use Rattle.std.proofs.Math.Decide.{dec_le}
use Rattle.std.proofs.Math.Pow.{ones_split, ones_lt, high}
use Rattle.std.proofs.lemmas.Nat.{and_mod, or_mod, xor_mod, and_shr, or_shr}
use Rattle.std.specs.Int.Bits.{and_step, or_step}
use Rattle.arith.specs.Bv.{ones, bvand, bvor, bvxor, bvnot, bvlshr, bit}
use Rattle.arith.specs.TableLaws.{X, Y, Z, none, all, not, and, or, xor, same₁, same₂, same₃}

-- ---- one number

module _ (w : ℕ) {x : ℕ} (hx : x < 2 ^ w) where
  pub not_not : bvnot w (bvnot w x) ≡ x
  not_not = same₁ (not (not X)) X tt w hx

  pub and_all : bvand x (ones w) ≡ x
  and_all = same₁ (and X all) X tt w hx

  pub or_all : bvor x (ones w) ≡ ones w
  or_all = same₁ (or X all) all tt w hx

  pub and_not : bvand x (bvnot w x) ≡ 0
  and_not = same₁ (and X (not X)) none tt w hx

  pub or_not : bvor x (bvnot w x) ≡ ones w
  or_not = same₁ (or X (not X)) all tt w hx

  pub xor_not : bvxor x (bvnot w x) ≡ ones w
  xor_not = same₁ (xor X (not X)) all tt w hx

-- ---- two numbers

module _ (w : ℕ) {x y : ℕ} (hx : x < 2 ^ w) (hy : y < 2 ^ w) where
  pub de_morgan_and : bvnot w (bvand x y) ≡ bvor (bvnot w x) (bvnot w y)
  de_morgan_and = same₂ (not (and X Y)) (or (not X) (not Y)) tt w hx hy

  pub de_morgan_or : bvnot w (bvor x y) ≡ bvand (bvnot w x) (bvnot w y)
  de_morgan_or = same₂ (not (or X Y)) (and (not X) (not Y)) tt w hx hy

  -- absorption
  pub and_or_lem : bvand x (bvor x y) ≡ x
  and_or_lem = same₂ (and X (or X Y)) X tt w hx hy

  pub or_and : bvor x (bvand x y) ≡ x
  or_and = same₂ (or X (and X Y)) X tt w hx hy

  pub xor_and : bvxor x (bvand x y) ≡ bvand x (bvnot w y)
  xor_and = same₂ (xor X (and X Y)) (and X (not Y)) tt w hx hy

-- ---- three numbers

module _ (w : ℕ) {x y z : ℕ} (hx : x < 2 ^ w) (hy : y < 2 ^ w) (hz : z < 2 ^ w) where
  pub and_assoc : bvand (bvand x y) z ≡ bvand x (bvand y z)
  and_assoc = same₃ (and (and X Y) Z) (and X (and Y Z)) tt w hx hy hz

  pub or_assoc : bvor (bvor x y) z ≡ bvor x (bvor y z)
  or_assoc = same₃ (or (or X Y) Z) (or X (or Y Z)) tt w hx hy hz

  pub xor_assoc : bvxor (bvxor x y) z ≡ bvxor x (bvxor y z)
  xor_assoc = same₃ (xor (xor X Y) Z) (xor X (xor Y Z)) tt w hx hy hz

-- ---- constants: c and d are any words, and each counts modulo 2 ^ w

module _ (w : ℕ) {x : ℕ} (c d : ℕ) (hx : x < 2 ^ w) where
  hc : c % 2 ^ w < 2 ^ w
  hc = mod-lt c (pow_pos w)

  hd : d % 2 ^ w < 2 ^ w
  hd = mod-lt d (pow_pos w)

  pub and_consts : bvand (bvand x (c % 2 ^ w)) (d % 2 ^ w) ≡ bvand x (bvand c d % 2 ^ w)
  and_consts = and_assoc w hx hc hd ∙ ap (bvand x) (sym (and_mod c d w))

  pub or_consts : bvor (bvor x (c % 2 ^ w)) (d % 2 ^ w) ≡ bvor x (bvor c d % 2 ^ w)
  or_consts = or_assoc w hx hc hd ∙ ap (bvor x) (sym (or_mod c d w))

  pub xor_consts : bvxor (bvxor x (c % 2 ^ w)) (d % 2 ^ w) ≡ bvxor x (bvxor c d % 2 ^ w)
  xor_consts = xor_assoc w hx hc hd ∙ ap (bvxor x) (sym (xor_mod c d w))

-- ---- shifts

-- below w and from w up, a shift of a number of w bits is a quotient
pub lshr_is : (w k : ℕ) {x : ℕ} → x < 2 ^ w → bvlshr w x k ≡ x / 2 ^ k
lshr_is w k {x} hx = go (dec_le w k)
  where
    go : Dec (w ≤ k) → bvlshr w x k ≡ x / 2 ^ k
    go (yes p) = simp (le-ltb k w p) (sym (div-eq_of_lt (lt_of_lt_of_le hx (pow_mono p))))
    go (no q) = simp (lt-ltb k w (omega arith))

pub lshr_none : (w : ℕ) {x : ℕ} → x < 2 ^ w → bvlshr w x 0 ≡ x
lshr_none w {x} hx = lshr_is w 0 hx ∙ div-one x

-- ---- SMT-LIB's own wording: bit i of the answer from bit i of the operands

-- the last digit of a number that is made of its other digits and one digit
last : {n : ℕ} (a b : ℕ) → n ≡ a * 2 + b → b < 2 → n % 2 ≡ b
last a b e h = omega arith

pub and_bit : (i x y : ℕ) → bit i (bvand x y) ≡ min (bit i x) (bit i y)
and_bit i x y = last _ _ (and_shr x y i ∙ and_step (x / 2 ^ i) (y / 2 ^ i)) (omega arith)

pub or_bit : (i x y : ℕ) → bit i (bvor x y) ≡ max (bit i x) (bit i y)
or_bit i x y = last _ _ (or_shr x y i ∙ or_step (x / 2 ^ i) (y / 2 ^ i)) (omega arith)

-- every bit of `ones` is set
ones_bit : (w i : ℕ) → i < w → bit i (ones w) ≡ 1
ones_bit w i h =
    ap (λ (n : ℕ). (2 ^ n - 1) / 2 ^ i % 2) (let e : w ≡ suc (w - suc i) + i = omega arith in e)
    ∙ ap (λ (n : ℕ). n / 2 ^ i % 2) (ones_split (suc (w - suc i)) i)
    ∙ ap (λ (n : ℕ). n % 2) (high (2 ^ suc (w - suc i) - 1) i (ones_lt i))
    ∙ omega (arith, pow-suc 2 (w - suc i), pow_pos (w - suc i))

-- of a number and its complement exactly one has bit i
pub not_bit : (w i : ℕ) {x : ℕ} → x < 2 ^ w → i < w → bit i (bvnot w x) ≡ 1 - bit i x
not_bit w i {x} hx hi =
    let both : min (bit i x) (bit i (bvnot w x)) ≡ 0 = sym (and_bit i x (bvnot w x)) ∙ ap (bit i) (and_not w hx) ∙ ap (λ (n : ℕ). n % 2) (zero-div (2 ^ i)) in
    let either : max (bit i x) (bit i (bvnot w x)) ≡ 1 = sym (or_bit i x (bvnot w x)) ∙ ap (bit i) (or_not w hx) ∙ ones_bit w i hi in
    omega arith

-- QF_BV has bvxor by the other operations
pub xor_is : (w : ℕ) {x y : ℕ} → x < 2 ^ w → y < 2 ^ w → bvxor x y ≡ bvor (bvand x (bvnot w y)) (bvand (bvnot w x) y)
xor_is w hx hy = same₂ (xor X Y) (or (and X (not Y)) (and (not X) Y)) tt w hx hy
