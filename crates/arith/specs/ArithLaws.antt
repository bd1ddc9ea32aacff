-- At a width of at most 64, what the functions of `Arith` answer on numbers of that width is what SMT-LIB's operations give.
-- Assumes nothing.
use Rattle.std.specs.Prelude.{◌≡◌, ℕ, ◌+◌, ◌-◌, ◌*◌, ◌/◌, ◌%◌, ◌^◌, ◌<◌, ◌≤◌}
use Rattle.std.proofs.Common.{sym, ap, ◌∙◌, mod-eq_of_lt, lt_of_lt_of_le, sub-add_cancel, lt_of_le_of_lt, arith, pow_mono}
use Rattle.std.proofs.Math.Nat.{add-mod-mod, min-eq_left, min-eq_right, mul-add-mod_self_right}
use Rattle.std.proofs.Math.Decide.{dec_le}
use Rattle.std.proofs.Math.Pow.{not_mod, high_ones}
use Rattle.std.proofs.lemmas.Nat.{shr_le}
use Rattle.arith.specs.Arith.{bitmask_of, mod_add, mod_sub, mod_mul, mod_neg, mod_not, mod_shr, low_bits}
use Rattle.arith.specs.Bv.{ones, bvadd, bvmul, bvneg, bvnot, bvlshr}
use Rattle.arith.specs.BvLaws.{lshr_is}

module _ (w : ℕ) (l : w ≤ 64) where
  -- a word modulo 2 ^ w
  pub low_is : (n : ℕ) → low_bits n w ≡ n % 2 ^ w
  low_is n = ap (λ (k : ℕ). n % 2 ^ k) (min-eq_left l)

  -- all w bits set
  pub mask_is : bitmask_of w ≡ ones w
  mask_is = ap (λ (k : ℕ). 2 ^ k - 1) (min-eq_left l)

  pub add_is : (a b : ℕ) → mod_add a b w ≡ bvadd w a b
  add_is a b = low_is (a + b)

  pub mul_is : (a b : ℕ) → mod_mul a b w ≡ bvmul w a b
  mul_is a b = low_is (a * b)

  pub not_is : {a : ℕ} → a < 2 ^ w → mod_not a w ≡ bvnot w a
  not_is {a} h = low_is (2 ^ 64 - 1 - a) ∙ ap (λ (k : ℕ). (2 ^ k - 1 - a) % 2 ^ w) (sym (sub-add_cancel l)) ∙ not_mod (64 - w) w h

  pub neg_is : {a : ℕ} → a < 2 ^ w → mod_neg a w ≡ bvneg w a
  neg_is {a} h =
      low_is (2 ^ 64 - a)
      ∙ ap (λ (k : ℕ). k % 2 ^ w)
      (let m : 2 ^ w ≤ 2 ^ 64 = pow_mono l in let e : 2 ^ 64 - a ≡ (2 ^ 64 - 2 ^ w) + (2 ^ w - a) = omega arith in e)
      ∙ ap (λ (k : ℕ). (k + (2 ^ w - a)) % 2 ^ w) (ap (λ (k : ℕ). 2 ^ k - 2 ^ w) (sym (sub-add_cancel l)) ∙ high_ones (64 - w) w)
      ∙ mul-add-mod_self_right (2 ^ (64 - w) - 1) (2 ^ w) (2 ^ w - a)

  -- QF_BV has bvsub as the sum with the two's complement
  pub sub_is : (a : ℕ) {b : ℕ} → b < 2 ^ w → mod_sub a b w ≡ bvadd w a (bvneg w b)
  sub_is a {b} h = low_is (a + (2 ^ 64 - b)) ∙ sym (add-mod-mod a (2 ^ 64 - b) (2 ^ w)) ∙ ap (λ (n : ℕ). (a + n) % 2 ^ w) (sym (low_is (2 ^ 64 - b)) ∙ neg_is h)

  pub shr_is : {a : ℕ} (k : ℕ) → a < 2 ^ w → mod_shr a k w ≡ bvlshr w a k
  shr_is {a} k h = low_is (a / 2 ^ k) ∙ mod-eq_of_lt (lt_of_le_of_lt (shr_le a k) h) ∙ sym (lshr_is w k h)

-- a word's low bits, at every width: from 64 up they are the whole word
pub low_word : (w n : ℕ) → n < 2 ^ 64 → low_bits n w ≡ n % 2 ^ w
low_word w n h = go (dec_le w 64)
  where
    go : Dec (w ≤ 64) → low_bits n w ≡ n % 2 ^ w
    go (yes l) = low_is w l n
    go (no l) =
        let g : 64 ≤ w = omega arith in
        ap (λ (k : ℕ). n % 2 ^ k) (min-eq_right g) ∙ mod-eq_of_lt h ∙ sym (mod-eq_of_lt (lt_of_lt_of_le h (pow_mono g)))
