-- What `sext` computes, one law for each of its answers. Assumes nothing.
use Rattle.std.proofs.Common.{◌≡◌, ℕ, suc, ◌+◌, ◌-◌, ◌*◌, ◌/◌, ◌%◌, ◌^◌, ◌<◌, ◌≤◌, min, Bool, true, false, ltb, leb, sym, refl, ap, ◌∙◌, subst, ap₂, le_trans, add-zero, mod-lt, mod-eq_of_lt, mul_assoc, div-lt_iff_lt-mul, add_comm, pos_of_ne-zero, pow-suc, div-add-mod', zero-mul, sub-add_cancel, arith, pow_pos, pow-add, le-ltb, lt-ltb, leb-true}
use native.Mathlib.Nat.{min-le_right, min-le_left, le-min, add-mul-mod_self_right, mod-add-mod, div-eq_of_lt}
use native.Mathlib.Decide.{dec_le}
use lib.Pow.{high_ones, split}
use lib.Bits.{bit_and, bit_or, and_mask, and_comm, and_high, and_block, and_zero_r, or_shifted_r}
use Rattle.std.specs.Prelude.{if◌then◌else◌}
use Rattle.arith.specs.Arith.{size, bitmask_of, sign_bit_mask_of, sign_extended}
use Rattle.arith.proofs.MaskLaws.{masked, top_pow}

-- ---- the highest bit

-- of a number of g + 1 bits, `n & (1 << g)`
top_bit : (g n : ℕ) → n < 2 ^ suc g → bit_and n (2 ^ g) ≡ n / 2 ^ g * 2 ^ g
top_bit g n h =
    ap₂ bit_and (sym (split n g)) (let e : 2 ^ g ≡ 1 * 2 ^ g + 0 = omega arith in e)
    ∙ and_block g (n / 2 ^ g) 1 (n % 2 ^ g) 0 (mod-lt n (pow_pos g)) (pow_pos g)
    ∙ ap₂ (λ (s t : ℕ). s * 2 ^ g + t) (and_mask (n / 2 ^ g) 1 ∙ mod-eq_of_lt ((div-lt_iff_lt-mul (pow_pos g)).1 (omega (arith, pow-suc 2 g)))) (and_zero_r (n % 2 ^ g))
    ∙ add-zero (n / 2 ^ g * 2 ^ g)

top_clear : (g n : ℕ) → n < 2 ^ suc g → bit_and n (2 ^ g) ≡ 0 → 2 * n < 2 ^ suc g
top_clear g n h e = omega (arith, e, top_bit g n h, div-add-mod' n (2 ^ g), mod-lt n (pow_pos g), pow-suc 2 g)

top_set : (g n : ℕ) → n < 2 ^ suc g → (bit_and n (2 ^ g) ≡ 0 → ⊥) → 2 ^ suc g ≤ 2 * n
top_set g n h f = go (dec_le (2 ^ g) n)
  where
    go : Dec (2 ^ g ≤ n) → 2 ^ suc g ≤ 2 * n
    go (yes p) = omega (arith, pow-suc 2 g)
    go (no q) = absurd (f (top_bit g n h ∙ ap (λ (t : ℕ). t * 2 ^ g) (div-eq_of_lt (omega arith)) ∙ zero-mul (2 ^ g)))

-- the same, with the width and the sign's mask as the code has them
module _ (from n : ℕ) (pos : 0 < from) (h : n < size from) where
  -- the place of the sign bit
  top : ℕ
  top = min from 64 - 1

  width_is : min from 64 ≡ suc top
  unfolding top
  width_is = omega (arith, le-min {k = 1} {a = from} {b = 64} pos (omega arith))

  below : n < 2 ^ suc top
  below = subst (λ (k : ℕ). n < 2 ^ k) width_is h

  mask_is : 2 ^ top ≡ sign_bit_mask_of from
  unfolding top
  mask_is = top_pow (min from 64) (le-min {k = 1} {a = from} {b = 64} pos (omega arith))

  sign_clear : bit_and n (sign_bit_mask_of from) ≡ 0 → 2 * n < size from
  sign_clear e = subst (λ (k : ℕ). 2 * n < 2 ^ k) (sym width_is) (top_clear top n below (ap (bit_and n) mask_is ∙ e))

  sign_set : (bit_and n (sign_bit_mask_of from) ≡ 0 → ⊥) → size from ≤ 2 * n
  sign_set f = subst (λ (k : ℕ). 2 ^ k ≤ 2 * n) (sym width_is) (top_set top n below (λ e. f (ap (bit_and n) (sym mask_is) ∙ e)))

-- ---- the bits above

-- a number's bits below t do not change where those from f up are set
high_dropped : (f t n : ℕ) → t ≤ f → f ≤ 64 → (n + (2 ^ 64 - 2 ^ f)) % 2 ^ t ≡ n % 2 ^ t
high_dropped f t n h l =
    ap (λ (k : ℕ). (n + k) % 2 ^ t)
    (ap (λ (k : ℕ). 2 ^ k - 2 ^ f) (sym (sub-add_cancel l)) ∙ high_ones (64 - f) f
    ∙ ap (λ (k : ℕ). (2 ^ (64 - f) - 1) * k) (ap (λ (k : ℕ). 2 ^ k) (sym (sub-add_cancel h)) ∙ pow-add 2 (f - t) t)
    ∙ sym (mul_assoc (2 ^ (64 - f) - 1) (2 ^ (f - t)) (2 ^ t)))
    ∙ add-mul-mod_self_right n ((2 ^ (64 - f) - 1) * 2 ^ (f - t)) (2 ^ t)

-- `bitmask(to) & !bitmask(from)`, or'ed to a number of `from` bits, and masked
extended : (f t n : ℕ) → f ≤ 64 → n < 2 ^ f → bit_and (bit_or n (bit_and (2 ^ t - 1) ((2 ^ 64 - 1) - (2 ^ f - 1)))) (2 ^ t - 1) ≡ (n + (2 ^ 64 - 2 ^ f)) % 2 ^ t
extended f t n l h =
    let x : ℕ = bit_and (2 ^ t - 1) ((2 ^ 64 - 1) - (2 ^ f - 1)) in
    let a : (2 ^ 64 - 1) - (2 ^ f - 1) ≡ 2 ^ 64 - 2 ^ f = omega (arith, pow_pos f) in
    let q : ℕ = (2 ^ t - 1) / 2 ^ f % 2 ^ (64 - f) in
    let e₁ : x ≡ q * 2 ^ f = ap (bit_and (2 ^ t - 1)) (a ∙ ap (λ (k : ℕ). 2 ^ k - 2 ^ f) (sym (sub-add_cancel l))) ∙ and_high (2 ^ t - 1) (64 - f) f in
    let e₂ : x ≡ (2 ^ 64 - 2 ^ f) % 2 ^ t = and_comm (2 ^ t - 1) ((2 ^ 64 - 1) - (2 ^ f - 1)) ∙ and_mask ((2 ^ 64 - 1) - (2 ^ f - 1)) t ∙ ap (λ (k : ℕ). k % 2 ^ t) a in
    and_mask (bit_or n x) t
    ∙ ap (λ (k : ℕ). k % 2 ^ t) (ap (bit_or n) e₁ ∙ or_shifted_r q f n h ∙ ap (λ (k : ℕ). k + n) (sym e₁ ∙ e₂))
    ∙ mod-add-mod (2 ^ 64 - 2 ^ f) (2 ^ t) n
    ∙ ap (λ (k : ℕ). k % 2 ^ t) (add_comm (2 ^ 64 - 2 ^ f) n)

-- ---- the answers

-- what is added to the low part: nothing, or all bits above it
abbrev extension : Bool → ℕ → ℕ
extension b from = if b then 0 else 2 ^ 64 - size from

module _ (v from to : ℕ) where
  low : ℕ
  low = v % size from

  low_lt : low < size from
  unfolding low
  low_lt = mod-lt v (pow_pos (min from 64))

  -- by the sign bit, which is clear or set
  by_sign : (b : Bool) → ltb (2 * low) (size from) ≡ b → (low + extension b from) % size to ≡ sign_extended v from to
  unfolding low
  by_sign b e = ap (λ (c : Bool). (low + extension c from) % size to) (sym e)

  positive : 2 * low < size from → low % size to ≡ sign_extended v from to
  positive h = ap (λ (n : ℕ). n % size to) (sym (add-zero low)) ∙ by_sign true (lt-ltb _ _ h)

  -- where no more bits are asked than there are, the sign does not matter
  truncated : to ≤ from → (b : Bool) → low % size to ≡ (low + extension b from) % size to
  truncated h true = ap (λ (n : ℕ). n % size to) (sym (add-zero low))
  truncated h false = sym (high_dropped (min from 64) (min to 64) low (le-min (le_trans (min-le_left to 64) h) (min-le_right to 64)) (min-le_right from 64))

  module _ {m k : ℕ} (hm : m ≡ bitmask_of from) (hk : k ≡ bitmask_of to) where
    low_is : bit_and v m ≡ low
    unfolding low
    low_is = masked from v hm

    masked_twice : bit_and (bit_and v m) k ≡ low % size to
    masked_twice = masked to (bit_and v m) hk ∙ ap (λ (n : ℕ). n % size to) low_is

    pub sext_zero : from ≡ 0 → bit_and (bit_and v m) k ≡ sign_extended v from to
    sext_zero e = masked_twice ∙ positive (omega (arith, ap size e, low_lt))

    pub sext_narrow : leb to from ≡ true → bit_and (bit_and v m) k ≡ sign_extended v from to
    sext_narrow h = masked_twice ∙ truncated (leb-true to from h) (ltb (2 * low) (size from)) ∙ by_sign _ refl

    module _ (pos : from ≡ 0 → ⊥) {s : ℕ} (hs : s ≡ sign_bit_mask_of from) where
      test_is : bit_and (bit_and v m) s ≡ bit_and low (sign_bit_mask_of from)
      test_is = ap₂ bit_and low_is hs

      pub sext_clear : bit_and (bit_and v m) s ≡ 0 → bit_and (bit_and v m) k ≡ sign_extended v from to
      sext_clear e = masked_twice ∙ positive (sign_clear from low (pos_of_ne-zero pos) low_lt (sym test_is ∙ e))

      pub sext_set : (bit_and (bit_and v m) s ≡ 0 → ⊥) → {k' : ℕ} → k' ≡ bitmask_of to → bit_and (bit_or (bit_and v m) (bit_and k ((2 ^ 64 - 1) - m))) k' ≡ sign_extended v from to
      sext_set f hk' =
          (λ i. bit_and (bit_or (low_is i) (bit_and (hk i) ((2 ^ 64 - 1) - hm i))) (hk' i))
          ∙ extended (min from 64) (min to 64) low (min-le_right from 64) low_lt
          ∙ by_sign false (le-ltb _ _ (sign_set from low (pos_of_ne-zero pos) low_lt (λ e. f (test_is ∙ e))))
