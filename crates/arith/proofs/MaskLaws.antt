-- Masks of a width, and the words that are masked. Assumes nothing.
use Rattle.std.proofs.Common.{◌≡◌, ℕ, suc, ◌-◌, ◌*◌, ◌/◌, ◌%◌, ◌^◌, ◌<◌, ◌≤◌, min, sym, ap, ◌∙◌, lt_of_lt_of_le, le_of_lt, mod-eq_of_lt, pos_of_ne-zero, one-mul, pow-suc, sub-add_cancel, mul-div_cancel, arith, pow_pos, pow_mono, w64, Fits}
use native.Mathlib.Nat.{min-le_right, min-eq_left, div-eq_of_lt, zero-mod}
use lib.Pow.{pow-lt, mod-mod-pow}
use lib.Bits.{bit_and, and_mask}
use Rattle.arith.specs.Arith.{size, bitmask_of, sign_bit_mask_of, mod_shr}

-- ---- the size of a width

size_low : (w : ℕ) → w ≤ 64 → size w ≡ 2 ^ w
size_low w h = ap (λ (k : ℕ). 2 ^ k) (min-eq_left h)

-- `1 << k`
shl_one : (k : ℕ) → k < 64 → (1 * 2 ^ k) % 2 ^ 64 ≡ 2 ^ k
shl_one k h = ap (λ (n : ℕ). n % 2 ^ 64) (one-mul (2 ^ k)) ∙ mod-eq_of_lt (pow-lt h)

-- the highest of k bits
pub top_pow : (k : ℕ) → 0 < k → 2 ^ (k - 1) ≡ 2 ^ k / 2
top_pow k h =
    sym (ap (λ (n : ℕ). 2 ^ n / 2) (let e : k ≡ suc (k - 1) = omega arith in e)
    ∙ ap (λ (n : ℕ). n / 2) (pow-suc 2 (k - 1)) ∙ mul-div_cancel (2 ^ (k - 1)) (pow_pos 1))

-- the sign bit of a width below 64
pub sign_low : (w : ℕ) → (w ≡ 0 → ⊥) → w < 64 → (1 * 2 ^ (w - 1)) % 2 ^ 64 ≡ sign_bit_mask_of w
sign_low w a h =
    shl_one (w - 1) (omega arith) ∙ top_pow w (pos_of_ne-zero a) ∙ ap (λ (n : ℕ). n / 2) (sym (size_low w (le_of_lt h)))

-- ---- masked words

-- the low w bits of a number are those of its low 64
narrow : (w n : ℕ) → n % 2 ^ 64 % size w ≡ n % size w
narrow w n =
    ap (λ (k : ℕ). n % 2 ^ k % size w) (sym (sub-add_cancel (min-le_right w 64)))
    ∙ mod-mod-pow n (64 - min w 64) (min w 64)

-- `n & bitmask(w)`
pub masked : (w n : ℕ) {m : ℕ} → m ≡ bitmask_of w → bit_and n m ≡ n % size w
masked w n e = ap (bit_and n) e ∙ and_mask n (min w 64)

-- the same of a number that was wrapped to a word
pub wrapped : (w n : ℕ) {s m : ℕ} → s ≡ n % 2 ^ 64 → m ≡ bitmask_of w → bit_and s m ≡ n % size w
wrapped w n {s} e f = masked w s f ∙ ap (λ (k : ℕ). k % size w) e ∙ narrow w n

-- a shift by 64 or more leaves nothing of a word
pub shifted_out : (a k w : ℕ) → Fits w64 a → 64 ≤ k → 0 ≡ mod_shr a k w
shifted_out a k w h l = sym (ap (λ (n : ℕ). n % size w) (div-eq_of_lt (lt_of_lt_of_le h.fits (pow_mono l))) ∙ zero-mod (size w))
