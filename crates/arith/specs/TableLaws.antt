-- A law of bits is a law of every width: if two sums of terms in `&`, `|`, `^`, `!` have the same truth table, they are equal for
-- all numbers below 2 ^ w, at every w. Assumes nothing.
use Rattle.std.specs.Prelude.{◌≡◌, ℕ, zero, suc, ◌+◌, ◌-◌, ◌*◌, ◌/◌, ◌%◌, ◌^◌, ◌<◌, Bool, ◌&&◌, T, bit_and, bit_or, bit_xor, nat_eq, refl}
use Rattle.std.proofs.Common.{sym, ap, ap₂, ◌∙◌, pow-suc, div-add-mod', mul-add, mul_assoc, mul-zero, not-suc-le-zero, le_of_suc-le-suc, arith, eqb→eq, pow_pos}
use Rattle.std.proofs.Math.Arith.{lt-one}
use Rattle.std.proofs.Math.Pow.{ones_lt, ones_sub-lt}
use Rattle.std.specs.Int.Bits.{and_lt}
use Rattle.std.proofs.lemmas.Nat.{or_lt, xor_lt, and_block, or_block, xor_block}
use Rattle.std.proofs.Math.Facts.{and_yes}

-- a term in three numbers, in 0 and in the number with every bit set
pub data Term : Type 0 where
  X Y Z : Term
  none all : Term
  not : Term → Term
  and or xor : Term → Term → Term

-- a sum of multiples of terms
pub data Sum : Type 0 where
  one : Term → Sum
  times : ℕ → Term → Sum
  plus : Sum → Sum → Sum

module _ (w x y z : ℕ) where
  abbrev pub at : Term → ℕ
  at X = x
  at Y = y
  at Z = z
  at none = 0
  at all = 2 ^ w - 1
  at (not e) = (2 ^ w - 1) - at e
  at (and e f) = bit_and (at e) (at f)
  at (or e f) = bit_or (at e) (at f)
  at (xor e f) = bit_xor (at e) (at f)

  abbrev pub sum : Sum → ℕ
  sum (one e) = at e
  sum (times k e) = k * at e
  sum (plus s t) = sum s + sum t

  module _ (hx : x < 2 ^ w) (hy : y < 2 ^ w) (hz : z < 2 ^ w) where
    pub at_lt : (e : Term) → at e < 2 ^ w
    at_lt X = hx
    at_lt Y = hy
    at_lt Z = hz
    at_lt none = pow_pos w
    at_lt all = ones_lt w
    at_lt (not e) = ones_sub-lt w (at e)
    at_lt (and e f) = and_lt w (at e) (at f) (at_lt e) (at_lt f)
    at_lt (or e f) = or_lt w (at e) (at f) (at_lt e) (at_lt f)
    at_lt (xor e f) = xor_lt w (at e) (at f) (at_lt e) (at_lt f)

-- the lowest bit apart from the rest
module _ (w x y z a b c : ℕ) (hx : x < 2 ^ w) (hy : y < 2 ^ w) (hz : z < 2 ^ w) (ha : a < 2) (hb : b < 2) (hc : c < 2) where
  abbrev hi : Term → ℕ
  hi = at w x y z

  abbrev lo : Term → ℕ
  lo = at 1 a b c

  abbrev whole : Term → ℕ
  whole = at (suc w) (x * 2 + a) (y * 2 + b) (z * 2 + c)

  hi_lt : (e : Term) → hi e < 2 ^ w
  hi_lt = at_lt w x y z hx hy hz

  lo_lt : (e : Term) → lo e < 2
  lo_lt = at_lt 1 a b c ha hb hc

  at_split : (e : Term) → whole e ≡ hi e * 2 + lo e
  at_split X = refl
  at_split Y = refl
  at_split Z = refl
  at_split none = refl
  at_split all = omega (arith, pow-suc 2 w, pow_pos w)
  at_split (not e) = omega (arith, pow-suc 2 w, at_split e, hi_lt e, lo_lt e)
  at_split (and e f) = ap₂ bit_and (at_split e) (at_split f) ∙ and_block 1 (hi e) (hi f) (lo e) (lo f) (lo_lt e) (lo_lt f)
  at_split (or e f) = ap₂ bit_or (at_split e) (at_split f) ∙ or_block 1 (hi e) (hi f) (lo e) (lo f) (lo_lt e) (lo_lt f)
  at_split (xor e f) = ap₂ bit_xor (at_split e) (at_split f) ∙ xor_block 1 (hi e) (hi f) (lo e) (lo f) (lo_lt e) (lo_lt f)

  sum_split : (s : Sum) → sum (suc w) (x * 2 + a) (y * 2 + b) (z * 2 + c) s ≡ sum w x y z s * 2 + sum 1 a b c s
  sum_split (one e) = at_split e
  sum_split (times k e) = ap (λ (n : ℕ). k * n) (at_split e) ∙ mul-add k (hi e * 2) (lo e) ∙ ap (λ (n : ℕ). n + k * lo e) (sym (mul_assoc k (hi e) 2))
  sum_split (plus s t) = omega (arith, sum_split s, sum_split t)

-- at width 0 there is nothing
module _ (x y z : ℕ) (hx : x < 1) (hy : y < 1) (hz : z < 1) where
  sum_none : (s : Sum) → sum 0 x y z s ≡ 0
  sum_none (one e) = lt-one (at_lt 0 x y z hx hy hz e)
  sum_none (times k e) = ap (λ (n : ℕ). k * n) (lt-one (at_lt 0 x y z hx hy hz e)) ∙ mul-zero k
  sum_none (plus s t) = omega (arith, sum_none s, sum_none t)

half_lt : (w x : ℕ) → x < 2 ^ suc w → x / 2 < 2 ^ w
half_lt w x h = omega (arith, pow-suc 2 w)

sum_digits : (s : Sum) (w x y z : ℕ) → x < 2 ^ suc w → y < 2 ^ suc w → z < 2 ^ suc w → sum (suc w) x y z s ≡ sum w (x / 2) (y / 2) (z / 2) s * 2 + sum 1 (x % 2) (y % 2) (z % 2) s
sum_digits s w x y z hx hy hz =
    (λ i. sum (suc w) (sym (div-add-mod' x 2) i) (sym (div-add-mod' y 2) i) (sym (div-add-mod' z 2) i) s)
    ∙ sum_split w (x / 2) (y / 2) (z / 2) (x % 2) (y % 2) (z % 2) (half_lt w x hx) (half_lt w y hy) (half_lt w z hz) (omega arith) (omega arith) (omega arith) s

-- a test holds of both bits
abbrev pub both : (ℕ → Bool) → Bool
both p = p 0 && p 1

both_at : (p : ℕ → Bool) → T (both p) → (a : ℕ) → a < 2 → T (p a)
both_at p t zero h = (and_yes (p 0) (p 1) t).0
both_at p t (suc zero) h = (and_yes (p 0) (p 1) t).1
both_at p t (suc (suc a)) h = absurd (not-suc-le-zero (le_of_suc-le-suc (le_of_suc-le-suc h)))

-- the two sums agree in every row of the truth table
abbrev pub agree : Sum → Sum → Bool
agree s t = both (λ a. both (λ b. both (λ c. nat_eq (sum 1 a b c s) (sum 1 a b c t))))

module _ (s t : Sum) (ok : T (agree s t)) where
  on_bits : (a b c : ℕ) → a < 2 → b < 2 → c < 2 → sum 1 a b c s ≡ sum 1 a b c t
  on_bits a b c ha hb hc =
      eqb→eq _ _
      (both_at (λ n. nat_eq (sum 1 a b n s) (sum 1 a b n t))
      (both_at (λ m. both (λ n. nat_eq (sum 1 a m n s) (sum 1 a m n t)))
      (both_at (λ k. both (λ m. both (λ n. nat_eq (sum 1 k m n s) (sum 1 k m n t)))) ok a ha) b hb) c hc)

  pub law : (w x y z : ℕ) → x < 2 ^ w → y < 2 ^ w → z < 2 ^ w → sum w x y z s ≡ sum w x y z t
  law zero x y z hx hy hz = sum_none x y z hx hy hz s ∙ sym (sum_none x y z hx hy hz t)
  law (suc w) x y z hx hy hz =
      sum_digits s w x y z hx hy hz
      ∙ ap₂ (λ (m n : ℕ). m * 2 + n) (law w (x / 2) (y / 2) (z / 2) (half_lt w x hx) (half_lt w y hy) (half_lt w z hz)) (on_bits (x % 2) (y % 2) (z % 2) (omega arith) (omega arith) (omega arith))
      ∙ sym (sum_digits t w x y z hx hy hz)

-- two terms that agree on bits, in one, two or three numbers
module _ (e f : Term) (ok : T (agree (one e) (one f))) (w : ℕ) where
  pub same₃ : {x y z : ℕ} → x < 2 ^ w → y < 2 ^ w → z < 2 ^ w → at w x y z e ≡ at w x y z f
  same₃ {x} {y} {z} hx hy hz = law (one e) (one f) ok w x y z hx hy hz

  pub same₂ : {x y : ℕ} → x < 2 ^ w → y < 2 ^ w → at w x y 0 e ≡ at w x y 0 f
  same₂ hx hy = same₃ hx hy (pow_pos w)

  pub same₁ : {x : ℕ} → x < 2 ^ w → at w x 0 0 e ≡ at w x 0 0 f
  same₁ hx = same₃ hx (pow_pos w) (pow_pos w)
