-- Sums modulo 2 ^ w of numbers with signs, and the identities between sums and bitwise operations that the matchers rest on (they
-- are in Hacker's Delight). Assumes nothing.
use Rattle.std.specs.Prelude.{◌≡◌, ℕ, ◌+◌, ◌-◌, ◌*◌, ◌%◌, ◌^◌, ◌<◌, ◌≤◌}
use Rattle.std.proofs.Common.{sym, ap, ap₂, ◌∙◌, mod-lt, mod-eq_of_lt, add_comm, add-zero, le-mul_of_pos_right, arith, pow_pos}
use Rattle.std.proofs.Math.Nat.{add-mod, add-mod-mod, mod-add-mod, add-mod_right, add-mul-mod_self_right}
use Rattle.std.proofs.Math.Pow.{ones_sub-lt}
use Rattle.std.specs.Int.Bits.{and_lt}
use Rattle.std.proofs.lemmas.Nat.{or_lt, xor_lt}
use Rattle.arith.specs.Bv.{ones, bvadd, bvand, bvor, bvxor, bvnot, bvneg}
use Rattle.arith.specs.TableLaws.{X, Y, all, not, and, or, xor, one, times, plus, law}

-- v is p - n modulo 2 ^ w
pub record Diff (w v p n : ℕ) : Type 0 where
  pub below : v < 2 ^ w
  pub diff : (v + n) % 2 ^ w ≡ p % 2 ^ w

-- a number may be taken away on both sides
module _ {m : ℕ} (hm : 0 < m) where
  away : (a n : ℕ) → ((a + n) % m + (n * m - n)) % m ≡ a % m
  away a n =
      mod-add-mod (a + n) m (n * m - n)
      ∙ ap (λ (k : ℕ). k % m) (let h : n ≤ n * m = le-mul_of_pos_right n hm in let e : a + n + (n * m - n) ≡ a + n * m = omega arith in e)
      ∙ add-mul-mod_self_right a n m

  pub cancel : (a b n : ℕ) → (a + n) % m ≡ (b + n) % m → a % m ≡ b % m
  cancel a b n e = sym (away a n) ∙ ap (λ (k : ℕ). (k + (n * m - n)) % m) e ∙ away b n

module _ (w : ℕ) where
  -- a number is itself less nothing
  pub diff_plain : {v : ℕ} → v < 2 ^ w → Diff w v v 0
  diff_plain {v} h = record { below = h; diff = ap (λ (k : ℕ). k % 2 ^ w) (add-zero v) }

  pub diff_add : {a b p q n k : ℕ} → Diff w a p n → Diff w b q k → Diff w (bvadd w a b) (p + q) (n + k)
  diff_add {a} {b} {p} {q} {n} {k} d e = record {
    below = mod-lt (a + b) (pow_pos w);
    diff =
        mod-add-mod (a + b) (2 ^ w) (n + k)
        ∙ ap (λ (t : ℕ). t % 2 ^ w) (let s : a + b + (n + k) ≡ (a + n) + (b + k) = omega arith in s)
        ∙ add-mod (a + n) (b + k) (2 ^ w)
        ∙ ap₂ (λ (s t : ℕ). (s + t) % 2 ^ w) d.diff e.diff
        ∙ sym (add-mod p q (2 ^ w));
  }

  pub diff_neg : {a p n : ℕ} → Diff w a p n → Diff w (bvneg w a) n p
  diff_neg {a} {p} {n} d = record {
    below = mod-lt (2 ^ w - a) (pow_pos w);
    diff =
        mod-add-mod (2 ^ w - a) (2 ^ w) p
        ∙ sym (add-mod-mod (2 ^ w - a) p (2 ^ w))
        ∙ ap (λ (t : ℕ). (2 ^ w - a + t) % 2 ^ w) (sym d.diff)
        ∙ add-mod-mod (2 ^ w - a) (a + n) (2 ^ w)
        ∙ ap (λ (t : ℕ). t % 2 ^ w) (let h = d.below in let s : 2 ^ w - a + (a + n) ≡ n + 2 ^ w = omega arith in s)
        ∙ add-mod_right n (2 ^ w);
  }

  -- a number that is subtracted need not be reduced modulo 2 ^ w
  pub diff_unreduced : {v p n : ℕ} (m k : ℕ) → Diff w v p n → n ≡ m + k % 2 ^ w → Diff w v p (m + k)
  diff_unreduced {v} {p} {n} m k d e = record {
    below = d.below;
    diff =
        ap (λ (t : ℕ). t % 2 ^ w) (let s : v + (m + k) ≡ (v + m) + k = omega arith in s)
        ∙ sym (add-mod-mod (v + m) k (2 ^ w))
        ∙ ap (λ (t : ℕ). t % 2 ^ w) (let s : (v + m) + k % 2 ^ w ≡ v + n = omega (arith, e) in s)
        ∙ d.diff;
  }

  moved : {v p n : ℕ} → Diff w v p n → (k : ℕ) → (v + (n + k)) % 2 ^ w ≡ (p + k) % 2 ^ w
  moved {v} {p} {n} d k =
      ap (λ (t : ℕ). t % 2 ^ w) (let s : v + (n + k) ≡ v + n + k = omega arith in s)
      ∙ sym (mod-add-mod (v + n) (2 ^ w) k)
      ∙ ap (λ (t : ℕ). (t + k) % 2 ^ w) d.diff
      ∙ mod-add-mod p (2 ^ w) k

  -- two differences are the same number where they are equal up to multiples of 2 ^ w, i of them on one side and j on the other
  pub diff_unique : {v u p n q k : ℕ} → Diff w v p n → Diff w u q k → (i j : ℕ) → p + k + i * 2 ^ w ≡ q + n + j * 2 ^ w → v ≡ u
  diff_unique {v} {u} {p} {n} {q} {k} d e i j h =
      sym (mod-eq_of_lt d.below)
      ∙ cancel (pow_pos w) v u (n + k)
      (moved d k ∙ sym (add-mul-mod_self_right (p + k) i (2 ^ w)) ∙ ap (λ (t : ℕ). t % 2 ^ w) h
      ∙ add-mul-mod_self_right (q + n) j (2 ^ w) ∙ sym (moved e n) ∙ ap (λ (t : ℕ). (u + t) % 2 ^ w) (add_comm k n))
      ∙ mod-eq_of_lt e.below

  -- the same against a plain number
  pub diff_value : {v p n : ℕ} → Diff w v p n → {u : ℕ} → u < 2 ^ w → (i j : ℕ) → p + i * 2 ^ w ≡ u + n + j * 2 ^ w → v ≡ u
  diff_value {v} {p} {n} d {u} hu i j h = diff_unique d (diff_plain hu) i j (omega (arith, h))

-- ---- the identities

module _ (w : ℕ) {x y : ℕ} (hx : x < 2 ^ w) (hy : y < 2 ^ w) where
  and_below : bvand x y < 2 ^ w
  and_below = and_lt w x y hx hy

  or_below : bvor x y < 2 ^ w
  or_below = or_lt w x y hx hy

  xor_below : bvxor x y < 2 ^ w
  xor_below = xor_lt w x y hx hy

  not_below : bvnot w x < 2 ^ w
  not_below = ones_sub-lt w x

  ornot_below : bvor (bvnot w x) y < 2 ^ w
  ornot_below = or_lt w (bvnot w x) y not_below hy

  -- over the natural numbers
  or_is : bvor x y ≡ bvand x y + bvxor x y
  or_is = law (one (or X Y)) (plus (one (and X Y)) (one (xor X Y))) tt w x y 0 hx hy (pow_pos w)

  ornot_is : bvor (bvnot w x) y ≡ bvnot w x + bvand x y
  ornot_is = law (one (or (not X) Y)) (plus (one (not X)) (one (and X Y))) tt w x y 0 hx hy (pow_pos w)

  ornot_plus : bvor (bvnot w x) y + x ≡ bvand x y + ones w
  ornot_plus = law (plus (one (or (not X) Y)) (one X)) (plus (one (and X Y)) (one all)) tt w x y 0 hx hy (pow_pos w)

  flat_is : x + 2 * ones w ≡ bvxor x y + y + 2 * bvor x (bvnot w y)
  flat_is = law (plus (one X) (times 2 all)) (plus (plus (one (xor X Y)) (one Y)) (times 2 (or X (not Y)))) tt w x y 0 hx hy (pow_pos w)

  -- `(x | y) - (x & y)` is `x ^ y`, and the other way round its negation
  pub or_minus_and : bvadd w (bvor x y) (bvneg w (bvand x y)) ≡ bvxor x y
  or_minus_and = diff_value w (diff_add w (diff_plain w or_below) (diff_neg w (diff_plain w and_below))) xor_below 0 0 (omega (arith, or_is))

  pub and_minus_or : bvadd w (bvand x y) (bvneg w (bvor x y)) ≡ bvneg w (bvxor x y)
  and_minus_or = diff_unique w (diff_add w (diff_plain w and_below) (diff_neg w (diff_plain w or_below))) (diff_neg w (diff_plain w xor_below)) 0 0 (omega (arith, or_is))

  -- `(!x | y) - !x` is `x & y`
  pub ornot_minus_not : bvadd w (bvor (bvnot w x) y) (bvneg w (bvnot w x)) ≡ bvand x y
  ornot_minus_not = diff_value w (diff_add w (diff_plain w ornot_below) (diff_neg w (diff_plain w not_below))) and_below 0 0 (omega (arith, ornot_is))

  pub not_minus_ornot : bvadd w (bvnot w x) (bvneg w (bvor (bvnot w x) y)) ≡ bvneg w (bvand x y)
  not_minus_ornot = diff_unique w (diff_add w (diff_plain w not_below) (diff_neg w (diff_plain w ornot_below))) (diff_neg w (diff_plain w and_below)) 0 0 (omega (arith, ornot_is))

  -- three addends that come to `(!x | y) + x + 1`, in any order
  pub plus_one : {v p n : ℕ} → Diff w v p n → p ≡ bvor (bvnot w x) y + x + 1 + n → v ≡ bvand x y
  plus_one d e = diff_value w d and_below 0 1 (omega (arith, ornot_plus, e, pow_pos w))

  -- four addends that come to `x - y - 2 * (x | !y) - 2`, in any order
  pub flat_or_not : {v p n : ℕ} → Diff w v p n → p + y + 2 * bvor x (bvnot w y) + 2 ≡ x + n → v ≡ bvxor x y
  flat_or_not {v} {p} {n} d e = diff_value w d xor_below 2 0 (omega (arith, flat_is, e, pow_pos w))
