-- The laws of digits: how many there are, what they stand for, and that each way back gives what was there. Assumes nothing.
use Rattle.std.specs.Prelude.{◌≡◌, refl, Bool, true, false, ◌&&◌, List, [], ◌∷◌, ◌++◌, ℕ, zero, suc, ◌+◌, ◌-◌, ◌*◌, ◌/◌, ◌%◌, ◌^◌, ◌≤◌, ◌<◌, ltb, length, take, drop, if◌then◌else◌}
use Rattle.std.proofs.Common.{sym, ap, ap₂, ◌∙◌, append_assoc, append-nil, pow-suc, add-zero, mod-eq_of_lt, arith, length-append, take-append-drop, lt-ltb, le-ltb, ltb-true, ltb-false}
use Rattle.std.proofs.Math.Nat.{pow-le-pow_right}
use Rattle.arith.specs.ChoiceLaws.{both_true}
use Rattle.hexadecimal.specs.Hex.{glyph_of, digit_of, digits, all_digits, number_from, number_of, places_from}

-- ---- one digit

-- what holds of each value that `digit_of` has for a byte in its range holds of the byte's digit
pub digit_cases : (P : ℕ → Type 0) (b : ℕ) → (48 ≤ b → b < 58 → P (b - 48)) → (97 ≤ b → b < 103 → P (b - 87)) → (b < 48 → P 16) → (58 ≤ b → b < 97 → P 16) → (103 ≤ b → P 16)
    → P (digit_of b)
digit_cases P b low high below between above = go (ltb b 48) (ltb b 58) (ltb b 97) (ltb b 103) refl refl refl refl
  where
    go : (p q r s : Bool) → ltb b 48 ≡ p → ltb b 58 ≡ q → ltb b 97 ≡ r → ltb b 103 ≡ s
        → P (if p then 16 else if q then b - 48 else if r then 16 else if s then b - 87 else 16)
    go true q r s e f g h = below (ltb-true b 48 e)
    go false true r s e f g h = low (ltb-false b 48 e) (ltb-true b 58 f)
    go false false true s e f g h = between (ltb-false b 58 f) (ltb-true b 97 g)
    go false false false true e f g h = high (ltb-false b 97 g) (ltb-true b 103 h)
    go false false false false e f g h = above (ltb-false b 103 h)

-- the byte of a digit, by its two ranges
pub glyph_low : (d : ℕ) → d < 10 → 48 + d ≡ glyph_of d
glyph_low d h = rw (lt-ltb d 10 h)

pub glyph_high : (d : ℕ) → 10 ≤ d → 87 + d ≡ glyph_of d
glyph_high d h = rw (le-ltb d 10 h)

-- the byte of a digit stands for it
pub digit_glyph : (d : ℕ) → d < 16 → digit_of (glyph_of d) ≡ d
digit_glyph d h = go (ltb d 10) refl
  where
    go : (p : Bool) → ltb d 10 ≡ p → digit_of (if p then 48 + d else 87 + d) ≡ d
    go true e =
        let l = ltb-true d 10 e in
        digit_cases (λ n. n ≡ d) (48 + d) (λ p q. omega arith) (λ p q. omega arith) (λ p. omega arith) (λ p q. omega arith) (λ p. omega arith)
    go false e =
        let l = ltb-false d 10 e in
        digit_cases (λ n. n ≡ d) (87 + d) (λ p q. omega arith) (λ p q. omega arith) (λ p. omega arith) (λ p q. omega arith) (λ p. omega arith)

-- a byte that stands for a digit is the digit's byte
pub glyph_digit : (b : ℕ) → digit_of b < 16 → glyph_of (digit_of b) ≡ b
glyph_digit b =
    digit_cases (λ n. n < 16 → glyph_of n ≡ b) b
    (λ p q h. sym (glyph_low (b - 48) (omega arith)) ∙ omega arith)
    (λ p q h. sym (glyph_high (b - 87) (omega arith)) ∙ omega arith)
    (λ p h. absurd (omega arith))
    (λ p q h. absurd (omega arith))
    (λ p h. absurd (omega arith))

-- ---- all bytes are digits

pub and_assoc : (a b c : Bool) → (a && (b && c)) ≡ ((a && b) && c)
and_assoc true b c = refl
and_assoc false b c = refl

pub all_append : (bs cs : List ℕ) → all_digits (bs ++ cs) ≡ (all_digits bs && all_digits cs)
unfolding all_digits
all_append [] cs = refl
all_append (b ∷ bs) cs = ap (λ (t : Bool). ltb (digit_of b) 16 && t) (all_append bs cs) ∙ and_assoc (ltb (digit_of b) 16) (all_digits bs) (all_digits cs)

module _ (bs : List ℕ) (n : ℕ) (e : all_digits bs ≡ true) where
  parts_all : (all_digits (take n bs) ≡ true) × (all_digits (drop n bs) ≡ true)
  parts_all = both_true (all_digits (take n bs)) (all_digits (drop n bs)) (sym (all_append (take n bs) (drop n bs)) ∙ ap all_digits (take-append-drop n bs) ∙ e)

  pub all_take : all_digits (take n bs) ≡ true
  all_take = parts_all.0

  pub all_drop : all_digits (drop n bs) ≡ true
  all_drop = parts_all.1

-- ---- what digits stand for

-- one digit more at the end
pub number_last : (n : ℕ) (bs : List ℕ) (b : ℕ) → number_from n (bs ++ (b ∷ [])) ≡ number_from n bs * 16 + digit_of b % 16
unfolding number_from
number_last n [] b = refl
number_last n (c ∷ bs) b = number_last (n * 16 + digit_of c % 16) bs b

number_grows : (bs : List ℕ) (n k : ℕ) → n < 16 ^ k → number_from n bs < 16 ^ (k + length bs)
unfolding number_from
number_grows [] n k h = rw (add-zero k) h
number_grows (b ∷ bs) n k h =
    let g : n * 16 + digit_of b % 16 < 16 ^ suc k = rw pow-suc (omega arith) in
    let s : suc k + length bs ≡ k + suc (length bs) = omega arith in
    rw (← s) (number_grows bs (n * 16 + digit_of b % 16) (suc k) g)

-- k bytes stand for a number below 16 ^ k
pub number_below : (bs : List ℕ) (k : ℕ) → length bs ≤ k → number_of bs < 16 ^ k
number_below bs k h =
    let l = number_grows bs 0 0 (omega arith) in
    let m : 16 ^ (0 + length bs) ≤ 16 ^ k = pow-le-pow_right {n = 16} (omega arith) (omega arith) in
    omega arith

-- of at most 16 bytes no bit is cut off
pub number_whole : (bs : List ℕ) → length bs ≤ 16 → number_of bs % 2 ^ 64 ≡ number_of bs
number_whole bs h = mod-eq_of_lt (number_below bs 16 h)

-- ---- digits

pub length_digits : (k n : ℕ) → length (digits k n) ≡ k
unfolding digits
length_digits zero n = refl
length_digits (suc k) n = omega (arith, length-append (digits k (n / 16)) (glyph_of (n % 16) ∷ []), length_digits k (n / 16))

pub all_digits_lem : (k n : ℕ) → all_digits (digits k n) ≡ true
unfolding digits all_digits
all_digits_lem zero n = refl
all_digits_lem (suc k) n =
    let d : digit_of (glyph_of (n % 16)) ≡ n % 16 = digit_glyph (n % 16) (omega arith) in
    all_append (digits k (n / 16)) (glyph_of (n % 16) ∷ []) ∙ rw (all_digits_lem k (n / 16), d, lt-ltb (n % 16) 16 (omega arith))

-- the digits of a number that k digits can hold are read back as the number
pub number_digits : (k n : ℕ) → n < 16 ^ k → number_of (digits k n) ≡ n
unfolding digits number_from
number_digits zero n h = omega arith
number_digits (suc k) n h =
    let l : n / 16 < 16 ^ k = omega (arith, pow-suc 16 k) in
    let d : digit_of (glyph_of (n % 16)) ≡ n % 16 = digit_glyph (n % 16) (omega arith) in
    number_last 0 (digits k (n / 16)) (glyph_of (n % 16)) ∙ rw (number_digits k (n / 16) l, d) (omega arith)

digits_read : (bs : List ℕ) (k n : ℕ) → all_digits bs ≡ true → digits (k + length bs) (number_from n bs) ≡ digits k n ++ bs
unfolding digits number_from all_digits
digits_read [] k n h = rw (add-zero k, append-nil (digits k n))
digits_read (b ∷ bs) k n h =
    let p = both_true (ltb (digit_of b) 16) (all_digits bs) h in
    let l : digit_of b < 16 = ltb-true (digit_of b) 16 p.0 in
    let m : ℕ = n * 16 + digit_of b % 16 in
    let high : m / 16 ≡ n = omega arith in
    let low : m % 16 ≡ digit_of b = omega arith in
    let s : k + suc (length bs) ≡ suc k + length bs = omega arith in
    ap (λ (i : ℕ). digits i (number_from m bs)) s
    ∙ digits_read bs (suc k) m p.1
    ∙ append_assoc (digits k (m / 16)) (glyph_of (m % 16) ∷ []) bs
    ∙ ap₂ (λ (i d : ℕ). digits k i ++ (d ∷ bs)) high (ap glyph_of low ∙ glyph_digit b l)

-- the digits of what was read are the bytes that were read
pub digits_number : (bs : List ℕ) (k : ℕ) → length bs ≡ k → all_digits bs ≡ true → digits k (number_of bs) ≡ bs
unfolding digits
digits_number bs k e h = ap (λ (i : ℕ). digits i (number_of bs)) (let s : k ≡ 0 + length bs = omega arith in s) ∙ digits_read bs 0 0 h

-- ---- digits without zeros in front

-- from 1 to one more than the first number
pub places_range : (more n : ℕ) → (1 ≤ places_from more n) × (places_from more n ≤ suc more)
unfolding places_from
places_range zero n = (omega arith, omega arith)
places_range (suc more) n = go (ltb n 16) (places_range more (n / 16))
  where
    go : (p : Bool) → (1 ≤ places_from more (n / 16)) × (places_from more (n / 16) ≤ suc more)
        → (1 ≤ (if p then 1 else suc (places_from more (n / 16)))) × ((if p then 1 else suc (places_from more (n / 16))) ≤ suc (suc more))
    go true h = (omega arith, omega arith)
    go false h = (omega arith, omega arith)
