-- Operands that are read and written in two halves, of which most are zeros. Assumes nothing.
use mathlib.Core.Path.{◌≡◌, refl, sym, ap, ap₂, subst, ◌∙◌}
use mathlib.Core.Bool.{Bool, true, false, ◌&&◌}
use mathlib.Core.List.{List, [], ◌∷◌, ◌++◌, append_assoc, append-nil}
use Prim.Native.Nat.{ℕ, zero, suc, ◌+◌, ◌*◌, ◌/◌, ◌%◌, ◌^◌, ◌≤◌, ◌<◌, min}
use native.Mathlib.Nat.{pow-suc, add-zero, add-mul, mul_assoc, mul_comm, div-div-eq-div-mul}
use native.Mathlib.Omega.{arith}
use lib.Dec.{eqb}
use lib.ListN.{length, take, drop, get_or, length-append, length-drop}
use lib.Seq.{take_all, take-add, take_at, drop_at, drop-drop, drop-length, length-take-le}
use borrow.Author.Tests.{eqb-true}
use borrow.Rule.Slice.PartMut.{put_mid}
use Rattle.std.specs.Prelude.{replicate}
use Rattle.expr.specs.Parts.{part, Laid}
use Rattle.expr.specs.Lent.{over}
use Rattle.arith.specs.ChoiceLaws.{both_true}
use Rattle.hexadecimal.specs.Hex.{glyph_of, digit_of, digits, all_digits, number_from, number_of}
use Rattle.hexadecimal.specs.Promises.{all_zeros}
use Rattle.hexadecimal.specs.HexLaws.{and_assoc, all_append, number_below, number_whole, length_digits}
use Rattle.hexadecimal.specs.Nodes.{nodes_text}
use Rattle.hexadecimal.specs.declared.Parsed.{Parsed}
use Rattle.hexadecimal.proofs.NumberLaws.{parsed}

-- ---- `is_zeros`

zeros_last : (bs : List ℕ) (b : ℕ) → all_zeros (bs ++ (b ∷ [])) ≡ (all_zeros bs && eqb b 48)
unfolding all_zeros
zeros_last [] b = and_true (eqb b 48)
  where
    and_true : (p : Bool) → (p && true) ≡ p
    and_true true = refl
    and_true false = refl
zeros_last (c ∷ bs) b = ap (λ (t : Bool). eqb c 48 && t) (zeros_last bs b) ∙ and_assoc (eqb c 48) (all_zeros bs) (eqb b 48)

pub none_tested : true ≡ all_zeros []
unfolding all_zeros
none_tested = refl

pub one_tested : (bs : List ℕ) (b : ℕ) (zeros : Bool) → zeros ≡ all_zeros bs → (zeros && eqb b 48) ≡ all_zeros (bs ++ (b ∷ []))
one_tested bs b zeros e = ap (λ (p : Bool). p && eqb b 48) e ∙ sym (zeros_last bs b)

-- ---- `half`

zeros_number : (bs : List ℕ) → all_zeros bs ≡ true → number_of bs ≡ 0
unfolding all_zeros number_from
zeros_number [] e = refl
zeros_number (b ∷ bs) e =
    let p = both_true (eqb b 48) (all_zeros bs) e in
    rw (eqb-true b 48 p.0) (zeros_number bs p.1)

zeros_good : (bs : List ℕ) → all_zeros bs ≡ true → all_digits bs ≡ true
unfolding all_zeros all_digits
zeros_good [] e = refl
zeros_good (b ∷ bs) e =
    let p = both_true (eqb b 48) (all_zeros bs) e in
    rw (eqb-true b 48 p.0) (zeros_good bs p.1)

pub zeros_parsed : (s : List ℕ) (zeros : Bool) → zeros ≡ all_zeros s → zeros ≡ true → ◌≡◌ {A = Parsed} (record { value = 0; good = true }) (parsed s)
zeros_parsed s zeros e f =
    let g : all_zeros s ≡ true = sym e ∙ f in
    ap₂ (λ (v : ℕ) (t : Bool). record { value = v; good = t }) (sym (ap (λ (n : ℕ). n % 2 ^ 64) (zeros_number s g))) (sym (zeros_good s g))

-- ---- `operand`

-- digits behind those of n
number_behind : (bs : List ℕ) (n : ℕ) → number_from n bs ≡ n * 16 ^ length bs + number_of bs
unfolding number_from
number_behind [] n = omega arith
number_behind (b ∷ bs) n =
    let d : ℕ = digit_of b % 16 in
    let x : ℕ = 16 ^ length bs in
    let m : (n * 16 + d) * x ≡ n * (x * 16) + d * x = add-mul (n * 16) d x ∙ ap (λ (y : ℕ). y + d * x) (mul_assoc n 16 x ∙ ap (λ (y : ℕ). n * y) (mul_comm 16 x)) in
    let p : n * 16 ^ suc (length bs) ≡ n * (x * 16) = ap (λ (y : ℕ). n * y) (pow-suc 16 (length bs)) in
    let z : 0 * 16 + d ≡ d = omega arith in
    let r : number_from (0 * 16 + d) bs ≡ d * x + number_of bs = number_behind bs (0 * 16 + d) ∙ ap (λ (y : ℕ). y * x + number_of bs) z in
    number_behind bs (n * 16 + d) ∙ ap (λ (y : ℕ). y + number_of bs) m ∙ omega (arith, p, r)

number_append : (n : ℕ) (bs cs : List ℕ) → number_from n (bs ++ cs) ≡ number_from (number_from n bs) cs
unfolding number_from
number_append n [] cs = refl
number_append n (b ∷ bs) cs = number_append (n * 16 + digit_of b % 16) bs cs

module _ (s : List ℕ) (l : length s ≡ 16) where
  halves : part 0 8 s ++ part 8 16 s ≡ s
  halves = sym (take-add 8 8 s) ∙ take_all 16 s (omega arith)

  high_long : length (part 0 8 s) ≡ 8
  high_long = length-take-le 8 s (omega arith)

  low_long : length (part 8 16 s) ≡ 8
  low_long = length-take-le 8 (drop 8 s) (omega (arith, length-drop 8 s))

  halves_number : number_of s ≡ number_of (part 0 8 s) * 2 ^ 32 + number_of (part 8 16 s)
  halves_number =
      ap number_of (sym halves)
      ∙ number_append 0 (part 0 8 s) (part 8 16 s)
      ∙ number_behind (part 8 16 s) (number_of (part 0 8 s))
      ∙ ap (λ (k : ℕ). number_of (part 0 8 s) * 16 ^ k + number_of (part 8 16 s)) low_long

  module _ (high low : Parsed) (e : high ≡ parsed (part 0 8 s)) where
    high_is : high.value ≡ number_of (part 0 8 s)
    high_is = ap (λ (p : Parsed). p.value) e ∙ number_whole (part 0 8 s) (omega (arith, high_long))

    pub high_fits : high.value * 2 ^ 32 < 2 ^ 64
    high_fits = omega (arith, high_is, number_below (part 0 8 s) 8 (omega (arith, high_long)))

    module _ (f : low ≡ parsed (part 8 16 s)) where
      low_is : low.value ≡ number_of (part 8 16 s)
      low_is = ap (λ (p : Parsed). p.value) f ∙ number_whole (part 8 16 s) (omega (arith, low_long))

      pub both_fit : high.value * 2 ^ 32 + low.value < 2 ^ 64
      both_fit = omega (arith, high_is, low_is, number_below (part 0 8 s) 8 (omega (arith, high_long)), number_below (part 8 16 s) 8 (omega (arith, low_long)))

      pub halves_parsed : ◌≡◌ {A = Parsed} (record { value = high.value * 2 ^ 32 + low.value; good = high.good && low.good }) (parsed s)
      halves_parsed =
          ap₂ (λ (v : ℕ) (t : Bool). record { value = v; good = t })
          (ap₂ (λ (u v : ℕ). u * 2 ^ 32 + v) high_is low_is ∙ sym halves_number ∙ sym (number_whole s (omega arith)))
          (ap₂ (λ (p q : Parsed). p.good && q.good) e f ∙ sym (all_append (part 0 8 s) (part 8 16 s)) ∙ ap all_digits halves)

pub ruleset joining = (high_fits, both_fit, halves_parsed)

-- ---- `put_half`

module _ (n : ℕ) (before after : List ℕ) (l : length before ≡ 8) where
  pub zeros_put : n ≡ 0 → after ≡ replicate (length before) 48 → after ≡ digits 8 n
  unfolding digits
  zeros_put z e = e ∙ ap (λ (k : ℕ). replicate k 48) l ∙ ap (digits 8) (sym z)

  pub half_put : after ≡ over (digits (min 8 (length before)) n) before → after ≡ digits 8 n
  half_put e =
      let m : min 8 (length before) ≡ 8 = omega arith in
      let d : drop (length (digits 8 n)) before ≡ [] = ap (λ (j : ℕ). drop j before) (length_digits 8 n ∙ sym l) ∙ drop-length before in
      e ∙ ap (λ (j : ℕ). over (digits j n) before) m ∙ ap (λ (w : List ℕ). digits 8 n ++ w) d ∙ append-nil (digits 8 n)

-- ---- `put_node`

-- what stands above the last k digits makes no difference to them
digits_low : (k n q : ℕ) → digits k (n + q * 16 ^ k) ≡ digits k n
unfolding digits
digits_low zero n q = refl
digits_low (suc k) n q =
    let y : ℕ = q * 16 ^ k in
    let e : n + q * 16 ^ suc k ≡ n + y * 16 = ap (λ (x : ℕ). n + x) (ap (λ (x : ℕ). q * x) (pow-suc 16 k) ∙ sym (mul_assoc q (16 ^ k) 16)) in
    let high : (n + y * 16) / 16 ≡ n / 16 + y = omega arith in
    let low : (n + y * 16) % 16 ≡ n % 16 = omega arith in
    rw (e, high, low, digits_low k (n / 16) q)

digits_append : (a b n : ℕ) → digits (a + b) n ≡ digits a (n / 16 ^ b) ++ digits b n
unfolding digits
digits_append a zero n = ap₂ digits (add-zero a) (let e : n ≡ n / 16 ^ 0 = omega arith in e) ∙ sym (append-nil (digits a (n / 16 ^ 0)))
digits_append a (suc b) n =
    let e : n / 16 / 16 ^ b ≡ n / 16 ^ suc b = div-div-eq-div-mul n 16 (16 ^ b) ∙ ap (λ (x : ℕ). n / x) (mul_comm 16 (16 ^ b) ∙ sym (pow-suc 16 b)) in
    let s : a + suc b ≡ suc (a + b) = omega arith in
    let g : List ℕ = glyph_of (n % 16) ∷ [] in
    ap (λ (j : ℕ). digits j n) s
    ∙ ap (λ (w : List ℕ). w ++ g) (digits_append a b (n / 16) ∙ ap (λ (x : ℕ). digits a x ++ digits b (n / 16)) e)
    ∙ append_assoc (digits a (n / 16 ^ suc b)) (digits b (n / 16)) g

-- the digits of an operand by halves
halves_digits : (n : ℕ) → digits 8 (n / 2 ^ 32) ++ digits 8 (n % 2 ^ 32) ≡ digits 16 n
halves_digits n =
    let e : n % 2 ^ 32 + n / 2 ^ 32 * 16 ^ 8 ≡ n = omega arith in
    ap (λ (w : List ℕ). digits 8 (n / 2 ^ 32) ++ w) (sym (digits_low 8 (n % 2 ^ 32) (n / 2 ^ 32)) ∙ ap (digits 8) e) ∙ sym (digits_append 8 8 n)

-- a part behind what is written, filled
laid_part : (before first xs : List ℕ) → Laid before first xs → (n k : ℕ) → n ≡ length xs → (ys : List ℕ) → length ys ≡ k → Laid before (put_mid n k first ys) (xs ++ ys)
laid_part before first xs l n k e ys f = record {
  is =
      let rest : List ℕ = drop (length xs) before in
      ap₂ (λ (u v : List ℕ). u ++ (ys ++ drop k v)) (ap (take n) l.is ∙ take_at xs rest n (sym e)) (ap (drop n) l.is ∙ drop_at xs rest n (sym e))
      ∙ ap (λ (u : List ℕ). xs ++ (ys ++ u)) (drop-drop k (length xs) before ∙ ap (λ (i : ℕ). drop i before) (ap (λ (i : ℕ). length xs + i) (sym f) ∙ sym (length-append xs ys)))
      ∙ sym (append_assoc xs ys (drop (length (xs ++ ys)) before));
}

module _ (words before first : List ℕ) (h : 18 ≤ length before) (e : first ≡ over (digits (min 2 (length before)) (get_or words 0 0)) before) where
  abbrev kind : List ℕ
  kind = digits 2 (get_or words 0 0)

  kind_laid : Laid before first kind
  kind_laid = record { is = e ∙ ap (λ (j : ℕ). over (digits j (get_or words 0 0)) before) (let m : min 2 (length before) ≡ 2 = omega arith in m) }

  module _ (high : List ℕ) (f : high ≡ digits 8 (get_or words 1 0 / 2 ^ 32)) where
    abbrev both : List ℕ
    both = put_mid 2 8 first high

    both_laid : Laid before both (kind ++ high)
    both_laid = laid_part before first kind kind_laid 2 8 (sym (length_digits 2 (get_or words 0 0))) high (ap length f ∙ length_digits 8 (get_or words 1 0 / 2 ^ 32))

    both_count : length (kind ++ high) ≡ 10
    both_count = length-append kind high ∙ ap₂ (λ (i j : ℕ). i + j) (length_digits 2 (get_or words 0 0)) (ap length f ∙ length_digits 8 (get_or words 1 0 / 2 ^ 32))

    pub node_put : (low : List ℕ) → low ≡ digits 8 (get_or words 1 0 % 2 ^ 32) → Laid before (put_mid 10 8 (put_mid 2 8 first high) low) (nodes_text 1 words)
    unfolding nodes_text
    node_put low g =
        let o : high ++ low ≡ digits 16 (get_or words 1 0) = ap₂ (λ (u v : List ℕ). u ++ v) f g ∙ halves_digits (get_or words 1 0) in
        subst (Laid before (put_mid 10 8 both low))
        (append_assoc kind high low ∙ ap (λ (w : List ℕ). kind ++ w) (o ∙ sym (append-nil (digits 16 (get_or words 1 0)))))
        (laid_part before both (kind ++ high) both_laid 10 8 (sym both_count) low (ap length g ∙ length_digits 8 (get_or words 1 0 % 2 ^ 32)))
