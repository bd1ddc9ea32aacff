-- Numbers that are read and written digit by digit. Assumes nothing.
use mathlib.Core.Path.{◌≡◌, refl, sym, ap, ap₂, ◌∙◌}
use mathlib.Core.Bool.{Bool, true, false, ◌&&◌}
use mathlib.Core.List.{List, [], ◌∷◌, ◌++◌, append_assoc}
use Prim.Native.Nat.{ℕ, zero, suc, ◌+◌, ◌-◌, ◌*◌, ◌/◌, ◌%◌, ◌^◌, ◌≤◌, ◌<◌, max}
use native.Mathlib.Nat.{pow-suc}
use native.Mathlib.Omega.{arith}
use lib.Dec.{ltb}
use lib.ListN.{length, take, drop, set}
use lib.Seq.{set_split, drop_at, length-take-le}
use borrow.Author.Tests.{lt-ltb, le-ltb}
use Rattle.expr.specs.Lent.{over}
use Rattle.hexadecimal.specs.Hex.{glyph_of, digit_of, digits, all_digits, number_from, number_of, places_from, places}
use Rattle.hexadecimal.specs.HexLaws.{all_append, number_last, length_digits}
use Rattle.hexadecimal.specs.declared.Parsed.{Parsed}

-- ---- `number`

-- what `number` says of bytes
abbrev pub parsed : List ℕ → Parsed
parsed bs = record { value = number_of bs % 2 ^ 64; good = all_digits bs }

pub none_read : ◌≡◌ {A = Parsed} (record { value = 0; good = true }) (parsed [])
unfolding number_from all_digits
none_read = refl

pub one_read : (bs : List ℕ) (b : ℕ) (p : Parsed) → p ≡ parsed bs → ◌≡◌ {A = Parsed} (record { value = p.value % 2 ^ 60 * 16 + digit_of b % 16; good = p.good && ltb (digit_of b) 16 }) (parsed (bs ++ (b ∷ [])))
unfolding all_digits
one_read bs b p r =
    let v : p.value ≡ number_of bs % 2 ^ 64 = ap (λ (q : Parsed). q.value) r in
    ap₂ (λ (v : ℕ) (g : Bool). record { value = v; good = g }) (rw (number_last 0 bs b) (omega (arith, v)))
    (ap₂ ◌&&◌ (ap (λ (q : Parsed). q.good) r) (and_true (ltb (digit_of b) 16)) ∙ sym (all_append bs (b ∷ [])))
  where
    and_true : (p : Bool) → p ≡ (p && true)
    and_true true = refl
    and_true false = refl

-- ---- `put_digits`

-- digits are written from the back: i of them are left, and they are those of `rest`
pub record Putting (n k : ℕ) (before after : List ℕ) (i rest : ℕ) : Type 0 where
  pub is : digits i rest ++ drop i after ≡ over (digits k n) before
  pub within : i ≤ length before

module _ (n k : ℕ) (before : List ℕ) where
  pub none_put : k ≤ length before → Putting n k before before k n
  none_put h = record {
    is = ap (λ (j : ℕ). digits k n ++ drop j before) (sym (length_digits k n));
    within = h;
  }

  module _ (after : List ℕ) (i rest : ℕ) (p : Putting n k before after i rest) where
    pub one_put : 0 < i → length after ≡ length before → (g : ℕ) → g ≡ glyph_of (rest % 16) → Putting n k before (set after (i - 1) g) (i - 1) (rest / 16)
    unfolding digits
    one_put h f g e =
        let j : ℕ = i - 1 in
        let s : suc j ≡ i = omega arith in
        let l : j < length after = omega (arith, p.within) in
        let c : drop j (set after j g) ≡ g ∷ drop (suc j) after = ap (drop j) (set_split after j g l) ∙ drop_at (take j after) (g ∷ drop (suc j) after) j (length-take-le j after (omega arith)) in
        record {
          is =
              rw (c, e) (sym (append_assoc (digits j (rest / 16)) (glyph_of (rest % 16) ∷ []) (drop (suc j) after)) ∙ ap (λ (m : ℕ). digits m rest ++ drop m after) s ∙ p.is);
          within = omega (arith, p.within);
        }

    pub all_put : i ≤ 0 → after ≡ over (digits k n) before
    unfolding digits
    all_put h = ap (λ (j : ℕ). digits j rest ++ drop j after) (let e : 0 ≡ i = omega arith in e) ∙ p.is

pub ruleset putting = (none_put, one_put, all_put)

-- ---- `count_places`

places_log : (more n m : ℕ) → n < 16 ^ suc more → 2 ^ m ≤ max n 1 → max n 1 < 2 * 2 ^ m → 1 + m / 4 ≡ places_from more n
unfolding places_from
places_log zero n zero h l u = omega arith
places_log zero n (suc zero) h l u = omega arith
places_log zero n (suc (suc zero)) h l u = omega arith
places_log zero n (suc (suc (suc zero))) h l u = omega arith
places_log zero n (suc (suc (suc (suc m)))) h l u = absurd (omega (arith, pow-suc 2 (suc (suc (suc m))), pow-suc 2 (suc (suc m)), pow-suc 2 (suc m), pow-suc 2 m))
places_log (suc more) n zero h l u = rw (lt-ltb n 16 (omega arith)) (omega arith)
places_log (suc more) n (suc zero) h l u = rw (lt-ltb n 16 (omega arith)) (omega arith)
places_log (suc more) n (suc (suc zero)) h l u = rw (lt-ltb n 16 (omega arith)) (omega arith)
places_log (suc more) n (suc (suc (suc zero))) h l u = rw (lt-ltb n 16 (omega arith)) (omega arith)
places_log (suc more) n (suc (suc (suc (suc m)))) h l u =
    let p : 2 ^ suc (suc (suc (suc m))) ≡ 2 ^ m * 16 = omega (arith, pow-suc 2 (suc (suc (suc m))), pow-suc 2 (suc (suc m)), pow-suc 2 (suc m), pow-suc 2 m) in
    let e : 1 + m / 4 ≡ places_from more (n / 16) = places_log more (n / 16) m (omega (arith, pow-suc 16 (suc more))) (omega (arith, p)) (omega (arith, p)) in
    rw (le-ltb n 16 (omega (arith, p))) (omega (arith, e))

-- a digit stands for four binary digits
pub places_of_log : (n m : ℕ) → n < 2 ^ 64 → 2 ^ m ≤ max n 1 → max n 1 < 2 * 2 ^ m → 1 + m / 4 ≡ places n
places_of_log n m h l u = places_log 15 n m h l u
