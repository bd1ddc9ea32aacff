-- Numbers as lower-case hexadecimal digits, on lists of bytes. Definitions only.
use Rattle.std.specs.Prelude.{Bool, true, ◌&&◌, List, [], ◌∷◌, ◌++◌, ℕ, zero, suc, ◌+◌, ◌-◌, ◌*◌, ◌/◌, ◌%◌, ltb, if◌then◌else◌}

-- the byte of a digit below 16: in hexadecimal 30 to 39 for 0 to 9, 61 to 66 for a to f
abbrev pub glyph_of : ℕ → ℕ
glyph_of d = if ltb d 10 then 48 + d else 87 + d

-- the digit that a byte stands for; 16 where it stands for none; an upper-case letter stands for none
abbrev pub digit_of : ℕ → ℕ
digit_of b =
    if ltb b 48 then 16 else
    if ltb b 58 then b - 48 else
    if ltb b 97 then 16 else
    if ltb b 103 then b - 87 else
    16

-- the last k digits of n, the highest first
unfoldable pub digits : ℕ → ℕ → List ℕ
digits zero n = []
digits (suc k) n = digits k (n / 16) ++ (glyph_of (n % 16) ∷ [])

-- every byte stands for a digit
unfoldable pub all_digits : List ℕ → Bool
all_digits [] = true
all_digits (b ∷ bs) = ltb (digit_of b) 16 && all_digits bs

-- the number that digits stand for behind those of n, the highest first; a byte that stands for none counts as 0
unfoldable pub number_from : ℕ → List ℕ → ℕ
number_from n [] = n
number_from n (b ∷ bs) = number_from (n * 16 + digit_of b % 16) bs

-- the number that digits stand for
abbrev pub number_of : List ℕ → ℕ
number_of bs = number_from 0 bs

-- how many digits n has without zeros in front, but at most one more than the first number
unfoldable pub places_from : ℕ → ℕ → ℕ
places_from zero n = 1
places_from (suc more) n = if ltb n 16 then 1 else suc (places_from more (n / 16))

-- how many digits a number of 64 bits has without zeros in front
abbrev pub places : ℕ → ℕ
places n = places_from 15 n

-- a number of 64 bits in hexadecimal without zeros in front
unfoldable pub hex_text : ℕ → List ℕ
hex_text n = digits (places n) n
