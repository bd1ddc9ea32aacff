-- What private functions promise one another. Definitions only.
use Rattle.std.specs.Prelude.{◌≡◌, List, ℕ, [], ◌++◌, ◌+◌, ◌-◌, ◌%◌, ◌<◌, length, leb, get_or, if◌then◌else◌}
use Rattle.std.specs.Int.Bits.{bit_or}

-- The marks of places that a call is lent

-- a5c3 in hexadecimal, 12 digits 0, and the place's number in these
abbrev pub word_mark : ℕ → ℕ
word_mark i = bit_or i 11944390636716687360

-- down from 255 to 128, and again
abbrev pub byte_mark : ℕ → ℕ
byte_mark i = 255 - i % 128

-- so many of the first places have their marks, whatever is read past the end
pub record Marked {A : Type 0} (mark : ℕ → A) (xs : List A) (n : ℕ) : Type 0 where
  pub each : (i : ℕ) (past : A) → i < n → get_or xs i past ≡ mark i

-- The bytes that wait to be written

-- what waits in so many places once bytes are put: behind what waited where there is room, else alone, and nothing where they are more than all places
abbrev pub waits_then : ℕ → List ℕ → List ℕ → List ℕ
waits_then places before bytes =
    if leb (length before + length bytes) places then before ++ bytes
    else (if leb (length bytes) places then bytes else [])
