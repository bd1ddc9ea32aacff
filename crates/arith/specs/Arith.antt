-- arith.rs: what its functions answer, on all 64-bit words and all widths, those outside 1 to 64 too. Definitions only.
use Rattle.std.specs.Prelude.{ℕ, ◌+◌, ◌-◌, ◌*◌, ◌/◌, ◌%◌, ◌^◌, min, nat_lt, if◌then◌else◌}

-- how many numbers w bits hold; a word has 64 bits, so a larger width counts as 64
abbrev pub size : ℕ → ℕ
size w = 2 ^ min w 64

-- the low w bits set
abbrev pub bitmask_of : ℕ → ℕ
bitmask_of w = size w - 1

-- the highest of w bits set; 0 where there is none
abbrev pub sign_bit_mask_of : ℕ → ℕ
sign_bit_mask_of w = size w / 2

-- the sum's low w bits
abbrev pub mod_add : ℕ → ℕ → ℕ → ℕ
mod_add a b w = (a + b) % size w

-- the difference's low w bits, a borrow out of the word being dropped
abbrev pub mod_sub : ℕ → ℕ → ℕ → ℕ
mod_sub a b w = (a + (2 ^ 64 - b)) % size w

-- the product's low w bits
abbrev pub mod_mul : ℕ → ℕ → ℕ → ℕ
mod_mul a b w = (a * b) % size w

-- the low w bits of the word's two's complement
abbrev pub mod_neg : ℕ → ℕ → ℕ
mod_neg a w = (2 ^ 64 - a) % size w

-- the low w bits of the word's complement
abbrev pub mod_not : ℕ → ℕ → ℕ
mod_not a w = (2 ^ 64 - 1 - a) % size w

-- the whole word is shifted, and then its low w bits are taken
abbrev pub mod_shr : ℕ → ℕ → ℕ → ℕ
mod_shr a k w = a / 2 ^ k % size w

-- the low `to` bits: zero extension and truncation
abbrev pub low_bits : ℕ → ℕ → ℕ
low_bits v to = v % size to

-- `sext`: the low `from` bits; where the highest of them is set, all higher bits of the word too; of that the low `to` bits
abbrev pub sign_extended : ℕ → ℕ → ℕ → ℕ
sign_extended v from to =
    let low : ℕ = v % size from in
    (low + (if nat_lt (2 * low) (size from) then 0 else 2 ^ 64 - size from)) % size to
