-- SMT-LIB's bit vectors of w bits: the operations of the theory FixedSizeBitVectors, and bvxor of the logic QF_BV. A vector stands for
-- the number that the theory's bv2nat gives it, which is below 2 ^ w. Definitions only.
use Rattle.std.specs.Prelude.{ℕ, ◌+◌, ◌-◌, ◌*◌, ◌/◌, ◌%◌, ◌^◌, bit_and, bit_or, bit_xor, nat_lt, if◌then◌else◌}

-- all w bits set
abbrev pub ones : ℕ → ℕ
ones w = 2 ^ w - 1

-- the sum modulo 2 ^ w
abbrev pub bvadd : ℕ → ℕ → ℕ → ℕ
bvadd w x y = (x + y) % 2 ^ w

-- the product modulo 2 ^ w
abbrev pub bvmul : ℕ → ℕ → ℕ → ℕ
bvmul w x y = (x * y) % 2 ^ w

-- the two's complement
abbrev pub bvneg : ℕ → ℕ → ℕ
bvneg w x = (2 ^ w - x) % 2 ^ w

-- each bit complemented
abbrev pub bvnot : ℕ → ℕ → ℕ
bvnot w x = ones w - x

-- bit by bit: 1 where both bits are
abbrev pub bvand : ℕ → ℕ → ℕ
bvand x y = bit_and x y

-- bit by bit: 1 where either bit is
abbrev pub bvor : ℕ → ℕ → ℕ
bvor x y = bit_or x y

-- bit by bit: 1 where the bits differ
abbrev pub bvxor : ℕ → ℕ → ℕ
bvxor x y = bit_xor x y

-- the logical shift right by k places; k is a plain number and no vector, and from w up nothing is left
abbrev pub bvlshr : ℕ → ℕ → ℕ → ℕ
bvlshr w x k = if nat_lt k w then x / 2 ^ k else 0

-- bit i of a vector, the lowest being bit 0; the laws that go bit by bit are stated with it
abbrev pub bit : ℕ → ℕ → ℕ
bit i x = x / 2 ^ i % 2
