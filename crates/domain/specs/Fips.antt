-- Multiplication of bytes as FIPS 197 defines it: polynomials over the bits, modulo x^8 + x^4 + x^3 + x + 1, which is hex 11b.
use Rattle.std.specs.Prelude.{cond, ℕ, zero, suc, ◌*◌, ◌/◌, ◌%◌, eqb}
use Rattle.std.specs.Int.Bits.{bit_xor}

-- a where the bit is 1, else 0
abbrev pub picked : ℕ → ℕ → ℕ
picked a bit = cond (eqb bit 1) a 0

-- times x: a shift to the left, and where bit 7 was set the modulus is taken off
unfoldable pub xtime : ℕ → ℕ
xtime a = bit_xor (a * 2) (picked 0x11b (a / 128))

-- the sum of a times x^i over the bits i that are set among the lowest k of b
abbrev pub shifts : ℕ → ℕ → ℕ → ℕ
shifts zero a b = 0
shifts (suc k) a b = bit_xor (picked a (b % 2)) (shifts k (xtime a) (b / 2))

-- the product of two bytes
unfoldable pub byte_times : ℕ → ℕ → ℕ
byte_times = shifts 8

-- hex 03 to the power k
abbrev pub three_to : ℕ → ℕ
three_to zero = 1
three_to (suc k) = byte_times 3 (three_to k)
