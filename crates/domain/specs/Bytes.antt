-- The field of FIPS 197: the operations.
use Rattle.std.specs.Prelude.{ℕ, ◌%◌, eqb, ltb}
use Rattle.std.proofs.Common.{arith}
use Rattle.std.specs.Int.Bits.{bit_xor}
use Rattle.domain.specs.Ring.{Ops}
use Rattle.domain.specs.Fips.{byte_times}
use Rattle.domain.specs.declared.byte.Byte.{Byte}

-- the byte of a number: its remainder modulo 256
abbrev pub byte_of : ℕ → Byte
byte_of n = record { value = n % 256; fits = omega arith }

-- Each byte is its own opposite; `below` compares unsigned.
abbrev pub byte_ops : Ops Byte
byte_ops = record {
  zero = byte_of 0;
  one = byte_of 1;
  add = λ x y. byte_of (bit_xor x.value y.value);
  neg = λ x. x;
  mul = λ x y. byte_of (byte_times x.value y.value);
  constant = byte_of;
  same = λ x y. eqb x.value y.value;
  below = λ x y. ltb x.value y.value;
}
