-- Integers modulo 2^32: the operations.
use Rattle.std.specs.Prelude.{ℕ, ◌+◌, ◌-◌, ◌*◌, ◌%◌, ◌^◌, eqb}
use Rattle.std.proofs.Common.{arith, to_z}
use Rattle.std.specs.Int.Signed.{lt_z}
use Rattle.std.specs.Int.{w32}
use Rattle.domain.specs.Ring.{Ops}
use Rattle.domain.specs.declared.word.Word.{Word}

-- the word of a number: its remainder modulo 2^32
abbrev pub word_of : ℕ → Word
word_of n = record { bits = n % 2 ^ 32; fits = omega arith }

-- `below` compares the bits as two's complement
abbrev pub word_ops : Ops Word
word_ops = record {
  zero = word_of 0;
  one = word_of 1;
  add = λ x y. word_of (x.bits + y.bits);
  neg = λ x. word_of (2 ^ 32 - x.bits);
  mul = λ x y. word_of (x.bits * y.bits);
  constant = word_of;
  same = λ x y. eqb x.bits y.bits;
  below = λ x y. lt_z (to_z w32 x.bits) (to_z w32 y.bits);
}
