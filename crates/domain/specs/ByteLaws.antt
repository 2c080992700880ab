-- The bytes of FIPS 197 are a domain.
use Rattle.std.specs.Prelude.{◌≡◌, refl, ◌%◌, ◌<◌}
use Rattle.std.proofs.Common.{sym, ap, ◌∙◌, mod-eq_of_lt, eqb-true, eq-eqb}
use mathlib.Core.HLevel.{is_prop→PathP}
use Rattle.std.proofs.Math.Bridge.{le_prop}
use Rattle.std.specs.Int.Bits.{bit_xor, xor_assoc, xor_self, xor_zero_r}
use Rattle.std.proofs.lemmas.Nat.{xor_lt, xor_comm}
use Rattle.domain.specs.Ring.{Laws}
use Rattle.domain.specs.Bytes.{byte_of, byte_ops}
use Rattle.domain.specs.Fips.{byte_times}
use Rattle.domain.specs.Shifts.{byte_times_lt, byte_times_xor, byte_times_one}
use Rattle.domain.specs.Products.{byte_times_comm, byte_times_assoc}
use Rattle.domain.specs.declared.byte.Byte.{Byte}

-- a byte is known by its value
pub value_path : (v w : Byte) → v.value ≡ w.value → v ≡ w
value_path v w e = λ i. record { value = e i; fits = is_prop→PathP (λ k. e k < 256) (λ k. le_prop) v.fits w.fits i }

of_value : (w : Byte) → byte_of w.value ≡ w
of_value w = value_path (byte_of w.value) w (mod-eq_of_lt w.fits)

pub xor_id : (x y : Byte) → bit_xor x.value y.value % 256 ≡ bit_xor x.value y.value
xor_id x y = mod-eq_of_lt (xor_lt 8 x.value y.value x.fits y.fits)

byte_times_id : (x y : Byte) → byte_times x.value y.value % 256 ≡ byte_times x.value y.value
byte_times_id x y = mod-eq_of_lt (byte_times_lt x.value y.value x.fits)

pub byte_laws : Laws byte_ops
byte_laws = record {
  add_comm = λ x y. ap byte_of (xor_comm x.value y.value);
  add_assoc = λ x y z. ap byte_of (
      ap (λ w. bit_xor w z.value) (xor_id x y) ∙ xor_assoc x.value y.value z.value ∙ ap (bit_xor x.value) (sym (xor_id y z)));
  add_zero = λ x. ap byte_of (xor_zero_r x.value) ∙ of_value x;
  add_neg = λ x. ap byte_of (xor_self x.value);
  mul_comm = λ x y. ap byte_of (byte_times_comm x.value y.value x.fits y.fits);
  mul_assoc = λ x y z. ap byte_of (
      ap (λ w. byte_times w z.value) (byte_times_id x y) ∙ byte_times_assoc x.value y.value z.value x.fits y.fits z.fits
      ∙ ap (byte_times x.value) (sym (byte_times_id y z)));
  mul_one = λ x. ap byte_of (byte_times_one x.value) ∙ of_value x;
  mul_add = λ x y z. ap byte_of (
      ap (byte_times x.value) (xor_id y z) ∙ byte_times_xor x.value y.value z.value
      ∙ ap (λ w. bit_xor w (byte_times x.value z.value)) (sym (byte_times_id x y)) ∙ ap (bit_xor (byte_times x.value y.value % 256)) (sym (byte_times_id x z)));
  constant_zero = refl;
  constant_one = refl;
  same_yes = λ x y t. value_path x y (eqb-true x.value y.value t);
  same_refl = λ x. eq-eqb x.value x.value refl;
}
