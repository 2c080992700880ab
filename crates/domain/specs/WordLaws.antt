-- Integers modulo 2^32 are a domain.
use Rattle.std.specs.Prelude.{◌≡◌, refl, ℕ, ◌+◌, ◌-◌, ◌*◌, ◌/◌, ◌%◌, ◌^◌, ◌<◌}
use Rattle.std.proofs.Common.{sym, ap, ◌∙◌, mod-eq_of_lt, add_comm, add_assoc, mul_comm, mul_assoc, mul-add, add-mul, mul-one, arith, eqb-true, eq-eqb}
use mathlib.Core.HLevel.{is_prop→PathP}
use Rattle.std.proofs.Math.Bridge.{le_prop}
use Rattle.std.proofs.Math.Nat.{mod-add-mod, add-mod-mod, mod-add-div, add-mul-mod_self_left}
use Rattle.domain.specs.Ring.{Laws}
use Rattle.domain.specs.Words.{word_of, word_ops}
use Rattle.domain.specs.declared.word.Word.{Word}

-- a word is known by its bits
pub bits_path : (v w : Word) → v.bits ≡ w.bits → v ≡ w
bits_path v w e = λ i. record { bits = e i; fits = is_prop→PathP (λ k. e k < 2 ^ 32) (λ k. le_prop) v.fits w.fits i }

-- a remainder in a product may be taken later
pub mod_mul_mod : (a b m : ℕ) → (a % m * b) % m ≡ (a * b) % m
mod_mul_mod a b m =
    let e : a * b ≡ a % m * b + m * (a / m * b) =
    ap (λ w. w * b) (sym (mod-add-div a m)) ∙ add-mul (a % m) (m * (a / m)) b ∙ ap (λ w. a % m * b + w) (mul_assoc m (a / m) b) in
    sym (ap (λ w. w % m) e ∙ add-mul-mod_self_left (a % m * b) m (a / m * b))

pub mul_mod_mod : (a b m : ℕ) → (a * (b % m)) % m ≡ (a * b) % m
mul_mod_mod a b m = ap (λ w. w % m) (mul_comm a (b % m)) ∙ mod_mul_mod b a m ∙ ap (λ w. w % m) (mul_comm b a)

of_path : (a b : ℕ) → a % 2 ^ 32 ≡ b % 2 ^ 32 → word_of a ≡ word_of b
of_path a b e = bits_path (word_of a) (word_of b) e

of_bits : (w : Word) → word_of w.bits ≡ w
of_bits w = bits_path (word_of w.bits) w (mod-eq_of_lt w.fits)

pub word_laws : Laws word_ops
word_laws = record {
  add_comm = λ x y. ap word_of (add_comm x.bits y.bits);
  add_assoc = λ x y z. of_path _ _ (mod-add-mod (x.bits + y.bits) (2 ^ 32) z.bits ∙ ap (λ n. n % 2 ^ 32) (add_assoc x.bits y.bits z.bits) ∙ sym (add-mod-mod x.bits (y.bits + z.bits) (2 ^ 32)));
  add_zero = λ x. bits_path _ x (omega (arith, x.fits));
  add_neg = λ x. of_path _ 0 (add-mod-mod x.bits (2 ^ 32 - x.bits) (2 ^ 32) ∙ omega (arith, x.fits));
  mul_comm = λ x y. ap word_of (mul_comm x.bits y.bits);
  mul_assoc = λ x y z. of_path _ _ (mod_mul_mod (x.bits * y.bits) z.bits (2 ^ 32) ∙ ap (λ n. n % 2 ^ 32) (mul_assoc x.bits y.bits z.bits) ∙ sym (mul_mod_mod x.bits (y.bits * z.bits) (2 ^ 32)));
  mul_one = λ x. ap word_of (mul-one x.bits) ∙ of_bits x;
  mul_add = λ x y z. of_path _ _ (
      mul_mod_mod x.bits (y.bits + z.bits) (2 ^ 32) ∙ ap (λ n. n % 2 ^ 32) (mul-add x.bits y.bits z.bits)
      ∙ sym (mod-add-mod (x.bits * y.bits) (2 ^ 32) (x.bits * z.bits))
      ∙ sym (add-mod-mod (x.bits * y.bits % 2 ^ 32) (x.bits * z.bits) (2 ^ 32)));
  constant_zero = refl;
  constant_one = refl;
  same_yes = λ x y t. bits_path x y (eqb-true x.bits y.bits t);
  same_refl = λ x. eq-eqb x.bits x.bits refl;
}
