-- A domain of values: its operations and tests, and the laws that they keep.
use Rattle.std.specs.Prelude.{◌≡◌, Bool, true, ℕ}

pub record Ops (V : Type 0) : Type 0 where
  pub zero : V
  pub one : V
  pub add : V → V → V
  pub neg : V → V
  pub mul : V → V → V
  -- the value of a constant number
  pub constant : ℕ → V
  -- the two tests; `below` is any function of its two values
  pub same : V → V → Bool
  pub below : V → V → Bool

-- With sum, negation and product the values are a commutative ring.
-- Constants 0 and 1 are zero and one; of the other constants nothing is said: 2 need not be 1 + 1.
pub record Laws {V : Type 0} (o : Ops V) : Type 0 where
  pub add_comm : (x y : V) → o.add x y ≡ o.add y x
  pub add_assoc : (x y z : V) → o.add (o.add x y) z ≡ o.add x (o.add y z)
  pub add_zero : (x : V) → o.add x o.zero ≡ x
  pub add_neg : (x : V) → o.add x (o.neg x) ≡ o.zero
  pub mul_comm : (x y : V) → o.mul x y ≡ o.mul y x
  pub mul_assoc : (x y z : V) → o.mul (o.mul x y) z ≡ o.mul x (o.mul y z)
  pub mul_one : (x : V) → o.mul x o.one ≡ x
  pub mul_add : (x y z : V) → o.mul x (o.add y z) ≡ o.add (o.mul x y) (o.mul x z)
  pub constant_zero : o.constant 0 ≡ o.zero
  pub constant_one : o.constant 1 ≡ o.one
  -- `same` says yes exactly for equal values
  pub same_yes : (x y : V) → o.same x y ≡ true → x ≡ y
  pub same_refl : (x : V) → o.same x x ≡ true
