-- What follows from the laws of a domain.
use mathlib.Core.Path.{◌≡◌, sym, ap, ◌∙◌}
use Rattle.domain.specs.Ring.{Ops, Laws}

module _ {V : Type 0} {o : Ops V} (laws : Laws o) where
  -- the laws themselves, for the list of a `simp`
  pub r_add_comm : (x y : V) → o.add x y ≡ o.add y x
  r_add_comm = laws.add_comm

  pub r_add_assoc : (x y z : V) → o.add (o.add x y) z ≡ o.add x (o.add y z)
  r_add_assoc = laws.add_assoc

  pub r_add_zero : (x : V) → o.add x o.zero ≡ x
  r_add_zero = laws.add_zero

  pub r_add_neg : (x : V) → o.add x (o.neg x) ≡ o.zero
  r_add_neg = laws.add_neg

  pub r_mul_comm : (x y : V) → o.mul x y ≡ o.mul y x
  r_mul_comm = laws.mul_comm

  pub r_mul_assoc : (x y z : V) → o.mul (o.mul x y) z ≡ o.mul x (o.mul y z)
  r_mul_assoc = laws.mul_assoc

  pub r_mul_one : (x : V) → o.mul x o.one ≡ x
  r_mul_one = laws.mul_one

  pub r_mul_add : (x y z : V) → o.mul x (o.add y z) ≡ o.add (o.mul x y) (o.mul x z)
  r_mul_add = laws.mul_add

  pub zero_add : (x : V) → o.add o.zero x ≡ x
  zero_add x = laws.add_comm o.zero x ∙ laws.add_zero x

  pub neg_add : (x : V) → o.add (o.neg x) x ≡ o.zero
  neg_add x = laws.add_comm (o.neg x) x ∙ laws.add_neg x

  pub one_mul : (x : V) → o.mul o.one x ≡ x
  one_mul x = laws.mul_comm o.one x ∙ laws.mul_one x

  pub add_mul : (x y z : V) → o.mul (o.add x y) z ≡ o.add (o.mul x z) (o.mul y z)
  add_mul x y z =
      laws.mul_comm (o.add x y) z ∙ laws.mul_add z x y ∙ ap (o.add (o.mul z x)) (laws.mul_comm z y)
      ∙ ap (λ w. o.add w (o.mul y z)) (laws.mul_comm z x)

  pub add_left_comm : (x y z : V) → o.add x (o.add y z) ≡ o.add y (o.add x z)
  add_left_comm x y z = sym (laws.add_assoc x y z) ∙ ap (λ w. o.add w z) (laws.add_comm x y) ∙ laws.add_assoc y x z

  pub mul_left_comm : (x y z : V) → o.mul x (o.mul y z) ≡ o.mul y (o.mul x z)
  mul_left_comm x y z = sym (laws.mul_assoc x y z) ∙ ap (λ w. o.mul w z) (laws.mul_comm x y) ∙ laws.mul_assoc y x z

  -- (a + b) + (c + d) is (a + c) + (b + d)
  pub add_swap : (a b c d : V) → o.add (o.add a b) (o.add c d) ≡ o.add (o.add a c) (o.add b d)
  add_swap a b c d =
      laws.add_assoc a b (o.add c d) ∙ ap (o.add a) (add_left_comm b c d) ∙ sym (laws.add_assoc a c (o.add b d))

  -- a sum has one way to be undone
  pub add_cancel : (x y z : V) → o.add x z ≡ o.add y z → x ≡ y
  add_cancel x y z e =
      sym (undo x) ∙ ap (λ w. o.add w (o.neg z)) e ∙ undo y
    where
      undo : (w : V) → o.add (o.add w z) (o.neg z) ≡ w
      undo w = laws.add_assoc w z (o.neg z) ∙ ap (o.add w) (laws.add_neg z) ∙ laws.add_zero w

  pub mul_zero : (x : V) → o.mul x o.zero ≡ o.zero
  mul_zero x =
      add_cancel (o.mul x o.zero) o.zero (o.mul x o.zero)
      (sym (laws.mul_add x o.zero o.zero) ∙ ap (o.mul x) (laws.add_zero o.zero) ∙ sym (zero_add (o.mul x o.zero)))

  pub zero_mul : (x : V) → o.mul o.zero x ≡ o.zero
  zero_mul x = laws.mul_comm o.zero x ∙ mul_zero x

  -- what added to x gives zero is its opposite
  pub neg_unique : (x y : V) → o.add y x ≡ o.zero → y ≡ o.neg x
  neg_unique x y e = add_cancel y (o.neg x) x (e ∙ sym (neg_add x))

  pub neg_mul : (x y : V) → o.mul (o.neg x) y ≡ o.neg (o.mul x y)
  neg_mul x y =
      neg_unique (o.mul x y) (o.mul (o.neg x) y)
      (sym (add_mul (o.neg x) x y) ∙ ap (λ w. o.mul w y) (neg_add x) ∙ zero_mul y)

  pub mul_neg : (x y : V) → o.mul x (o.neg y) ≡ o.neg (o.mul x y)
  mul_neg x y = laws.mul_comm x (o.neg y) ∙ neg_mul y x ∙ ap o.neg (laws.mul_comm y x)

  pub neg_sum : (x y : V) → o.neg (o.add x y) ≡ o.add (o.neg x) (o.neg y)
  neg_sum x y =
      sym (neg_unique (o.add x y) (o.add (o.neg x) (o.neg y))
      (add_swap (o.neg x) (o.neg y) x y ∙ ap (λ w. o.add w (o.add (o.neg y) y)) (neg_add x)
      ∙ zero_add (o.add (o.neg y) y) ∙ neg_add y))

  pub neg_zero : o.neg o.zero ≡ o.zero
  neg_zero = sym (neg_unique o.zero o.zero (laws.add_zero o.zero))

  pub neg_neg : (x : V) → o.neg (o.neg x) ≡ x
  neg_neg x = sym (neg_unique (o.neg x) x (laws.add_neg x))

  -- x + (-x + y) is y, and so the other way round
  pub add_neg_left : (x y : V) → o.add x (o.add (o.neg x) y) ≡ y
  add_neg_left x y = sym (laws.add_assoc x (o.neg x) y) ∙ ap (λ w. o.add w y) (laws.add_neg x) ∙ zero_add y

  pub neg_add_left : (x y : V) → o.add (o.neg x) (o.add x y) ≡ y
  neg_add_left x y = sym (laws.add_assoc (o.neg x) x y) ∙ ap (λ w. o.add w y) (neg_add x) ∙ zero_add y
