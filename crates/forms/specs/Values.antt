-- Normal forms, and the value of a form where inputs and symbols have values.
use Rattle.std.specs.Prelude.{◌≡◌, ℕ, ◌-◌, ◌<◌, false, cond, List, [], ◌∷◌, nat_le}
use Rattle.domain.specs.Ring.{Ops}
use Rattle.forms.specs.Monomials.{K, Packed, unpack}
use Rattle.forms.specs.Forms.{Form}

-- each monomial is below this word
abbrev pub Under : {D : Type 0} → ℕ → Form D → Type 0
Under w [] = Unit {0}
Under w (t ∷ p) = t.monomial.0 < w

-- the value of the variable with this code
abbrev pub variables : {D : Type 0} → (inputs symbols : ℕ → D) → ℕ → D
variables inputs symbols c = cond (nat_le c 32) (symbols (c - 1)) (inputs (c - 33))

module _ {D : Type 0} (o : Ops D) where
  -- no zero coefficient, packed monomials, strictly falling
  abbrev pub Normal : Form D → Type 0
  Normal [] = Unit {0}
  Normal (t ∷ p) = (o.same t.coefficient o.zero ≡ false) × Packed K t.monomial.0 × Under t.monomial.0 p × Normal p

  -- the product of the values of a monomial's variables
  abbrev pub power : (ℕ → D) → List ℕ → D
  power x [] = o.one
  power x (c ∷ m) = o.mul (x c) (power x m)

  -- the sum of the coefficients, each times what its monomial's word is worth
  abbrev pub weighed : (ℕ → D) → Form D → D
  weighed f [] = o.zero
  weighed f (t ∷ p) = o.add (o.mul t.coefficient (f t.monomial.0)) (weighed f p)

  abbrev pub value : (inputs symbols : ℕ → D) → Form D → D
  value inputs symbols p = weighed (λ w. power (variables inputs symbols) (unpack K w)) p
