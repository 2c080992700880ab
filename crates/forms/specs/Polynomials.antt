-- Formal polynomials: an expression multiplied out, without limits, as a list of summands.
use Rattle.std.specs.Prelude.{◌≡◌, ℕ, Bool, true, false, cond, ◌&&◌, List, [], ◌∷◌, ◌++◌, Some, None, ◌==◌, nat_lt}
use Rattle.domain.specs.Ring.{Ops}
use Rattle.expression.specs.Run.{Algebra, and_then, meaning}
use Rattle.expression.specs.declared.item.Item.{Item}
use Rattle.forms.specs.Monomials.{times, symbol_code, input_code}

-- a coefficient with a monomial: the codes of its variables, never rising, as many as there are
pub record Summand (D : Type 0) : Type 0 where
  pub coefficient : D
  pub codes : List ℕ

abbrev pub summand : {D : Type 0} → D → List ℕ → Summand D
summand c m = record { coefficient = c; codes = m }

abbrev pub equals : List ℕ → List ℕ → Bool
equals [] [] = true
equals [] (d ∷ n) = false
equals (c ∷ m) [] = false
equals (c ∷ m) (d ∷ n) = c == d && equals m n

module _ {D : Type 0} (o : Ops D) where
  abbrev pub negated : List (Summand D) → List (Summand D)
  negated [] = []
  negated (t ∷ s) = summand (o.neg t.coefficient) t.codes ∷ negated s

  abbrev pub each_times : Summand D → List (Summand D) → List (Summand D)
  each_times t [] = []
  each_times t (u ∷ s) = summand (o.mul t.coefficient u.coefficient) (times t.codes u.codes) ∷ each_times t s

  -- each summand times each
  abbrev pub pairs : List (Summand D) → List (Summand D) → List (Summand D)
  pairs [] s = []
  pairs (t ∷ r) s = each_times t s ++ pairs r s

  -- a variable by itself
  abbrev pub letter : ℕ → List (Summand D)
  letter c = summand o.one (c ∷ []) ∷ []

  -- multiplied out, over inputs and symbols; those without a code have no polynomial
  abbrev pub formal : Algebra (List (Summand D))
  formal = record {
    constant = λ n. summand (o.constant n) [] ∷ [];
    register = λ n. None;
    input = λ n. cond (nat_lt n 8) (Some (letter (input_code n))) None;
    symbol = λ n. cond (nat_lt n 32) (Some (letter (symbol_code n))) None;
    sum = λ r s. Some (r ++ s);
    difference = λ r s. Some (r ++ negated s);
    product = λ r s. Some (pairs r s);
    negation = negated;
  }

  -- the sum of the coefficients that stand with the monomial
  abbrev pub coefficient_at : List ℕ → List (Summand D) → D
  coefficient_at m [] = o.zero
  coefficient_at m (t ∷ s) = cond (equals t.codes m) (o.add t.coefficient (coefficient_at m s)) (coefficient_at m s)

  -- one polynomial: equal coefficients at every monomial
  abbrev pub SamePolynomial : List Item → List Item → Type 0
  SamePolynomial e e' = (m : List ℕ) → and_then (meaning formal e) (λ s. Some (coefficient_at m s)) ≡ and_then (meaning formal e') (λ s. Some (coefficient_at m s))
