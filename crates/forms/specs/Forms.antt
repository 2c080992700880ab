-- Normal forms of polynomials as lists of terms, and what is done with them within the limits.
use Rattle.std.specs.Prelude.{ℕ, ◌+◌, max, Bool, true, false, cond, ◌&&◌, List, [], ◌∷◌, length, Some, None, Option, ◌==◌, nat_le, nat_lt}
use Rattle.domain.specs.Ring.{Ops}
use Rattle.forms.specs.declared.monomial.Monomial.{Monomial}
use Rattle.forms.specs.declared.term.Term.{Term}
use Rattle.forms.specs.Monomials.{K, degree, monomial_product, no_codes, one_code, symbol_code, input_code}

abbrev pub Form : Type 0 → Type 0
Form D = List (Term D)

abbrev pub term : {D : Type 0} → D → Monomial → Term D
term c m = record { coefficient = c; monomial = m }

-- the largest degree of a form's terms; no terms count as 0
abbrev pub top : {D : Type 0} → Form D → ℕ
top [] = 0
top (t ∷ p) = max (degree t.monomial) (top p)

-- A result of at most sixteen terms is within the limits.
abbrev pub limit : {X : Type 0} → List X → Option (List X)
limit p = cond (nat_le (length p) 16) (Some p) None

module _ {D : Type 0} (o : Ops D) where
  -- the term in front of `more`, unless its coefficient is zero
  abbrev pub unless_zero : Term D → Form D → Form D
  unless_zero t more = cond (o.same t.coefficient o.zero) more (t ∷ more)

  -- the term x, before what `more` makes of the others, merged into q
  abbrev pub into : Term D → (Form D → Form D) → Form D → Form D
  into x more [] = x ∷ more []
  into x more (y ∷ q) =
      cond (nat_lt y.monomial.0 x.monomial.0) (x ∷ more (y ∷ q))
      (cond (nat_lt x.monomial.0 y.monomial.0) (y ∷ into x more q)
      (unless_zero (term (o.add x.coefficient y.coefficient) x.monomial) (more q)))

  -- two forms added, and no limit looked at
  abbrev pub added : Form D → Form D → Form D
  added [] q = q
  added (x ∷ p) q = into x (added p) q

  abbrev pub term_product : Term D → Term D → Term D
  term_product s t = term (o.mul s.coefficient t.coefficient) (monomial_product s.monomial t.monomial)

  -- a form times one term
  abbrev pub scaled : Term D → Form D → Form D
  scaled x [] = []
  scaled x (y ∷ q) = unless_zero (term_product x y) (scaled x q)

  -- two forms multiplied, and no limit looked at
  abbrev pub multiplied : Form D → Form D → Form D
  multiplied [] q = []
  multiplied (x ∷ p) q = added (scaled x q) (multiplied p q)

  abbrev pub negation : Form D → Form D
  negation [] = []
  negation (t ∷ p) = term (o.neg t.coefficient) t.monomial ∷ negation p

  -- The operations within the limits: None is over the limits.
  unfoldable pub sum : Form D → Form D → Option (Form D)
  sum p q = limit (added p q)

  unfoldable pub difference : Form D → Form D → Option (Form D)
  difference p q = limit (added p (negation q))

  unfoldable pub product : Form D → Form D → Option (Form D)
  product p q = cond (nat_le (top p + top q) K) (limit (multiplied p q)) None

  -- a constant; zero is the form of no terms
  unfoldable pub constant_form : ℕ → Form D
  constant_form n = unless_zero (term (o.constant n) no_codes) []

  -- a variable, by its code
  unfoldable pub variable : ℕ → Form D
  variable c = unless_zero (term o.one (one_code c)) []

  -- Symbols from 32 on and inputs from 8 on have no code.
  abbrev pub symbol_form : ℕ → Option (Form D)
  symbol_form n = cond (nat_lt n 32) (Some (variable (symbol_code n))) None

  abbrev pub input_form : ℕ → Option (Form D)
  input_form n = cond (nat_lt n 8) (Some (variable (input_code n))) None

  abbrev pub same_term : Term D → Term D → Bool
  same_term t u = t.monomial.0 == u.monomial.0 && o.same t.coefficient u.coefficient

  -- whether two forms are one
  abbrev pub same_form : Form D → Form D → Bool
  same_form [] [] = true
  same_form [] (u ∷ q) = false
  same_form (t ∷ p) [] = false
  same_form (t ∷ p) (u ∷ q) = same_term t u && same_form p q

  -- the constant that a form is, if it is one
  abbrev pub fixed : Form D → Option D
  fixed [] = Some o.zero
  fixed (t ∷ []) = cond (t.monomial.0 == 0) (Some t.coefficient) None
  fixed (t ∷ (u ∷ p)) = None
