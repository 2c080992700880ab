-- The operations within the limits, by what they come to.
use Rattle.std.proofs.Common.{◌≡◌, ℕ, ◌+◌, ◌<◌, ◌≤◌, leb, [], None, refl}
use Rattle.std.proofs.lemmas.Bool.{cond-true, cond-false, le-leb, lt-leb}
use Rattle.domain.specs.Ring.{Ops}
use Rattle.forms.specs.Monomials.{K}
use Rattle.forms.specs.Forms.{Form, added, multiplied, negation, limit, top, sum, difference, product, constant_form, variable, unless_zero, term}
use Rattle.forms.specs.Monomials.{no_codes, one_code}

pub k_is : K ≡ 4
unfolding K
k_is = refl

module _ {D : Type 0} (o : Ops D) (p q : Form D) where
  pub sum_is : sum o p q ≡ limit (added o p q)
  unfolding sum
  sum_is = refl

  pub difference_is : difference o p q ≡ limit (added o p (negation o q))
  unfolding difference
  difference_is = refl

  pub product_fits : top p + top q ≤ K → product o p q ≡ limit (multiplied o p q)
  unfolding product
  product_fits h = cond-true (leb (top p + top q) K) (limit (multiplied o p q)) None (le-leb (top p + top q) K h)

  pub product_over : K < top p + top q → product o p q ≡ None
  unfolding product
  product_over h = cond-false (leb (top p + top q) K) (limit (multiplied o p q)) None (lt-leb (top p + top q) K h)

module _ {D : Type 0} (o : Ops D) (n : ℕ) where
  pub constant_is : constant_form o n ≡ unless_zero o (term (o.constant n) no_codes) []
  unfolding constant_form
  constant_is = refl

  pub variable_is : variable o n ≡ unless_zero o (term o.one (one_code n)) []
  unfolding variable
  variable_is = refl
