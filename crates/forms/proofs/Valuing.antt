-- The value of a form is the value of its expression.
use Rattle.std.proofs.Common.{◌≡◌, ℕ, Some, None, Option, sym, ap, ◌∙◌, ap₂}
use Rattle.domain.specs.Ring.{Ops, Laws}
use Rattle.expression.specs.Values.{values}
use Rattle.forms.specs.Forms.{Form, sum, difference, product, input_form}
use Rattle.forms.specs.Limited.{limited}
use Rattle.forms.specs.Values.{Normal, value}
use Rattle.forms.specs.Theorems.{Valued, Value}
use Rattle.forms.proofs.Related.{Upto, Keeps, related}
use Rattle.forms.proofs.OneForm.{from_some}
use Rattle.forms.proofs.Laws.{lawful, input_worth, sum_worth, difference_worth, product_worth}
use Rattle.forms.proofs.Normality.{negation_normal}
use Rattle.forms.proofs.Totals.{weighed_negation}

module _ {D : Type 0} {o : Ops D} (laws : Laws o) (inputs symbols : ℕ → D) where
  -- a normal form with this value
  abbrev Has : Form D → D → Type 0
  Has p v = Normal o p × (value o inputs symbols p ≡ v)

  has : (x : Option (Form D)) (y : Option D) → Valued o inputs symbols x y → Upto Has x y
  has None y h = tt
  has (Some p) None h = absurd h
  has (Some p) (Some v) h = h

  keeps : (registers symbol_forms : ℕ → Option (Form D)) (register_values symbol_values : ℕ → Option D)
      → ((n : ℕ) → Valued o inputs symbols (registers n) (register_values n)) → ((n : ℕ) → Valued o inputs symbols (symbol_forms n) (symbol_values n))
      → Keeps Has (limited o registers symbol_forms) (values o register_values (λ n. Some (inputs n)) symbol_values)
  keeps registers symbol_forms register_values symbol_values hr hs = record {
    constant = λ n. let w = (lawful laws).constant n in (w.normal, w.is inputs symbols);
    register = λ n. has (registers n) (register_values n) (hr n);
    input = λ n. from_some Has (input_form o n) (inputs n) (λ p e. let w = input_worth laws n p e in (w.normal, w.is inputs symbols));
    symbol = λ n. has (symbol_forms n) (symbol_values n) (hs n);
    sum = λ p q v w h k. from_some Has (sum o p q) (o.add v w) (λ r e. let x = sum_worth laws p q r h.0 k.0 e in (x.normal, x.is inputs symbols ∙ ap₂ o.add h.1 k.1));
    difference = λ p q v w h k. from_some Has (difference o p q) (o.add v (o.neg w)) (λ r e. let x = difference_worth laws p q r h.0 k.0 e in (x.normal, x.is inputs symbols ∙ ap₂ (λ a b. o.add a (o.neg b)) h.1 k.1));
    product = λ p q v w h k. from_some Has (product o p q) (o.mul v w) (λ r e. let x = product_worth laws p q r h.0 k.0 e in (x.normal, x.is inputs symbols ∙ ap₂ o.mul h.1 k.1));
    negation = λ p v h. (negation_normal laws p h.0, weighed_negation laws _ p ∙ ap o.neg h.1);
  }

pub value_kept : {D : Type 0} {o : Ops D} (laws : Laws o) → Value o
value_kept {o = o} laws inputs symbols registers symbol_forms register_values symbol_values hr hs e p q =
    let (v, both) = related (Has laws inputs symbols) (limited o registers symbol_forms) (values o register_values (λ n. Some (inputs n)) symbol_values) (keeps laws inputs symbols registers symbol_forms register_values symbol_values hr hs) e p q in
    (both.1.0, both.0 ∙ ap Some (sym both.1.1))
