-- Normal forms within the limits, as what the items of an expression stand for.
use Rattle.std.specs.Prelude.{ℕ, Option}
use Rattle.domain.specs.Ring.{Ops}
use Rattle.expression.specs.Run.{Algebra}
use Rattle.forms.specs.Forms.{Form, constant_form, input_form, sum, difference, product, negation}

-- `registers` and `symbols` say what register n and symbol n stand for; inputs stand for themselves.
abbrev pub limited : {D : Type 0} → Ops D → (registers symbols : ℕ → Option (Form D)) → Algebra (Form D)
limited o registers symbols = record {
  constant = constant_form o;
  register = registers;
  input = input_form o;
  symbol = symbols;
  sum = sum o;
  difference = difference o;
  product = product o;
  negation = negation o;
}
