-- Values of expressions in a domain.
use Rattle.std.specs.Prelude.{ℕ, Bool, List, Some, None, Option}
use Rattle.std.specs.Option.{unwrap_or}
use Rattle.domain.specs.Ring.{Ops}
use Rattle.expression.specs.declared.item.Item.{Item}
use Rattle.expression.specs.declared.test.Test.{Test}
use Rattle.expression.specs.declared.test.Test.TheVariants.{Same, Below}
use Rattle.expression.specs.Run.{Algebra, meaning}

-- What registers, inputs or symbols hold, by their numbers.
abbrev pub Bank : Type 0 → Type 0
Bank V = ℕ → V

module _ {V : Type 0} (o : Ops V) where
  abbrev pub values : (registers inputs symbols : ℕ → Option V) → Algebra V
  values registers inputs symbols = record {
    constant = o.constant;
    register = registers;
    input = inputs;
    symbol = symbols;
    sum = λ x y. Some (o.add x y);
    difference = λ x y. Some (o.add x (o.neg y));
    product = λ x y. Some (o.mul x y);
    negation = o.neg;
  }

  -- The value of an expression of a table: it reads registers and inputs. (What is no expression counts as zero; no accepted table has one.)
  unfoldable pub in_table : (registers inputs : Bank V) → List Item → V
  in_table registers inputs e = unwrap_or (meaning (values (λ n. Some (registers n)) (λ n. Some (inputs n)) (λ n. None)) e) o.zero

  -- The value of an expression of a proposal: it reads inputs and symbols.
  unfoldable pub in_proposal : (inputs symbols : Bank V) → List Item → V
  in_proposal inputs symbols e = unwrap_or (meaning (values (λ n. None) (λ n. Some (inputs n)) (λ n. Some (symbols n))) e) o.zero

  -- the answer of a test
  abbrev pub answer : Test → V → V → Bool
  answer Same v w = o.same v w
  answer Below v w = o.below v w
