-- What a comparison of two expressions says.
use Rattle.std.specs.Prelude.{Bool, true, false, List, Some, None, Ok, Err, Option, Result}
use Rattle.domain.specs.Ring.{Ops}
use Rattle.expression.specs.Run.{and_then, meaning}
use Rattle.expression.specs.declared.item.Item.{Item}
use Rattle.forms.specs.Forms.{Form, symbol_form, same_form}
use Rattle.workspace.specs.Evaluation.{no_group}
use Rattle.forms.specs.Limited.{limited}
use Rattle.forms.specs.Polynomials.{SamePolynomial}
use Rattle.workspace.specs.declared.leaves.Leaves.{Leaves}
use Rattle.workspace.specs.declared.leaves.Symbols.TheVariants.{Own}

-- the answer, if there is one
abbrev pub answered : {A E : Type 0} → Result A E → Option A
answered (Ok a) = Some a
answered (Err e) = None

-- whether two forms are one, where both are within the limits
abbrev pub compared : {D : Type 0} → Ops D → Option (Form D) → Option (Form D) → Option Bool
compared o m n = and_then m (λ p. and_then n (λ q. Some (same_form o p q)))

-- No registers, and symbols that stand for themselves.
abbrev pub own_leaves : Leaves
own_leaves = record { registers = no_group; symbols = Own }

-- whether two expressions over inputs and symbols have one form
abbrev pub one_form : {D : Type 0} → Ops D → List Item → List Item → Option Bool
one_form o e e' = compared o (meaning (limited o (λ n. None) (symbol_form o)) e) (meaning (limited o (λ n. None) (symbol_form o)) e')

-- What an answer says of the polynomials: they are the same, or they are not; a refusal says nothing.
abbrev pub Judged : {D E : Type 0} → Ops D → Result Bool E → List Item → List Item → Type 0
Judged o (Ok true) e e' = SamePolynomial o e e'
Judged o (Ok false) e e' = SamePolynomial o e e' → ⊥
Judged o (Err x) e e' = Unit {0}
