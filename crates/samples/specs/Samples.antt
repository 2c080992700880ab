-- What is lent and named.
use Rattle.std.specs.Prelude.{ℕ, List, codes}
use Rattle.domain.specs.Ring.{Ops}
use Rattle.expression.specs.declared.test.Test.{Test}
use Rattle.expression.specs.declared.test.Test.TheVariants.{Same, Below}
use Rattle.forms.specs.declared.term.Term.{Term}
use Rattle.forms.specs.Monomials.{no_codes}

abbrev pub zero_term : {D : Type 0} → Ops D → Term D
zero_term o = record { coefficient = o.zero; monomial = no_codes }

abbrev pub test_bytes : Test → List ℕ
test_bytes Same = codes "same"
test_bytes Below = codes "below"
