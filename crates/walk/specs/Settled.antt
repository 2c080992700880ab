-- When the answer of a test is settled: it is known, or decided.
use Rattle.std.specs.Prelude.{◌≡◌, Bool, true, false, ◌&&◌, ◌||◌, List, [], ◌∷◌, Some, None, Option}
use Rattle.std.specs.Bool.{beq}
use Rattle.domain.specs.Ring.{Ops}
use Rattle.expression.specs.declared.test.Test.{Test}
use Rattle.expression.specs.declared.test.Test.TheVariants.{Same, Below}
use Rattle.expression.specs.Values.{Bank, answer}
use Rattle.forms.specs.Forms.{Form, same_form, fixed}
use Rattle.forms.specs.Values.{value}
use Rattle.machine.specs.Machine.{Each}

-- A test of two forms, with its answer.
pub record Known (D : Type 0) : Type 0 where
  pub test : Test
  pub left : Form D
  pub right : Form D
  pub says : Bool

abbrev pub is_test : Test → Test → Bool
is_test Same Same = true
is_test Same Below = false
is_test Below Same = false
is_test Below Below = true

abbrev pub any : {A : Type 0} → (A → Bool) → List A → Bool
any f [] = false
any f (x ∷ xs) = f x || any f xs

abbrev pub all : {A : Type 0} → (A → Bool) → List A → Bool
all f [] = true
all f (x ∷ xs) = f x && all f xs

module _ {D : Type 0} (o : Ops D) where
  -- The same test of the same two forms with the same answer.
  abbrev pub twin : Known D → Known D → Bool
  twin k l = is_test k.test l.test && (same_form o k.left l.left && (same_form o k.right l.right && beq k.says l.says))

  -- Two constants are decided by the domain.
  abbrev pub by_constants : Test → Bool → Option D → Option D → Bool
  by_constants test says None w = false
  by_constants test says (Some v) None = false
  by_constants test says (Some v) (Some w) = beq (answer o test v w) says

  -- A form is the same as itself.
  abbrev pub one_form : Known D → Bool
  one_form k = is_test k.test Same && (same_form o k.left k.right && k.says)

  unfoldable pub settled : List (Known D) → Known D → Bool
  settled known k = any (twin k) known || (by_constants k.test k.says (fixed o k.left) (fixed o k.right) || one_form k)

  -- A test has its noted answer, where inputs and symbols have these values.
  abbrev pub Holds : (inputs symbols : Bank D) → Known D → Type 0
  Holds inputs symbols k = answer o k.test (value o inputs symbols k.left) (value o inputs symbols k.right) ≡ k.says

  -- The one law: where the known tests have their answers, a settled test has its own.
  abbrev pub Settles : Type 0
  Settles = (inputs symbols : Bank D) (known : List (Known D)) (k : Known D) → Each (Holds inputs symbols) known → settled known k ≡ true → Holds inputs symbols k
