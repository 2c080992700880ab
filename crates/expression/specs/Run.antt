-- One runner for postfix expressions, over any algebra whose operations may refuse.
use Rattle.std.specs.Prelude.{ℕ, List, [], ◌∷◌, Some, None, Option}
use Rattle.expression.specs.declared.item.Item.{Item}
use Rattle.expression.specs.declared.item.Item.TheVariants.{Constant, Register, Input, Symbol, Sum, Difference, Product, Negation}

-- What the items stand for: values of a domain, normal forms within limits, or formal polynomials.
pub record Algebra (A : Type 0) : Type 0 where
  pub constant : ℕ → A
  pub register : ℕ → Option A
  pub input : ℕ → Option A
  pub symbol : ℕ → Option A
  pub sum : A → A → Option A
  pub difference : A → A → Option A
  pub product : A → A → Option A
  pub negation : A → A

abbrev pub and_then : {A B : Type 0} → Option A → (A → Option B) → Option B
and_then None f = None
and_then (Some a) f = f a

-- A value more on the stack, the top of which stands first.
abbrev pub pushed : {A : Type 0} → Option A → List A → Option (List A)
pushed v s = and_then v (λ x. Some (x ∷ s))

-- An operation with too few values under it refuses.
abbrev pub on_one : {A : Type 0} → (A → A) → List A → Option (List A)
on_one f [] = None
on_one f (x ∷ s) = Some (f x ∷ s)

abbrev pub on_two : {A : Type 0} → (A → A → Option A) → List A → Option (List A)
on_two f [] = None
on_two f (y ∷ []) = None
on_two f (y ∷ (x ∷ s)) = pushed (f x y) s

-- one item on a stack of values
abbrev pub step : {A : Type 0} → Algebra A → Item → List A → Option (List A)
step g (Constant n) s = Some (g.constant n ∷ s)
step g (Register n) s = pushed (g.register n) s
step g (Input n) s = pushed (g.input n) s
step g (Symbol n) s = pushed (g.symbol n) s
step g Sum s = on_two g.sum s
step g Difference s = on_two g.difference s
step g Product s = on_two g.product s
step g Negation s = on_one g.negation s

abbrev pub run : {A : Type 0} → Algebra A → List Item → List A → Option (List A)
run g [] s = Some s
run g (i ∷ e) s = and_then (step g i s) (λ t. run g e t)

abbrev pub only : {A : Type 0} → List A → Option A
only [] = None
only (x ∷ []) = Some x
only (x ∷ (y ∷ s)) = None

-- What an expression comes to: the one value that it leaves.
unfoldable pub meaning : {A : Type 0} → Algebra A → List Item → Option A
meaning g e = and_then (run g e []) only
