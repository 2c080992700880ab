-- Settled tests have their settled answers.
use Rattle.std.proofs.Common.{◌≡◌, ℕ, Bool, true, false, ◌||◌, List, [], ◌∷◌, Some, None, Option, sym, refl, ap, ◌∙◌, ap₂, inl, inr}
use mathlib.Core.Bool.{beq, false≢true}
use Rattle.std.proofs.lemmas.Bool.{and_parts, or_cases}
use Rattle.domain.specs.Ring.{Ops, Laws}
use Rattle.expression.specs.declared.test.Test.{Test}
use Rattle.expression.specs.declared.test.Test.TheVariants.{Same, Below}
use Rattle.expression.specs.Values.{Bank, answer}
use Rattle.forms.specs.Forms.{Form, same_form, fixed, symbol_form}
use Rattle.forms.specs.Values.{Normal, value}
use Rattle.forms.specs.Theorems.{Lawful, Value}
use Rattle.machine.specs.Machine.{Each}
use Rattle.walk.specs.Settled.{Known, is_test, any, twin, by_constants, one_form, settled, Holds, Settles}

-- What is known of normal forms.
pub record Theory {D : Type 0} (o : Ops D) : Type 0 where
  pub lawful : Lawful o
  pub valued : Value o

-- f is a normal form, and v its value where inputs and symbols have these values
abbrev pub IsValue : {D : Type 0} (o : Ops D) (inputs symbols : Bank D) → Form D → D → Type 0
IsValue o inputs symbols f v = Normal o f × (value o inputs symbols f ≡ v)

-- symbols that stand for themselves
pub symbol_value : {D : Type 0} (o : Ops D) → Theory o → (x s : Bank D) (n : ℕ) (f : Form D) → symbol_form o n ≡ Some f → IsValue o x s f (s n)
symbol_value o theory x s n f e = let w = theory.lawful.symbol n f e in (w.normal, w.is x s)

same_turn : (t u : Bool) → beq t u ≡ true → t ≡ u
same_turn true true e = refl
same_turn true false e = absurd (false≢true e)
same_turn false true e = absurd (false≢true e)
same_turn false false e = refl

same_test : (t u : Test) → is_test t u ≡ true → t ≡ u
same_test Same Same e = refl
same_test Same Below e = absurd (false≢true e)
same_test Below Same e = absurd (false≢true e)
same_test Below Below e = refl

module _ {D : Type 0} (o : Ops D) (laws : Laws o) (theory : Theory o) (x s : Bank D) where
  twin_holds : (k l : Known D) → twin o k l ≡ true → Holds o x s l → Holds o x s k
  twin_holds k l e h =
      let a = and_parts (is_test k.test l.test) _ e in
      let b = and_parts (same_form o k.left l.left) _ a.1 in
      let c = and_parts (same_form o k.right l.right) _ b.1 in
      let t = same_test k.test l.test a.0 in
      let p = theory.lawful.same_yes k.left l.left b.0 in
      let q = theory.lawful.same_yes k.right l.right c.0 in
      ap₂ (λ u f. answer o u (value o x s f) (value o x s k.right)) t p ∙ ap (λ f. answer o l.test (value o x s l.left) (value o x s f)) q ∙ h ∙ sym (same_turn k.says l.says c.1)

  known_holds : (k : Known D) (known : List (Known D)) → any (twin o k) known ≡ true → Each (Holds o x s) known → Holds o x s k
  known_holds k [] e h = absurd (false≢true e)
  known_holds k (l ∷ known) e h = elim (or_cases (twin o k l) (any (twin o k) known) e) [
    | inl a ↦ twin_holds k l a h.0
    | inr b ↦ known_holds k known b h.1
  ]

  constants_hold : (test : Test) (says : Bool) (l r : Form D) (v w : Option D) → fixed o l ≡ v → fixed o r ≡ w → by_constants o test says v w ≡ true → answer o test (value o x s l) (value o x s r) ≡ says
  constants_hold test says l r None w p q e = absurd (false≢true e)
  constants_hold test says l r (Some v) None p q e = absurd (false≢true e)
  constants_hold test says l r (Some v) (Some w) p q e = ap₂ (answer o test) (theory.lawful.fixed l v p x s) (theory.lawful.fixed r w q x s) ∙ same_turn (answer o test v w) says e

  one_holds : (k : Known D) → one_form o k ≡ true → Holds o x s k
  one_holds k e =
      let a = and_parts (is_test k.test Same) _ e in
      let b = and_parts (same_form o k.left k.right) _ a.1 in
      let v = value o x s k.left in
      ap (λ t. answer o t v (value o x s k.right)) (same_test k.test Same a.0) ∙ ap (λ f. o.same v (value o x s f)) (sym (theory.lawful.same_yes k.left k.right b.0)) ∙ laws.same_refl v ∙ sym b.1

  decided_holds : (k : Known D) → (by_constants o k.test k.says (fixed o k.left) (fixed o k.right) || one_form o k) ≡ true → Holds o x s k
  decided_holds k e = elim (or_cases (by_constants o k.test k.says (fixed o k.left) (fixed o k.right)) (one_form o k) e) [
    | inl a ↦ constants_hold k.test k.says k.left k.right (fixed o k.left) (fixed o k.right) refl refl a
    | inr b ↦ one_holds k b
  ]

  settled_holds : (known : List (Known D)) (k : Known D) → Each (Holds o x s) known → settled o known k ≡ true → Holds o x s k
  unfolding settled
  settled_holds known k h e = elim (or_cases (any (twin o k) known) _ e) [
    | inl a ↦ known_holds k known a h
    | inr b ↦ decided_holds k b
  ]

pub settles : {D : Type 0} (o : Ops D) → Laws o → Theory o → Settles o
settles o laws theory x s = settled_holds o laws theory x s
