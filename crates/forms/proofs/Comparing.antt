-- Comparison of forms decides their equality.
use Rattle.std.proofs.Common.{◌≡◌, Bool, true, eqb, [], ◌∷◌, Decides, sym, refl, ap, ◌∙◌, ap₂}
use Rattle.std.proofs.lemmas.Bool.{and_parts, and_from, eqb-true, eq-eqb}
use Rattle.std.proofs.lemmas.Bool.Decides.{same_from_decides}
use Rattle.domain.specs.Ring.{Ops, Laws}
use Rattle.forms.specs.declared.term.Term.{Term}
use Rattle.forms.specs.Forms.{Form, same_term, same_form}

module _ {D : Type 0} {o : Ops D} (laws : Laws o) where
  pub same_term_eq : (t u : Term D) → same_term o t u ≡ true → t ≡ u
  same_term_eq t u e =
      let a = and_parts (eqb t.monomial.0 u.monomial.0) (o.same t.coefficient u.coefficient) e in
      let x = laws.same_yes t.coefficient u.coefficient a.1 in
      let y = eqb-true t.monomial.0 u.monomial.0 a.0 in
      λ i. record { coefficient = x i; monomial = record { 0 = y i } }

  pub eq_same_term : (t : Term D) → same_term o t t ≡ true
  eq_same_term t = and_from (eqb t.monomial.0 t.monomial.0) (o.same t.coefficient t.coefficient) (eq-eqb t.monomial.0 t.monomial.0 refl) (laws.same_refl t.coefficient)

  pub same_form_eq : (p q : Form D) → same_form o p q ≡ true → p ≡ q
  same_form_eq [] [] e = refl
  same_form_eq [] (u ∷ q) e = cc
  same_form_eq (t ∷ p) [] e = cc
  same_form_eq (t ∷ p) (u ∷ q) e =
      let a = and_parts (same_term o t u) (same_form o p q) e in
      ap₂ ◌∷◌ (same_term_eq t u a.0) (same_form_eq p q a.1)

  pub eq_same_form : (p : Form D) → same_form o p p ≡ true
  eq_same_form [] = refl
  eq_same_form (t ∷ p) = and_from (same_term o t t) (same_form o p p) (eq_same_term t) (eq_same_form p)

  -- whatever decides the equality says what the comparison says
  pub same_by : (b : Bool) (p q : Form D) → Decides b (p ≡ q) → b ≡ same_form o p q
  same_by b p q d = same_from_decides b (same_form o p q) d (same_form_eq p q, λ e. ap (same_form o p) (sym e) ∙ eq_same_form p)
