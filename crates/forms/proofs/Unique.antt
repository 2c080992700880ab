-- Normal forms with equal coefficients are one list.
use Rattle.std.proofs.Common.{◌≡◌, ℕ, ◌<◌, false, cond, eqb, ◌⊎◌, List, [], ◌∷◌, sym, refl, ◌∙◌, ap₂, inl, inr, arith}
use Rattle.std.proofs.lemmas.Bool.{true≢false, cond-true, cond-false, eq-eqb, ne_eqb, cases_order}
use Rattle.domain.specs.Ring.{Ops, Laws}
use Rattle.forms.specs.declared.term.Term.{Term}
use Rattle.forms.specs.Values.{Under, Normal, weighed}
use Rattle.forms.specs.Monomials.{K, Packed}
use Rattle.domain.proofs.Rings.{mul_zero, zero_add, one_mul, add_cancel}
use Rattle.forms.proofs.Normality.{under_up}

abbrev pub is : {V : Type 0} → Ops V → ℕ → ℕ → V
is o w v = cond (eqb v w) o.one o.zero

module _ {V : Type 0} {o : Ops V} (r : Laws o) where
  absent : (w : ℕ) (p : List (Term V)) → Normal o p → Under w p → weighed o (is o w) p ≡ o.zero
  absent w [] n u = refl
  absent w (t ∷ p) n u =
      let ih = absent w p n.3 (under_up t.monomial.0 w p (omega arith) n.2) in
      let e = cond-false (eqb t.monomial.0 w) o.one o.zero (ne_eqb t.monomial.0 w (λ q. omega arith)) in
      cc (mul_zero r t.coefficient, zero_add r o.zero)

  leads : (t : Term V) (p : List (Term V)) → Normal o (t ∷ p) → weighed o (is o t.monomial.0) (t ∷ p) ≡ t.coefficient
  leads t p n =
      let e = cond-true (eqb t.monomial.0 t.monomial.0) o.one o.zero (eq-eqb t.monomial.0 t.monomial.0 refl) in
      cc (absent t.monomial.0 p n.3 n.2, r.mul_comm t.coefficient o.one, one_mul r t.coefficient, r.add_zero t.coefficient)

  nonzero : (c : V) → o.same c o.zero ≡ false → c ≡ o.zero → ⊥
  nonzero c e q = true≢false (cc (r.same_refl c))

  pub unique : (p q : List (Term V)) → Normal o p → Normal o q → ((w : ℕ) → Packed K w → weighed o (is o w) p ≡ weighed o (is o w) q) → p ≡ q
  unique [] [] n m h = refl
  unique [] (u ∷ q) n m h = absurd (nonzero u.coefficient m.0 (sym (leads u q m) ∙ sym (h u.monomial.0 m.1)))
  unique (t ∷ p) [] n m h = absurd (nonzero t.coefficient n.0 (sym (leads t p n) ∙ h t.monomial.0 n.1))
  unique (t ∷ p) (u ∷ q) n m h = go (unique p q n.3 m.3) (cases_order t.monomial.0 u.monomial.0)
    where
      go : (((w : ℕ) → Packed K w → weighed o (is o w) p ≡ weighed o (is o w) q) → p ≡ q) → ((t.monomial.0 ≡ u.monomial.0) ⊎ ((t.monomial.0 < u.monomial.0) ⊎ (u.monomial.0 < t.monomial.0))) → t ∷ p ≡ u ∷ q
      go tails (inl e) =
          let same : t.coefficient ≡ u.coefficient = cc (leads t p n, leads u q m, h t.monomial.0 n.1) in
          let term : t ≡ u = λ i. record { coefficient = same i; monomial = record { 0 = e i } } in
          let rest : p ≡ q = tails (λ w W. let x = o.mul t.coefficient (is o w t.monomial.0) in add_cancel r (weighed o (is o w) p) (weighed o (is o w) q) x (cc (h w W, r.add_comm x (weighed o (is o w) p), r.add_comm x (weighed o (is o w) q)))) in
          ap₂ ◌∷◌ term rest
      go tails (inr (inl l)) = absurd (nonzero u.coefficient m.0 (sym (leads u q m) ∙ sym (h u.monomial.0 m.1) ∙ absent u.monomial.0 (t ∷ p) n l))
      go tails (inr (inr l)) = absurd (nonzero t.coefficient n.0 (sym (leads t p n) ∙ h t.monomial.0 n.1 ∙ absent t.monomial.0 (u ∷ q) m l))
