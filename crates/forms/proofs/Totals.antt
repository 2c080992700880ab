-- Sums over the terms of a form, and over the summands of a polynomial.
use Rattle.std.proofs.Common.{◌≡◌, ℕ, ◌≤◌, ltb, List, [], ◌∷◌, ◌++◌, sym, refl, ap, ◌∙◌, arith}
use Rattle.std.specs.List.{AllByRecursion as All}
use Rattle.std.proofs.lemmas.Bool.{cond_both, ltb-false}
use Rattle.domain.specs.Ring.{Ops, Laws}
use Rattle.domain.proofs.Rings.{zero_add, add_mul, zero_mul, mul_zero, neg_mul, neg_sum, neg_zero, add_left_comm}
use Rattle.forms.specs.declared.term.Term.{Term}
use Rattle.forms.specs.Monomials.{K, times, times_word}
use Rattle.forms.specs.Forms.{Form, term, unless_zero, into, added, negation, term_product, scaled, multiplied}
use Rattle.forms.specs.Values.{weighed}
use Rattle.forms.specs.Polynomials.{Summand, negated, each_times, pairs}

module _ {D : Type 0} {o : Ops D} (laws : Laws o) (f : ℕ → D) where
  pub weighed_unless : (t : Term D) (p : Form D) → weighed o f (unless_zero o t p) ≡ o.add (o.mul t.coefficient (f t.monomial.0)) (weighed o f p)
  weighed_unless t p =
      let w = f t.monomial.0 in
      cond_both (o.same t.coefficient o.zero) p (t ∷ p) (λ l. weighed o f l ≡ o.add (o.mul t.coefficient w) (weighed o f p))
      (λ e. cc (laws.same_yes t.coefficient o.zero e, zero_mul laws w, zero_add laws (weighed o f p)))
      (λ e. refl)

  weighed_into : (x : Term D) (more : Form D → Form D) (r : D) → ((q : Form D) → weighed o f (more q) ≡ o.add r (weighed o f q)) → (q : Form D) → weighed o f (into o x more q) ≡ o.add (o.add (o.mul x.coefficient (f x.monomial.0)) r) (weighed o f q)
  weighed_into x more r h [] = ap (o.add _) (h []) ∙ sym (laws.add_assoc _ r o.zero)
  weighed_into x more r h (y ∷ q) =
      let a = o.mul x.coefficient (f x.monomial.0) in
      let b = o.mul y.coefficient (f y.monomial.0) in
      let c = weighed o f q in
      let s : Term D = term (o.add x.coefficient y.coefficient) x.monomial in
      let G : Form D → Type 0 = λ l. weighed o f l ≡ o.add (o.add a r) (o.add b c) in
      cond_both (ltb y.monomial.0 x.monomial.0) _ _ G
      (λ _. ap (o.add a) (h (y ∷ q)) ∙ sym (laws.add_assoc a r (o.add b c)))
      (λ e. cond_both (ltb x.monomial.0 y.monomial.0) _ _ G
      (λ _. ap (o.add b) (weighed_into x more r h q) ∙ add_left_comm laws b (o.add a r) c)
      (λ d.
      let k : y.monomial.0 ≡ x.monomial.0 = let m : x.monomial.0 ≤ y.monomial.0 = ltb-false _ _ e in let n : y.monomial.0 ≤ x.monomial.0 = ltb-false _ _ d in omega arith in
      let b' : o.mul y.coefficient (f x.monomial.0) ≡ b = ap (λ m. o.mul y.coefficient (f m)) (sym k) in
      weighed_unless s (more q) ∙ ap (o.add (o.mul s.coefficient (f x.monomial.0))) (h q)
      ∙ ap (λ z. o.add z (o.add r c)) (add_mul laws x.coefficient y.coefficient (f x.monomial.0) ∙ ap (o.add a) b')
      ∙ laws.add_assoc a b (o.add r c) ∙ ap (o.add a) (add_left_comm laws b r c) ∙ sym (laws.add_assoc a r (o.add b c))))

  pub weighed_added : (p q : Form D) → weighed o f (added o p q) ≡ o.add (weighed o f p) (weighed o f q)
  weighed_added [] q = sym (zero_add laws (weighed o f q))
  weighed_added (x ∷ p) q = weighed_into x (added o p) (weighed o f p) (weighed_added p) q

  pub weighed_negation : (p : Form D) → weighed o f (negation o p) ≡ o.neg (weighed o f p)
  weighed_negation [] = sym (neg_zero laws)
  weighed_negation (t ∷ p) =
      let x = f t.monomial.0 in
      cc (weighed_negation p, neg_mul laws t.coefficient x, neg_sum laws (o.mul t.coefficient x) (weighed o f p))

  pub weighed_scaled : (x : Term D) (q : Form D) → weighed o f (scaled o x q) ≡ o.mul x.coefficient (weighed o (λ w. f (times_word K x.monomial.0 w)) q)
  weighed_scaled x [] = sym (mul_zero laws x.coefficient)
  weighed_scaled x (y ∷ q) =
      let a = x.coefficient in
      let b = y.coefficient in
      let z = f (times_word K x.monomial.0 y.monomial.0) in
      let more = weighed o (λ w. f (times_word K x.monomial.0 w)) q in
      weighed_unless (term_product o x y) (scaled o x q)
      ∙ ap (o.add (o.mul (o.mul a b) z)) (weighed_scaled x q)
      ∙ ap (λ u. o.add u (o.mul a more)) (laws.mul_assoc a b z)
      ∙ sym (laws.mul_add a (o.mul b z) more)

module _ {D : Type 0} {o : Ops D} (laws : Laws o) where
  pub weighed_multiplied : (f : ℕ → D) (p q : Form D) → weighed o f (multiplied o p q) ≡ weighed o (λ a. weighed o (λ b. f (times_word K a b)) q) p
  weighed_multiplied f [] q = refl
  weighed_multiplied f (x ∷ p) q =
      weighed_added laws f (scaled o x q) (multiplied o p q)
      ∙ ap (λ u. o.add u (weighed o f (multiplied o p q))) (weighed_scaled laws f x q)
      ∙ ap (o.add (o.mul x.coefficient (weighed o (λ w. f (times_word K x.monomial.0 w)) q))) (weighed_multiplied f p q)

  -- a factor comes out
  pub weighed_factor : (f : ℕ → D) (x : D) (p : Form D) → weighed o (λ a. o.mul (f a) x) p ≡ o.mul (weighed o f p) x
  weighed_factor f x [] = sym (zero_mul laws x)
  weighed_factor f x (t ∷ p) =
      let y = f t.monomial.0 in
      cc (weighed_factor f x p, laws.mul_assoc t.coefficient y x, add_mul laws (o.mul t.coefficient y) (weighed o f p) x)

module _ {D : Type 0} (o : Ops D) where
  -- sums agree where the weights do
  pub weighed_cong : (f g : ℕ → D) (p : Form D) → All (λ t. f t.monomial.0 ≡ g t.monomial.0) p → weighed o f p ≡ weighed o g p
  weighed_cong f g [] h = refl
  weighed_cong f g (t ∷ p) h = cc (h.0, weighed_cong f g p h.1)

  pub weighed_same : (f g : ℕ → D) (p : Form D) → ((w : ℕ) → f w ≡ g w) → weighed o f p ≡ weighed o g p
  weighed_same f g [] h = refl
  weighed_same f g (t ∷ p) h = cc (h t.monomial.0, weighed_same f g p h)

  -- the sum over the summands of a polynomial
  abbrev pub total : (List ℕ → D) → List (Summand D) → D
  total f [] = o.zero
  total f (t ∷ s) = o.add (o.mul t.coefficient (f t.codes)) (total f s)

module _ {D : Type 0} {o : Ops D} (laws : Laws o) where
  pub total_append : (f : List ℕ → D) (r s : List (Summand D)) → total o f (r ++ s) ≡ o.add (total o f r) (total o f s)
  total_append f [] s = sym (zero_add laws (total o f s))
  total_append f (t ∷ r) s = cc (total_append f r s, laws.add_assoc (o.mul t.coefficient (f t.codes)) (total o f r) (total o f s))

  pub total_negated : (f : List ℕ → D) (s : List (Summand D)) → total o f (negated o s) ≡ o.neg (total o f s)
  total_negated f [] = sym (neg_zero laws)
  total_negated f (t ∷ s) = cc (total_negated f s, neg_mul laws t.coefficient (f t.codes), neg_sum laws (o.mul t.coefficient (f t.codes)) (total o f s))

  total_each : (f : List ℕ → D) (t : Summand D) (s : List (Summand D)) → total o f (each_times o t s) ≡ o.mul t.coefficient (total o (λ b. f (times t.codes b)) s)
  total_each f t [] = sym (mul_zero laws t.coefficient)
  total_each f t (u ∷ s) =
      let x = f (times t.codes u.codes) in
      let more = total o (λ b. f (times t.codes b)) s in
      cc (total_each f t s, laws.mul_assoc t.coefficient u.coefficient x, laws.mul_add t.coefficient (o.mul u.coefficient x) more)

  pub total_pairs : (f : List ℕ → D) (r s : List (Summand D)) → total o f (pairs o r s) ≡ total o (λ a. total o (λ b. f (times a b)) s) r
  total_pairs f [] s = refl
  total_pairs f (t ∷ r) s = cc (total_append f (each_times o t s) (pairs o r s), total_each f t s, total_pairs f r s)
