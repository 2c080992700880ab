-- The operations make normal forms of normal forms.
use Rattle.std.proofs.Common.{◌≡◌, ℕ, suc, ◌+◌, ◌<◌, ◌≤◌, false, ltb, leb, List, [], ◌∷◌, length, Some, sym, refl, ap, ◌∙◌, arith}
use Rattle.std.proofs.lemmas.Option.{cond_some}
use Rattle.std.proofs.lemmas.Bool.{both_ways, cond_both, false_from_ne_true, ltb-true, ltb-false, leb-true}
use Rattle.domain.specs.Ring.{Ops, Laws}
use Rattle.domain.proofs.Rings.{neg_neg, neg_zero}
use Rattle.forms.specs.declared.term.Term.{Term}
use Rattle.forms.specs.Monomials.{K, Packed, times_word}
use Rattle.forms.specs.Forms.{Form, term, top, limit, into, added, negation, term_product, scaled, multiplied}
use Rattle.forms.specs.Values.{Under, Normal}
use Rattle.forms.proofs.Merging.{packed_times, times_word_rises, degree_packed}

pub under_up : {D : Type 0} (v w : ℕ) (p : Form D) → v ≤ w → Under v p → Under w p
under_up v w [] h u = tt
under_up v w (t ∷ p) h u = omega arith

module _ {D : Type 0} (o : Ops D) where
  -- normal, and below each word that the given lists are below
  into_normal : (x : Term D) (more : Form D → Form D) → o.same x.coefficient o.zero ≡ false → Packed K x.monomial.0
      → ((q : Form D) → Normal o q → Under x.monomial.0 q → Normal o (more q) × Under x.monomial.0 (more q))
      → (q : Form D) → Normal o q → Normal o (into o x more q) × ((n : ℕ) → x.monomial.0 < n → Under n q → Under n (into o x more q))
  into_normal x more nz X h [] n = let a = h [] tt tt in ((nz, X, a.1, a.0), λ b l u. l)
  into_normal x more nz X h (y ∷ q) n =
      let s : Term D = term (o.add x.coefficient y.coefficient) x.monomial in
      let P : Form D → Type 0 = λ l. Normal o l × ((b : ℕ) → x.monomial.0 < b → Under b (y ∷ q) → Under b l) in
      cond_both (ltb y.monomial.0 x.monomial.0) _ _ P
      (λ e. let a = h (y ∷ q) n (ltb-true _ _ e) in ((nz, X, a.1, a.0), λ b l u. l))
      (λ e. cond_both (ltb x.monomial.0 y.monomial.0) _ _ P
      (λ d. let a = into_normal x more nz X h q n.3 in ((n.0, n.1, a.1 y.monomial.0 (ltb-true _ _ d) n.2, a.0), λ b l u. u))
      (λ d.
      let r : y.monomial.0 ≤ x.monomial.0 = ltb-false _ _ d in
      let a = h q n.3 (under_up y.monomial.0 x.monomial.0 q r n.2) in
      cond_both (o.same s.coefficient o.zero) (more q) (s ∷ more q) P
      (λ _. (a.0, λ b l u. under_up x.monomial.0 b (more q) (omega arith) a.1))
      (λ z. ((z, X, a.1, a.0), λ b l u. l))))

  pub added_normal : (p q : Form D) → Normal o p → Normal o q → Normal o (added o p q) × ((n : ℕ) → Under n p → Under n q → Under n (added o p q))
  added_normal [] q n m = (m, λ b u v. v)
  added_normal (x ∷ p) q n m =
      let a = into_normal x (added o p) n.0 n.1 (λ s k u. let r = added_normal p s n.3 k in (r.0, r.1 x.monomial.0 n.2 u)) q m in
      (a.0, λ b u v. a.1 b u v)

  -- a form times one term, where the degrees fit
  scaled_normal : (d d' : ℕ) (x : Term D) (q : Form D) → d + d' ≤ K → (X : Packed K x.monomial.0) → length X.codes ≤ d → Normal o q → top q ≤ d'
      → Normal o (scaled o x q) × ((w : ℕ) (W : Packed K w) → length W.codes ≤ d' → Under w q → Under (times_word K x.monomial.0 w) (scaled o x q))
  scaled_normal d d' x [] h X l n t = (tt, λ w W m u. tt)
  scaled_normal d d' x (y ∷ q) h X l n t =
      let Y = n.1 in
      let dy = degree_packed y.monomial Y in
      let ih = scaled_normal d d' x q h X l n.3 (omega arith) in
      let ly : length Y.codes ≤ d' = omega arith in
      let Z = packed_times K x.monomial.0 y.monomial.0 X Y (omega arith) in
      let P : Form D → Type 0 = λ r. Normal o r × ((w : ℕ) (W : Packed K w) → length W.codes ≤ d' → Under w (y ∷ q) → Under (times_word K x.monomial.0 w) r) in
      cond_both (o.same (o.mul x.coefficient y.coefficient) o.zero) (scaled o x q) (term_product o x y ∷ scaled o x q) P
      (λ e. (ih.0, λ w W m u. ih.1 w W m (under_up y.monomial.0 w q (omega arith) n.2)))
      (λ e. ((e, Z, ih.1 y.monomial.0 Y ly n.2, ih.0), λ w W m u. times_word_rises K x.monomial.0 y.monomial.0 w X Y W (omega arith) (omega arith) u))

  pub multiplied_normal : (d d' : ℕ) (p q : Form D) → d + d' ≤ K → Normal o p → Normal o q → top p ≤ d → top q ≤ d' → Normal o (multiplied o p q)
  multiplied_normal d d' [] q h n m t t' = tt
  multiplied_normal d d' (x ∷ p) q h n m t t' =
      let dx = degree_packed x.monomial n.1 in
      (added_normal (scaled o x q) (multiplied o p q) (scaled_normal d d' x q h n.1 (omega arith) m t').0 (multiplied_normal d d' p q h n.3 m (omega arith) t')).0

module _ {D : Type 0} {o : Ops D} (laws : Laws o) where
  neg_some : (c : D) → o.same c o.zero ≡ false → o.same (o.neg c) o.zero ≡ false
  neg_some c e =
      false_from_ne_true (o.same (o.neg c) o.zero)
      (λ q.
      let z : c ≡ o.zero = sym (neg_neg laws c) ∙ ap o.neg (laws.same_yes (o.neg c) o.zero q) ∙ neg_zero laws in
      both_ways (o.same c o.zero) e (ap (λ x. o.same x o.zero) z ∙ laws.same_refl o.zero))

  under_negation : (w : ℕ) (p : Form D) → Under w p → Under w (negation o p)
  under_negation w [] u = tt
  under_negation w (t ∷ p) u = u

  pub negation_normal : (p : Form D) → Normal o p → Normal o (negation o p)
  negation_normal [] n = tt
  negation_normal (t ∷ p) n = (neg_some t.coefficient n.0, n.1, under_negation t.monomial.0 p n.2, negation_normal p n.3)

-- what is within the limits is the result itself
pub limit_some : {X : Type 0} (p r : List X) → limit p ≡ Some r → (p ≡ r) × (length r ≤ 16)
limit_some p r e =
    let a = cond_some (leb (length p) 16) p r e in
    let l = leb-true (length p) 16 a.0 in
    (a.1, rw (← a.1) l)

pub length_negation : {D : Type 0} (o : Ops D) (p : Form D) → length (negation o p) ≡ length p
length_negation o [] = refl
length_negation o (t ∷ p) = ap suc (length_negation o p)
