-- Normal forms are equal exactly where the polynomials are.
use Rattle.std.proofs.Common.{◌≡◌, ℕ, ◌+◌, ◌<◌, ◌≤◌, Bool, true, false, cond, eqb, ltb, List, [], ◌∷◌, ◌++◌, Some, None, Option, sym, refl, ap, ◌∙◌, subst, ap₂, arith}
use Rattle.std.specs.List.{AllByRecursion as All}
use Rattle.std.proofs.lemmas.Bool.{cond_both, ltb-true, eqb-true, eqb-false, cond-true}
use Rattle.domain.specs.Ring.{Ops, Laws}
use Rattle.domain.proofs.Rings.{zero_add, mul_zero, one_mul}
use Rattle.forms.specs.Monomials.{K, Packed, times, unpack, symbol_code, input_code}
use Rattle.forms.specs.Forms.{Form, top, added, negation, multiplied, sum, difference, product, variable, symbol_form}
use Rattle.forms.specs.Limited.{limited}
use Rattle.forms.specs.Values.{Normal, weighed}
use Rattle.forms.specs.Polynomials.{Summand, equals, negated, pairs, letter, formal, coefficient_at}
use Rattle.forms.specs.Theorems.{OneForm}
use Rattle.forms.proofs.Limits.{sum_is, difference_is}
use Rattle.forms.proofs.Packing.{unpacked, unpack_inj, unpack_zero, equals_true, equals_refl}
use Rattle.forms.proofs.Totals.{total, weighed_added, weighed_negation, weighed_cong, weighed_same, total_append, total_negated, total_pairs}
use Rattle.forms.proofs.Normality.{added_normal, multiplied_normal, negation_normal, limit_some}
use Rattle.forms.proofs.Unique.{is, unique}
use Rattle.forms.proofs.Related.{Upto, Keeps, related}
use Rattle.forms.proofs.Laws.{unpack_one, product_some, constant_normal, variable_normal, weighed_constant, weighed_variable, weighed_product}

pub from_some : {A B : Type 0} (R : A → B → Type 0) (x : Option A) (b : B) → ((a : A) → x ≡ Some a → R a b) → Upto R x (Some b)
from_some R None b h = tt
from_some R (Some a) b h = h a refl

both_some : {A B : Type 0} (R : A → B → Type 0) (t : Bool) (a : A) (b : B) → (t ≡ true → R a b) → Upto R (cond t (Some a) None) (cond t (Some b) None)
both_some R true a b h = h refl
both_some R false a b h = tt

some_inj : {A : Type 0} (a b : A) → Some a ≡ Some b → a ≡ b
some_inj a b e = cc

module _ {D : Type 0} (o : Ops D) where
  -- a form stands for a polynomial
  abbrev For : Form D → List (Summand D) → Type 0
  For p s = Normal o p × ((F : List ℕ → D) → weighed o (λ w. F (unpack K w)) p ≡ total o F s)

module _ {D : Type 0} {o : Ops D} (laws : Laws o) where
  lettered : (c : ℕ) → 0 < c → c ≤ 40 → For o (variable o c) (letter o c)
  lettered c z l = (
    variable_normal o c z l,
    λ F. weighed_variable laws (λ w. F (unpack K w)) c ∙ ap F (unpack_one c z l) ∙ sym (laws.add_zero (o.mul o.one (F (c ∷ []))) ∙ one_mul laws (F (c ∷ []))),
  )

  sums : (p q : Form D) (s t : List (Summand D)) → For o p s → For o q t → Upto (For o) (sum o p q) (Some (s ++ t))
  sums p q s t h k =
      from_some (For o) (sum o p q) (s ++ t) (λ r e.
      let a = limit_some (added o p q) r (sym (sum_is o p q) ∙ e) in (
        subst (Normal o) a.0 (added_normal o p q h.0 k.0).0,
        λ F. let g : ℕ → D = λ w. F (unpack K w) in
            ap (weighed o g) (sym a.0) ∙ weighed_added laws g p q ∙ ap₂ o.add (h.1 F) (k.1 F) ∙ sym (total_append laws F s t),
      ))

  differences : (p q : Form D) (s t : List (Summand D)) → For o p s → For o q t → Upto (For o) (difference o p q) (Some (s ++ negated o t))
  differences p q s t h k =
      from_some (For o) (difference o p q) (s ++ negated o t) (λ r e.
      let a = limit_some (added o p (negation o q)) r (sym (difference_is o p q) ∙ e) in (
        subst (Normal o) a.0 (added_normal o p (negation o q) h.0 (negation_normal laws q k.0)).0,
        λ F. let g : ℕ → D = λ w. F (unpack K w) in
            ap (weighed o g) (sym a.0) ∙ weighed_added laws g p (negation o q) ∙ ap₂ o.add (h.1 F) (weighed_negation laws g q ∙ ap o.neg (k.1 F) ∙ sym (total_negated laws F t)) ∙ sym (total_append laws F s (negated o t)),
      ))

  products : (p q : Form D) (s t : List (Summand D)) → For o p s → For o q t → Upto (For o) (product o p q) (Some (pairs o s t))
  products p q s t h k =
      from_some (For o) (product o p q) (pairs o s t) (λ r e.
      let b = product_some o p q r e in
      let a = limit_some (multiplied o p q) r b.1 in (
        subst (Normal o) a.0 (multiplied_normal o (top p) (top q) p q b.0 h.0 k.0 (omega arith) (omega arith)),
        λ F. let g : ℕ → D = λ w. F (unpack K w) in
            ap (weighed o g) (sym a.0) ∙ weighed_product laws F p q b.0 h.0 k.0
            ∙ weighed_same o (λ a. weighed o (λ b. F (times (unpack K a) (unpack K b))) q) (λ a. total o (λ b. F (times (unpack K a) b)) t) p (λ a. k.1 (λ b. F (times (unpack K a) b)))
            ∙ h.1 (λ a. total o (λ b. F (times a b)) t)
            ∙ sym (total_pairs laws F s t),
      ))

  keeps : Keeps (For o) (limited o (λ n. None) (symbol_form o)) (formal o)
  keeps = record {
    constant = λ n. (constant_normal o n, λ F. weighed_constant laws (λ w. F (unpack K w)) n ∙ ap (λ m. o.mul (o.constant n) (F m)) (unpack_zero K) ∙ sym (laws.add_zero (o.mul (o.constant n) (F []))));
    register = λ n. tt;
    input = λ n. both_some (For o) (ltb n 8) (variable o (input_code n)) (letter o (input_code n)) (λ e. let l = ltb-true n 8 e in lettered (33 + n) (omega arith) (omega arith));
    symbol = λ n. both_some (For o) (ltb n 32) (variable o (symbol_code n)) (letter o (symbol_code n)) (λ e. let l = ltb-true n 32 e in lettered (1 + n) (omega arith) (omega arith));
    sum = sums;
    difference = differences;
    product = products;
    negation = λ p s h. (negation_normal laws p h.0, λ F. weighed_negation laws (λ w. F (unpack K w)) p ∙ ap o.neg (h.1 F) ∙ sym (total_negated laws F s));
  }

  abbrev at : List ℕ → List ℕ → D
  at m a = cond (equals a m) o.one o.zero

  -- a coefficient is a sum over all summands
  coefficient_total : (m : List ℕ) (s : List (Summand D)) → coefficient_at o m s ≡ total o (at m) s
  coefficient_total m [] = refl
  coefficient_total m (t ∷ s) =
      let ih = coefficient_total m s in
      elim (equals t.codes m) as (λ b. cond b (o.add t.coefficient (coefficient_at o m s)) (coefficient_at o m s) ≡ o.add (o.mul t.coefficient (cond b o.one o.zero)) (total o (at m) s)) [
        | true ↦ cc (laws.mul_one t.coefficient)
        | false ↦ cc (mul_zero laws t.coefficient, zero_add laws (total o (at m) s))
      ]

  -- at a word, and at its codes
  same_at : (w v : ℕ) (W : Packed K w) → Packed K v → is o w v ≡ at W.codes (unpack K v)
  same_at w v W X =
      let u = unpacked K w W in
      cond_both (eqb v w) o.one o.zero (λ x. x ≡ at W.codes (unpack K v))
      (λ e. sym (cond-true (equals (unpack K v) W.codes) o.one o.zero (subst (λ a. equals a W.codes ≡ true) (sym (ap (unpack K) (eqb-true v w e) ∙ u)) (equals_refl W.codes))))
      (λ e. cond_both (equals (unpack K v) W.codes) o.one o.zero (λ x. o.zero ≡ x)
      (λ q. absurd (eqb-false v w e (unpack_inj K v w X W (equals_true (unpack K v) W.codes q ∙ sym u))))
      (λ q. refl))

  sames_at : (w : ℕ) (W : Packed K w) (p : Form D) → Normal o p → All (λ t. is o w t.monomial.0 ≡ at W.codes (unpack K t.monomial.0)) p
  sames_at w W [] n = tt
  sames_at w W (t ∷ p) n = (same_at w t.monomial.0 W n.1, sames_at w W p n.3)

  -- the coefficient of a normal form at a word
  read : (w : ℕ) (W : Packed K w) (p : Form D) (s : List (Summand D)) → For o p s → weighed o (is o w) p ≡ coefficient_at o W.codes s
  read w W p s h = weighed_cong o (is o w) (λ v. at W.codes (unpack K v)) p (sames_at w W p h.0) ∙ h.1 (at W.codes) ∙ sym (coefficient_total W.codes s)

  pub one_form : OneForm o
  one_form e e' p p' q q' =
      let (s, both) = related (For o) (limited o (λ n. None) (symbol_form o)) (formal o) keeps e p q in
      let (s', both') = related (For o) (limited o (λ n. None) (symbol_form o)) (formal o) keeps e' p' q' in
      let is_s = both.0 in
      let is_s' = both'.0 in
      let h = both.1 in
      let h' = both'.1 in (
        λ same m. rw (is_s, is_s') (ap Some (coefficient_total m s ∙ sym (h.1 (at m)) ∙ ap (weighed o (λ w. at m (unpack K w))) same ∙ h'.1 (at m) ∙ sym (coefficient_total m s'))),
        λ same. unique laws p p' h.0 h'.0 (λ w W. read w W p s h ∙ some_inj (coefficient_at o W.codes s) (coefficient_at o W.codes s') (rw (is_s, is_s') at (same W.codes)) ∙ sym (read w W p' s' h')),
      )
