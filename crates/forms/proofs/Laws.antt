-- The values of the forms that the operations give.
use Rattle.std.proofs.Common.{◌≡◌, ℕ, zero, suc, ◌+◌, ◌-◌, ◌*◌, ◌^◌, ◌<◌, ◌≤◌, eqb, ltb, leb, List, [], ◌∷◌, length, Some, None, sym, refl, ap, ◌∙◌, subst, arith}
use Rattle.std.specs.List.{AllByRecursion as All}
use Rattle.std.proofs.lemmas.Option.{cond_some, none-some}
use Rattle.std.proofs.lemmas.Bool.{cond_both, cond-true, cond-false, le-leb, lt-leb, leb-true, ltb-true, eqb-true}
use Rattle.domain.specs.Ring.{Ops, Laws}
use Rattle.domain.proofs.Rings.{one_mul, mul_left_comm}
use Rattle.forms.specs.declared.term.Term.{Term}
use Rattle.forms.specs.Monomials.{K, Packed, insert, times, pack, unpack, times_word, no_codes, one_code, symbol_code, input_code}
use Rattle.forms.specs.Forms.{Form, term, top, limit, unless_zero, added, negation, multiplied, sum, difference, product, constant_form, variable, symbol_form, input_form, fixed}
use Rattle.forms.specs.Values.{Normal, variables, power, weighed, value}
use Rattle.forms.specs.Theorems.{Worth, Lawful}
use Rattle.forms.proofs.Limits.{sum_is, difference_is, constant_is, variable_is}
use Rattle.forms.proofs.Packing.{word_none, unpacked, unpack_zero, pack_none}
use Rattle.forms.proofs.Merging.{degree_packed, unpack_times}
use Rattle.forms.proofs.Totals.{weighed_unless, weighed_added, weighed_negation, weighed_multiplied, weighed_factor, weighed_cong, weighed_same}
use Rattle.forms.proofs.Normality.{added_normal, multiplied_normal, negation_normal, limit_some, length_negation}
use Rattle.forms.proofs.Comparing.{same_form_eq, eq_same_form}

pub k_some : 0 < K
unfolding K
k_some = omega arith

-- the word of one code
one_packs : (k c : ℕ) → 0 < k → c * 256 ^ (k - 1) ≡ pack k (c ∷ [])
one_packs zero c h = absurd (omega arith)
one_packs (suc k) c h =
    let e : suc k - 1 ≡ k = omega arith in
    let z = pack_none k in
    rw e (omega arith)

pub one_packed : (c : ℕ) → 0 < c → c ≤ 40 → Packed K (one_code c).0
one_packed c z l = record { codes = c ∷ []; falls = (z, l, tt); short = k_some; packs = one_packs K c k_some }

pub unpack_one : (c : ℕ) → 0 < c → c ≤ 40 → unpack K (one_code c).0 ≡ c ∷ []
unfolding one_packed
unpack_one c z l = unpacked K (one_code c).0 (one_packed c z l)

-- a product that is within the limits
pub product_some : {D : Type 0} (o : Ops D) (p q r : Form D) → product o p q ≡ Some r → (top p + top q ≤ K) × (limit (multiplied o p q) ≡ Some r)
unfolding product
product_some o p q r e =
    cond_both (leb (top p + top q) K) (limit (multiplied o p q)) None (λ x. x ≡ Some r → (top p + top q ≤ K) × (limit (multiplied o p q) ≡ Some r))
    (λ h k. (leb-true (top p + top q) K h, k))
    (λ h k. absurd (none-some r k)) e

module _ {D : Type 0} (o : Ops D) where
  one_normal : (c : D) (w : ℕ) → Packed K w → Normal o (unless_zero o (record { coefficient = c; monomial = record { 0 = w } }) [])
  one_normal c w W = cond_both (o.same c o.zero) [] (record { coefficient = c; monomial = record { 0 = w } } ∷ []) (Normal o) (λ e. tt) (λ e. (e, W, tt, tt))

  one_short : (t : Term D) → length (unless_zero o t []) ≤ 16
  one_short t = cond_both (o.same t.coefficient o.zero) [] (t ∷ []) (λ l. length l ≤ 16) (λ e. omega arith) (λ e. omega arith)

  pub constant_normal : (n : ℕ) → Normal o (constant_form o n)
  constant_normal n = subst (Normal o) (sym (constant_is o n)) (one_normal (o.constant n) 0 (word_none K))

  pub variable_normal : (c : ℕ) → 0 < c → c ≤ 40 → Normal o (variable o c)
  variable_normal c z l = subst (Normal o) (sym (variable_is o c)) (one_normal o.one (one_code c).0 (one_packed c z l))

  constant_short : (n : ℕ) → length (constant_form o n) ≤ 16
  constant_short n = subst (λ p. length p ≤ 16) (sym (constant_is o n)) (one_short (term (o.constant n) no_codes))

  variable_short : (c : ℕ) → length (variable o c) ≤ 16
  variable_short c = subst (λ p. length p ≤ 16) (sym (variable_is o c)) (one_short (term o.one (one_code c)))

module _ {D : Type 0} {o : Ops D} (laws : Laws o) where
  pub weighed_constant : (f : ℕ → D) (n : ℕ) → weighed o f (constant_form o n) ≡ o.mul (o.constant n) (f 0)
  weighed_constant f n = ap (weighed o f) (constant_is o n) ∙ weighed_unless laws f (term (o.constant n) no_codes) [] ∙ laws.add_zero (o.mul (o.constant n) (f 0))

  pub weighed_variable : (f : ℕ → D) (c : ℕ) → weighed o f (variable o c) ≡ f (one_code c).0
  weighed_variable f c = ap (weighed o f) (variable_is o c) ∙ weighed_unless laws f (term o.one (one_code c)) [] ∙ laws.add_zero (o.mul o.one (f (one_code c).0)) ∙ one_mul laws (f (one_code c).0)

  -- the codes of a product, read at each term
  paired_at : (F : List ℕ → D) (d d' : ℕ) (v : ℕ) (q : Form D) → d + d' ≤ K → (V : Packed K v) → length V.codes ≤ d → Normal o q → top q ≤ d' → All (λ t. F (unpack K (times_word K v t.monomial.0)) ≡ F (times (unpack K v) (unpack K t.monomial.0))) q
  paired_at F d d' v [] h V l n t = tt
  paired_at F d d' v (u ∷ q) h V l n t =
      let du = degree_packed u.monomial n.1 in
      (ap F (unpack_times K v u.monomial.0 V n.1 (omega arith)), paired_at F d d' v q h V l n.3 (omega arith))

  paired : (F : List ℕ → D) (d d' : ℕ) (p q : Form D) → d + d' ≤ K → Normal o p → Normal o q → top p ≤ d → top q ≤ d' → All (λ t. weighed o (λ b. F (unpack K (times_word K t.monomial.0 b))) q ≡ weighed o (λ b. F (times (unpack K t.monomial.0) (unpack K b))) q) p
  paired F d d' [] q h n m t t' = tt
  paired F d d' (x ∷ p) q h n m t t' =
      let dx = degree_packed x.monomial n.1 in
      (weighed_cong o (λ b. F (unpack K (times_word K x.monomial.0 b))) (λ b. F (times (unpack K x.monomial.0) (unpack K b))) q (paired_at F d d' x.monomial.0 q h n.1 (omega arith) m t'), paired F d d' p q h n.3 m (omega arith) t')

  -- a product stands for all products of codes
  pub weighed_product : (F : List ℕ → D) (p q : Form D) → top p + top q ≤ K → Normal o p → Normal o q → weighed o (λ w. F (unpack K w)) (multiplied o p q) ≡ weighed o (λ a. weighed o (λ b. F (times (unpack K a) (unpack K b))) q) p
  weighed_product F p q h n m =
      weighed_multiplied laws (λ w. F (unpack K w)) p q
      ∙ weighed_cong o (λ a. weighed o (λ b. F (unpack K (times_word K a b))) q) (λ a. weighed o (λ b. F (times (unpack K a) (unpack K b))) q) p (paired F (top p) (top q) p q h n m (omega arith) (omega arith))

  -- powers
  module _ (x : ℕ → D) where
    power_insert : (c : ℕ) (m : List ℕ) → power o x (insert c m) ≡ o.mul (x c) (power o x m)
    power_insert c [] = refl
    power_insert c (d ∷ m) =
        let ih = power_insert c m in
        cond_both (leb d c) (c ∷ (d ∷ m)) (d ∷ insert c m) (λ l. power o x l ≡ o.mul (x c) (o.mul (x d) (power o x m))) (λ e. refl)
        (λ e. cc (mul_left_comm laws (x c) (x d) (power o x m)))

    power_times : (m n : List ℕ) → power o x (times m n) ≡ o.mul (power o x m) (power o x n)
    power_times [] n = sym (one_mul laws (power o x n))
    power_times (c ∷ m) n = cc (power_insert c (times m n), power_times m n, laws.mul_assoc (x c) (power o x m) (power o x n))

    pub worth_product : (p q : Form D) → top p + top q ≤ K → Normal o p → Normal o q → weighed o (λ w. power o x (unpack K w)) (multiplied o p q) ≡ o.mul (weighed o (λ w. power o x (unpack K w)) p) (weighed o (λ w. power o x (unpack K w)) q)
    worth_product p q h n m =
        let f : ℕ → D = λ w. power o x (unpack K w) in
        let y = weighed o f q in
        weighed_product (power o x) p q h n m
        ∙ weighed_same o (λ a. weighed o (λ b. power o x (times (unpack K a) (unpack K b))) q) (λ a. o.mul (f a) y) p
        (λ a.
        weighed_same o (λ b. power o x (times (unpack K a) (unpack K b))) (λ b. o.mul (f b) (f a)) q (λ b. power_times (unpack K a) (unpack K b) ∙ laws.mul_comm (f a) (f b))
        ∙ weighed_factor laws f (f a) q
        ∙ laws.mul_comm y (f a))
        ∙ weighed_factor laws f y p

  constant_value : (n : ℕ) (inputs symbols : ℕ → D) → value o inputs symbols (constant_form o n) ≡ o.constant n
  constant_value n i s = weighed_constant (λ w. power o (variables i s) (unpack K w)) n ∙ ap (λ m. o.mul (o.constant n) (power o (variables i s) m)) (unpack_zero K) ∙ laws.mul_one (o.constant n)

  variable_value : (c : ℕ) (inputs symbols : ℕ → D) → 0 < c → c ≤ 40 → value o inputs symbols (variable o c) ≡ variables inputs symbols c
  variable_value c i s z l = weighed_variable (λ w. power o (variables i s) (unpack K w)) c ∙ ap (power o (variables i s)) (unpack_one c z l) ∙ laws.mul_one (variables i s c)

  symbol_value : (n : ℕ) (inputs symbols : ℕ → D) → n < 32 → variables inputs symbols (symbol_code n) ≡ symbols n
  symbol_value n i s h = let e : 1 + n - 1 ≡ n = omega arith in cond-true (leb (1 + n) 32) (s (1 + n - 1)) (i (1 + n - 33)) (le-leb (1 + n) 32 (omega arith)) ∙ ap s e

  input_value : (n : ℕ) (inputs symbols : ℕ → D) → variables inputs symbols (input_code n) ≡ inputs n
  input_value n i s = let e : 33 + n - 33 ≡ n = omega arith in cond-false (leb (33 + n) 32) (s (33 + n - 1)) (i (33 + n - 33)) (lt-leb (33 + n) 32 (omega arith)) ∙ ap i e

  pub symbol_worth : (n : ℕ) (p : Form D) → symbol_form o n ≡ Some p → Worth o p (λ inputs symbols. symbols n)
  symbol_worth n p e =
      let a = cond_some (ltb n 32) (variable o (symbol_code n)) p e in
      let l = ltb-true n 32 a.0 in
      subst (λ q. Worth o q (λ inputs symbols. symbols n)) a.1 (record {
        normal = variable_normal o (1 + n) (omega arith) (omega arith);
        short = variable_short o (1 + n);
        is = λ i s. variable_value (1 + n) i s (omega arith) (omega arith) ∙ symbol_value n i s l;
      })

  pub input_worth : (n : ℕ) (p : Form D) → input_form o n ≡ Some p → Worth o p (λ inputs symbols. inputs n)
  input_worth n p e =
      let a = cond_some (ltb n 8) (variable o (input_code n)) p e in
      let l = ltb-true n 8 a.0 in
      subst (λ q. Worth o q (λ inputs symbols. inputs n)) a.1 (record {
        normal = variable_normal o (33 + n) (omega arith) (omega arith);
        short = variable_short o (33 + n);
        is = λ i s. variable_value (33 + n) i s (omega arith) (omega arith) ∙ input_value n i s;
      })

  pub sum_worth : (p q r : Form D) → Normal o p → Normal o q → sum o p q ≡ Some r → Worth o r (λ i s. o.add (value o i s p) (value o i s q))
  sum_worth p q r n m e =
      let a = limit_some (added o p q) r (sym (sum_is o p q) ∙ e) in
      record {
        normal = subst (Normal o) a.0 (added_normal o p q n m).0;
        short = a.1;
        is = λ i s. ap (value o i s) (sym a.0) ∙ weighed_added laws (λ w. power o (variables i s) (unpack K w)) p q;
      }

  pub difference_worth : (p q r : Form D) → Normal o p → Normal o q → difference o p q ≡ Some r → Worth o r (λ i s. o.add (value o i s p) (o.neg (value o i s q)))
  difference_worth p q r n m e =
      let a = limit_some (added o p (negation o q)) r (sym (difference_is o p q) ∙ e) in
      record {
        normal = subst (Normal o) a.0 (added_normal o p (negation o q) n (negation_normal laws q m)).0;
        short = a.1;
        is = λ i s.
            let f : ℕ → D = λ w. power o (variables i s) (unpack K w) in
            ap (value o i s) (sym a.0) ∙ weighed_added laws f p (negation o q) ∙ ap (o.add (weighed o f p)) (weighed_negation laws f q);
      }

  pub product_worth : (p q r : Form D) → Normal o p → Normal o q → product o p q ≡ Some r → Worth o r (λ i s. o.mul (value o i s p) (value o i s q))
  product_worth p q r n m e =
      let b = product_some o p q r e in
      let a = limit_some (multiplied o p q) r b.1 in
      record {
        normal = subst (Normal o) a.0 (multiplied_normal o (top p) (top q) p q b.0 n m (omega arith) (omega arith));
        short = a.1;
        is = λ i s. ap (value o i s) (sym a.0) ∙ worth_product (variables i s) p q b.0 n m;
      }

  fixed_value : (p : Form D) (v : D) → fixed o p ≡ Some v → (inputs symbols : ℕ → D) → value o inputs symbols p ≡ v
  fixed_value [] v e i s = cc
  fixed_value (t ∷ []) v e i s =
      let a = cond_some (eqb t.monomial.0 0) t.coefficient v e in
      let z = eqb-true t.monomial.0 0 a.0 in
      ap (λ w. o.add (o.mul t.coefficient (power o (variables i s) (unpack K w))) o.zero) z
      ∙ ap (λ m. o.add (o.mul t.coefficient (power o (variables i s) m)) o.zero) (unpack_zero K)
      ∙ laws.add_zero (o.mul t.coefficient o.one) ∙ laws.mul_one t.coefficient ∙ a.1
  fixed_value (t ∷ (u ∷ p)) v e i s = absurd (none-some v e)

  pub lawful : Lawful o
  lawful = record {
    constant = λ n. record { normal = constant_normal o n; short = constant_short o n; is = constant_value n };
    symbol = symbol_worth;
    input = input_worth;
    sum = sum_worth;
    difference = difference_worth;
    product = product_worth;
    negation = λ p n l. record {
      normal = negation_normal laws p n;
      short = let k = length_negation o p in omega arith;
      is = λ i s. weighed_negation laws (λ w. power o (variables i s) (unpack K w)) p;
    };
    fixed = fixed_value;
    same_yes = same_form_eq laws;
    same_refl = eq_same_form laws;
  }
