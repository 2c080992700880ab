-- Words: packing and unpacking, order, products.
use Rattle.std.proofs.Common.{◌≡◌, ℕ, zero, suc, ◌+◌, ◌*◌, ◌/◌, ◌%◌, ◌^◌, ◌<◌, ◌≤◌, true, false, eqb, ltb, leb, ◌⊎◌, List, [], ◌∷◌, length, sym, refl, ap, ◌∙◌, inl, inr, mul-le-mul_right, pow-suc, arith}
use Rattle.std.proofs.Math.Nat.{one-le-pow}
use native.Mathlib.Nat.{zero-div}
use lib.Arith.{digits_lt, digits_div, digits_mod}
use Rattle.std.proofs.lemmas.Bool.{and_parts, cond_both, eqb-true, eqb-false, eq-eqb, ne_eqb, leb-true, leb-false, lt-ltb, le-ltb, cases_order, cases_lt}
use Rattle.forms.specs.Monomials.{insert, times}
use Rattle.forms.specs.Polynomials.{equals}
use Rattle.forms.specs.Theorems.{before}
use Rattle.forms.specs.Monomials.{pack, unpack, Codes, Packed}

pub codes_up : (b c : ℕ) (m : List ℕ) → b ≤ c → Codes b m → Codes c m
codes_up b c [] h k = tt
codes_up b c (d ∷ m) h k = (k.0, omega arith, k.2)

pub pow_pos : (k : ℕ) → 0 < 256 ^ k
pow_pos k = one-le-pow k 256 (omega arith)

pub pack_lt : (k b : ℕ) (m : List ℕ) → b < 256 → Codes b m → pack k m < 256 ^ k
pack_lt zero b m l h = pow_pos 0
pack_lt (suc k) b [] l h = pow_pos (suc k)
pack_lt (suc k) b (c ∷ m) l h =
    let s : c < 256 = omega arith in
    let ih = pack_lt k c m s h.2 in
    rw pow-suc (omega (arith, digits_lt s ih))

pub pack_none : (k : ℕ) → pack k [] ≡ 0
pack_none zero = refl
pack_none (suc k) = refl

pub unpack_zero : (k : ℕ) → unpack k 0 ≡ []
unpack_zero zero = refl
unpack_zero (suc k) = rw zero-div

pub unpack_pack : (k b : ℕ) (m : List ℕ) → b < 256 → Codes b m → length m ≤ k → unpack k (pack k m) ≡ m
unpack_pack zero b [] l h s = refl
unpack_pack zero b (c ∷ m) l h s = absurd (omega arith)
unpack_pack (suc k) b [] l h s = unpack_zero (suc k)
unpack_pack (suc k) b (c ∷ m) l h s =
    let less : c < 256 = omega arith in
    let low = pack_lt k c m less h.2 in
    let here : (c * 256 ^ k + pack k m) / 256 ^ k ≡ c = digits_div c low in
    let rest : (c * 256 ^ k + pack k m) % 256 ^ k ≡ pack k m = digits_mod c low in
    let some : eqb c 0 ≡ false = ne_eqb c 0 (λ e. omega arith) in
    let ih = unpack_pack k c m less h.2 (omega arith) in
    rw (here, rest, some, ih)

module _ (k : ℕ) where
  pub unpacked : (w : ℕ) (W : Packed k w) → unpack k w ≡ W.codes
  unpacked w W = ap (unpack k) W.packs ∙ unpack_pack k 40 W.codes (omega arith) W.falls W.short

-- equality of lists
pub equals_true : (m n : List ℕ) → equals m n ≡ true → m ≡ n
equals_true [] [] e = refl
equals_true [] (d ∷ n) e = cc
equals_true (c ∷ m) [] e = cc
equals_true (c ∷ m) (d ∷ n) e =
    let both = and_parts (eqb c d) (equals m n) e in
    cc (eqb-true c d both.0, equals_true m n both.1)

pub equals_refl : (m : List ℕ) → equals m m ≡ true
equals_refl [] = refl
equals_refl (c ∷ m) = rw (eq-eqb c c refl, equals_refl m)

-- the product's codes
insert_codes : (b c : ℕ) (m : List ℕ) → 0 < c → c ≤ b → Codes b m → Codes b (insert c m)
insert_codes b c [] z l h = (z, l, tt)
insert_codes b c (d ∷ m) z l h =
    cond_both (leb d c) (c ∷ (d ∷ m)) (d ∷ insert c m) (Codes b)
    (λ e. (z, l, (h.0, leb-true d c e, h.2)))
    (λ e. (h.0, h.1, insert_codes d c m z (omega (arith, leb-false d c e)) h.2))

pub times_codes : (b : ℕ) (m n : List ℕ) → Codes b m → Codes b n → Codes b (times m n)
times_codes b [] n h k = k
times_codes b (c ∷ m) n h k = insert_codes b c (times m n) h.0 h.1 (times_codes b m n (codes_up c b m h.1 h.2) k)

insert_length : (c : ℕ) (m : List ℕ) → length (insert c m) ≡ suc (length m)
insert_length c [] = refl
insert_length c (d ∷ m) = cond_both (leb d c) (c ∷ (d ∷ m)) (d ∷ insert c m) (λ l. length l ≡ suc (suc (length m))) (λ e. refl) (λ e. ap suc (insert_length c m))

pub times_length : (m n : List ℕ) → length (times m n) ≡ length m + length n
times_length [] n = omega arith
times_length (c ∷ m) n = let ih = times_length m n in insert_length c (times m n) ∙ omega arith

module _ (k : ℕ) where
  pub word_none : Packed k 0
  word_none = record { codes = []; falls = tt; short = omega arith; packs = sym (pack_none k) }

  -- unpacking tells words apart
  pub unpack_inj : (v w : ℕ) (X : Packed k v) (Y : Packed k w) → unpack k v ≡ unpack k w → v ≡ w
  unpack_inj v w X Y e = X.packs ∙ ap (pack k) (sym (unpacked k v X) ∙ e ∙ unpacked k w Y) ∙ sym Y.packs

-- The order of words is the order of their codes.
shifted : (z x y : ℕ) → ltb (z + x) (z + y) ≡ ltb x y
shifted z x y = go (cases_lt x y)
  where
    go : (x < y) ⊎ (y ≤ x) → ltb (z + x) (z + y) ≡ ltb x y
    go (inl h) = lt-ltb (z + x) (z + y) (omega arith) ∙ sym (lt-ltb x y h)
    go (inr h) = le-ltb (z + x) (z + y) (omega arith) ∙ sym (le-ltb x y h)

pub pack_order : (k b : ℕ) (m n : List ℕ) → b < 256 → Codes b m → Codes b n → length m ≤ k → length n ≤ k → ltb (pack k m) (pack k n) ≡ before m n
pack_order zero b [] [] l h j s t = refl
pack_order zero b [] (d ∷ n) l h j s t = absurd (omega arith)
pack_order zero b (c ∷ m) n l h j s t = absurd (omega arith)
pack_order (suc k) b [] [] l h j s t = refl
pack_order (suc k) b [] (d ∷ n) l h j s t = lt-ltb 0 (d * 256 ^ k + pack k n) (omega (arith, mul-le-mul_right (256 ^ k) j.0, pow_pos k))
pack_order (suc k) b (c ∷ m) [] l h j s t = le-ltb (c * 256 ^ k + pack k m) 0 (omega arith)
pack_order (suc k) b (c ∷ m) (d ∷ n) l h j s t =
    let x : c < 256 = omega arith in
    let y : d < 256 = omega arith in
    let low = pack_lt k c m x h.2 in
    let low' = pack_lt k d n y j.2 in
    cond_both (eqb c d) (before m n) (ltb c d) (λ a. ltb (pack (suc k) (c ∷ m)) (pack (suc k) (d ∷ n)) ≡ a)
    (λ e.
    let q : c ≡ d = eqb-true c d e in
    let ih = pack_order k c m n x h.2 (rw (← q) at j.2) (omega arith) (omega arith) in
    rw (← q) (shifted (c * 256 ^ k) (pack k m) (pack k n) ∙ ih))
    (λ e. apart (cases_order c d) (eqb-false c d e) x low low')
  where
    apart : (c ≡ d) ⊎ ((c < d) ⊎ (d < c)) → (c ≡ d → ⊥) → c < 256 → pack k m < 256 ^ k → pack k n < 256 ^ k → ltb (c * 256 ^ k + pack k m) (d * 256 ^ k + pack k n) ≡ ltb c d
    apart (inl q) ne x low low' = absurd (ne q)
    apart (inr (inl q)) ne x low low' = lt-ltb (c * 256 ^ k + pack k m) (d * 256 ^ k + pack k n) (omega (arith, digits_lt q low)) ∙ sym (lt-ltb c d q)
    apart (inr (inr q)) ne x low low' = le-ltb (c * 256 ^ k + pack k m) (d * 256 ^ k + pack k n) (omega (arith, digits_lt q low')) ∙ sym (le-ltb c d (omega arith))
