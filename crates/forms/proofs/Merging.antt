-- The product of words, code by code.
use Rattle.std.proofs.Common.{◌≡◌, ℕ, zero, suc, ◌+◌, ◌-◌, ◌*◌, ◌/◌, ◌%◌, ◌^◌, ◌<◌, ◌≤◌, eqb, leb, List, [], ◌∷◌, length, sym, refl, ap, ◌∙◌, ap₂, pow-suc, arith}
use native.Mathlib.Nat.{zero-div, zero-mod}
use lib.Arith.{digits_div, digits_mod}
use Rattle.std.proofs.lemmas.Bool.{cond_both, cond-true, cond-false, le-leb, leb-true, leb-false, eq-eqb, ne_eqb}
use Rattle.forms.specs.Monomials.{K, Codes, Packed, insert, times, pack, unpack, first, rest, filled, merged_codes, times_word, degree}
use Rattle.forms.specs.declared.monomial.Monomial.{Monomial}
use Rattle.forms.specs.Theorems.{MonomialFacts, CodeFacts}
use Rattle.forms.proofs.Packing.{codes_up, pack_lt, pack_none, unpack_pack, unpacked, pack_order, times_codes, times_length}
use Rattle.forms.proofs.Codes.{insert_top, times_left, times_right, times_rises, count_times, apart}

-- words by codes
abbrev pub first_code : List ℕ → ℕ
first_code [] = 0
first_code (c ∷ m) = c

abbrev pub other_codes : List ℕ → List ℕ
other_codes [] = []
other_codes (c ∷ m) = m

pub pack_first : (k b : ℕ) (m : List ℕ) → b < 256 → Codes b m → pack (suc k) m / 256 ^ k ≡ first_code m
pack_first k b [] l h = zero-div (256 ^ k)
pack_first k b (c ∷ m) l h = digits_div c (pack_lt k c m (omega arith) h.2)

-- padded with one more zero at the end
pub pack_pad : (k : ℕ) (m : List ℕ) → length m ≤ k → pack (suc k) m ≡ pack k m * 256
pack_pad zero [] h = refl
pack_pad zero (c ∷ m) h = absurd (omega arith)
pack_pad (suc k) [] h = refl
pack_pad (suc k) (c ∷ m) h = let ih = pack_pad k m (omega arith) in rw (ih, pow-suc) (omega arith)

pub pack_others : (k b : ℕ) (m : List ℕ) → b < 256 → Codes b m → length m ≤ suc k → (pack (suc k) m * 256) % 256 ^ suc k ≡ pack (suc k) (other_codes m)
pack_others k b [] l h s = zero-mod (256 ^ suc k)
pack_others k b (c ∷ m) l h s =
    let low = pack_lt (suc k) c m (omega arith) h.2 in
    let pad = pack_pad k m (omega arith) in
    let e : (c * 256 ^ k + pack k m) * 256 ≡ c * 256 ^ suc k + pack (suc k) m = rw (pad, pow-suc) (omega arith) in
    ap (λ x. x % 256 ^ suc k) e ∙ digits_mod c low

times_none : (b : ℕ) (m : List ℕ) → Codes b m → times m [] ≡ m
times_none b [] h = refl
times_none b (c ∷ m) h = ap (insert c) (times_none c m h.2) ∙ insert_top c m h.2

-- the product's next code is the larger first code
pub merge_left : (k b : ℕ) (m n : List ℕ) → Codes b m → Codes b n → first_code n ≤ first_code m → pack (suc k) (times m n) ≡ first_code m * 256 ^ k + pack k (times (other_codes m) n)
merge_left k b [] [] h j l = omega (arith, pack_none k)
merge_left k b [] (d ∷ n) h j l = absurd (omega arith)
merge_left k b (c ∷ m) [] h j l = ap (pack (suc k)) (times_none b (c ∷ m) h) ∙ sym (ap (λ x. c * 256 ^ k + pack k x) (times_none c m h.2))
merge_left k b (c ∷ m) (d ∷ n) h j l = ap (pack (suc k)) (times_left c d m n l h.2 (j.0, l, j.2))

pub merge_right : (k b : ℕ) (m n : List ℕ) → Codes b m → Codes b n → first_code m < first_code n → pack (suc k) (times m n) ≡ first_code n * 256 ^ k + pack k (times m (other_codes n))
merge_right k b m [] h j l = absurd (omega arith)
merge_right k b [] (d ∷ n) h j l = refl
merge_right k b (c ∷ m) (d ∷ n) h j l = ap (pack (suc k)) (times_right c d m n l h.2)

others_fall : (m : List ℕ) → Codes 40 m → Codes 40 (other_codes m)
others_fall [] h = tt
others_fall (c ∷ m) h = codes_up c 40 m h.1 h.2

room_left : (r : ℕ) (m n : List ℕ) → first_code n ≤ first_code m → Codes 40 n → length m + length n ≤ suc r → length (other_codes m) + length n ≤ r
room_left r [] [] l j s = omega arith
room_left r [] (d ∷ n) l j s = absurd (omega arith)
room_left r (c ∷ m) n l j s = omega arith

room_right : (r : ℕ) (m n : List ℕ) → first_code m < first_code n → length m + length n ≤ suc r → length m + length (other_codes n) ≤ r
room_right r m [] l s = absurd (omega arith)
room_right r m (d ∷ n) l s = omega arith

next : (out c w more : ℕ) → out * (w * 256) + (c * w + more) ≡ (out * 256 + c) * w + more
next out c w more = omega arith

less_one : (k : ℕ) → suc k - 1 ≡ k
less_one k = omega arith

first_is : (k : ℕ) (m : List ℕ) → Codes 40 m → first (suc k) (pack (suc k) m) ≡ first_code m
first_is k m h = ap (λ j. pack (suc k) m / 256 ^ j) (less_one k) ∙ pack_first k 40 m (omega arith) h

rest_is : (k : ℕ) (m : List ℕ) → Codes 40 m → length m ≤ suc k → rest (suc k) (pack (suc k) m) ≡ pack (suc k) (other_codes m)
rest_is k m h s = pack_others k 40 m (omega arith) h s

merged_is : (k r : ℕ) (m n : List ℕ) (out : ℕ) → Codes 40 m → Codes 40 n → length m + length n ≤ r → r ≤ suc k → merged_codes (suc k) r (pack (suc k) m) (pack (suc k) n) out ≡ out * 256 ^ r + pack r (times m n)
merged_is k zero m n out h j s t = omega arith
merged_is k (suc r) m n out h j s t =
    let fm = first_is k m h in
    let fn = first_is k n j in
    let X = pack (suc k) m in
    let Y = pack (suc k) n in
    let P : ℕ → Type 0 = λ z. z ≡ out * 256 ^ suc r + pack (suc r) (times m n) in
    cond_both (leb (first (suc k) Y) (first (suc k) X)) (merged_codes (suc k) r (rest (suc k) X) Y (out * 256 + first (suc k) X)) (merged_codes (suc k) r X (rest (suc k) Y) (out * 256 + first (suc k) Y)) P
    (λ e.
    let l : first_code n ≤ first_code m = rw (fn, fm) at (leb-true (first (suc k) Y) (first (suc k) X) e) in
    ap₂ (λ x w. merged_codes (suc k) r x Y (out * 256 + w)) (rest_is k m h (omega arith)) fm
    ∙ merged_is k r (other_codes m) n (out * 256 + first_code m) (others_fall m h) j (room_left r m n l j s) (omega arith)
    ∙ sym (next out (first_code m) (256 ^ r) (pack r (times (other_codes m) n)))
    ∙ ap₂ (λ u v. out * u + v) (sym (pow-suc 256 r)) (sym (merge_left r 40 m n h j l)))
    (λ e.
    let l : first_code m < first_code n = rw (fn, fm) at (leb-false (first (suc k) Y) (first (suc k) X) e) in
    ap₂ (λ y w. merged_codes (suc k) r X y (out * 256 + w)) (rest_is k n j (omega arith)) fn
    ∙ merged_is k r m (other_codes n) (out * 256 + first_code n) h (others_fall n j) (room_right r m n l s) (omega arith)
    ∙ sym (next out (first_code n) (256 ^ r) (pack r (times m (other_codes n))))
    ∙ ap₂ (λ u v. out * u + v) (sym (pow-suc 256 r)) (sym (merge_right r 40 m n h j l)))

pub times_is : (k : ℕ) (m n : List ℕ) → Codes 40 m → Codes 40 n → length m + length n ≤ k → times_word k (pack k m) (pack k n) ≡ pack k (times m n)
unfolding times_word
times_is zero m n h j s = refl
times_is (suc k) m n h j s = merged_is k (suc k) m n 0 h j s (omega arith) ∙ omega arith

filled_is : (k r : ℕ) (m : List ℕ) → Codes 40 m → length m ≤ r → r ≤ suc k → filled (suc k) r (pack (suc k) m) ≡ length m
filled_is k zero [] h s t = refl
filled_is k zero (c ∷ m) h s t = absurd (omega arith)
filled_is k (suc r) [] h s t =
    let e = cond-true {A = ℕ} (eqb (first (suc k) (pack (suc k) [])) 0) 0 1 (eq-eqb (first (suc k) (pack (suc k) [])) 0 (first_is k [] tt)) in
    let i = ap (filled (suc k) r) (rest_is k [] tt (omega arith)) ∙ filled_is k r [] tt (omega arith) (omega arith) in
    omega arith
filled_is k (suc r) (c ∷ m) h s t =
    let f = first_is k (c ∷ m) h in
    let e = cond-false {A = ℕ} (eqb (first (suc k) (pack (suc k) (c ∷ m))) 0) 0 1 (ne_eqb (first (suc k) (pack (suc k) (c ∷ m))) 0 (λ z. let p = h.0 in omega arith)) in
    let i = ap (filled (suc k) r) (rest_is k (c ∷ m) h (omega arith)) ∙ filled_is k r m (codes_up c 40 m h.1 h.2) (omega arith) (omega arith) in
    omega arith

pub degree_is : (k : ℕ) (m : List ℕ) → Codes 40 m → length m ≤ k → filled k k (pack k m) ≡ length m
degree_is zero m h s = omega arith
degree_is (suc k) m h s = filled_is k (suc k) m h s (omega arith)

pub monomial_facts : (k : ℕ) → MonomialFacts k
monomial_facts k = record {
  reads_back = λ m h s. unpack_pack k 40 m (omega arith) h s;
  order = λ m n h j s t. pack_order k 40 m n (omega arith) h j s t;
  degree = degree_is k;
  product = times_is k;
}

pub code_facts : CodeFacts
code_facts = record { product = count_times; falls = times_codes; apart = apart }

-- packed words
module _ (k : ℕ) where
  pub times_packed : (v w : ℕ) (X : Packed k v) (Y : Packed k w) → length X.codes + length Y.codes ≤ k → times_word k v w ≡ pack k (times X.codes Y.codes)
  times_packed v w X Y h = ap₂ (times_word k) X.packs Y.packs ∙ times_is k X.codes Y.codes X.falls Y.falls h

  pub packed_times : (v w : ℕ) (X : Packed k v) (Y : Packed k w) → length X.codes + length Y.codes ≤ k → Packed k (times_word k v w)
  packed_times v w X Y h = record {
    codes = times X.codes Y.codes;
    falls = times_codes 40 X.codes Y.codes X.falls Y.falls;
    short = let l = times_length X.codes Y.codes in omega arith;
    packs = times_packed v w X Y h;
  }

  pub unpack_times : (v w : ℕ) (X : Packed k v) (Y : Packed k w) → length X.codes + length Y.codes ≤ k → unpack k (times_word k v w) ≡ times (unpack k v) (unpack k w)
  unfolding packed_times
  unpack_times v w X Y h = unpacked k (times_word k v w) (packed_times v w X Y h) ∙ sym (ap₂ times (unpacked k v X) (unpacked k w Y))

  -- the order of words is kept by a factor
  pub times_word_rises : (x v w : ℕ) (X : Packed k x) (V : Packed k v) (W : Packed k w) → length X.codes + length V.codes ≤ k → length X.codes + length W.codes ≤ k → v < w → times_word k x v < times_word k x w
  times_word_rises x v w X V W h h' l =
      let a = pack_order k 40 V.codes W.codes (omega arith) V.falls W.falls V.short W.short in
      let L = times X.codes V.codes in
      let R = times X.codes W.codes in
      let lL = times_length X.codes V.codes in
      let lR = times_length X.codes W.codes in
      let b = pack_order k 40 L R (omega arith) (times_codes 40 X.codes V.codes X.falls V.falls) (times_codes 40 X.codes W.codes X.falls W.falls) (omega arith) (omega arith) in
      Rattle.std.proofs.lemmas.Bool.ltb-true (times_word k x v) (times_word k x w)
      (ap₂ lib.Dec.ltb (times_packed x v X V h) (times_packed x w X W h') ∙ b ∙ times_rises X.codes V.codes W.codes ∙ sym a ∙ sym (ap₂ lib.Dec.ltb V.packs W.packs) ∙ Rattle.std.proofs.lemmas.Bool.lt-ltb v w l)

pub degree_packed : (m : Monomial) (X : Packed K m.0) → degree m ≡ length X.codes
unfolding degree
degree_packed m X = ap (filled K K) X.packs ∙ degree_is K X.codes X.falls X.short
