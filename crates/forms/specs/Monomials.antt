-- Monomials: never-rising lists of codes, and the words that they are packed into.
use Rattle.std.specs.Prelude.{◌≡◌, ℕ, zero, suc, ◌+◌, ◌-◌, ◌*◌, ◌/◌, ◌%◌, ◌^◌, ◌<◌, ◌≤◌, cond, List, [], ◌∷◌, length, ◌==◌, nat_le}
use Rattle.forms.specs.declared.monomial.Monomial.{Monomial}

-- The number of codes of a monomial, and so its largest degree.
unfoldable pub K : ℕ
K = 4

-- Code 1 + n is symbol n, below 32, and code 33 + n is input n, below 8.
abbrev pub symbol_code : ℕ → ℕ
symbol_code n = 1 + n

abbrev pub input_code : ℕ → ℕ
input_code n = 33 + n

-- Codes 1 to 40 that never rise, and none above the first number.
abbrev pub Codes : ℕ → List ℕ → Type 0
Codes top [] = Unit {0}
Codes top (c ∷ m) = (0 < c) × (c ≤ top) × Codes c m

-- The product of two monomials: all their codes, still never rising.
abbrev pub insert : ℕ → List ℕ → List ℕ
insert c [] = c ∷ []
insert c (d ∷ m) = cond (nat_le d c) (c ∷ (d ∷ m)) (d ∷ insert c m)

abbrev pub times : List ℕ → List ℕ → List ℕ
times [] n = n
times (c ∷ m) n = insert c (times m n)

-- k codes as bytes of a word, the first at the top; empty codes are 0
abbrev pub pack : ℕ → List ℕ → ℕ
pack zero m = 0
pack (suc k) [] = 0
pack (suc k) (c ∷ m) = c * 256 ^ k + pack k m

-- the codes from the top down to the first empty one
abbrev pub unpack : ℕ → ℕ → List ℕ
unpack zero w = []
unpack (suc k) w = cond (w / 256 ^ k == 0) [] (w / 256 ^ k ∷ unpack k (w % 256 ^ k))

-- a word of k codes that is a packed monomial
pub record Packed (k w : ℕ) : Type 0 where
  pub codes : List ℕ
  pub falls : Codes 40 codes
  pub short : length codes ≤ k
  pub packs : w ≡ pack k codes

-- the first code of a word of k, and the word without it, which ends in an empty code
abbrev pub first : ℕ → ℕ → ℕ
first k w = w / 256 ^ (k - 1)

abbrev pub rest : ℕ → ℕ → ℕ
rest k w = (w * 256) % 256 ^ k

-- how many of a word's first codes are not empty
abbrev pub filled : ℕ → ℕ → ℕ → ℕ
filled k zero w = 0
filled k (suc r) w = cond (first k w == 0) 0 1 + filled k r (rest k w)

-- `out`, and behind it the larger first code of the two words, taken off its word, over and over
abbrev pub merged_codes : (k r x y out : ℕ) → ℕ
merged_codes k zero x y out = out
merged_codes k (suc r) x y out =
    cond (nat_le (first k y) (first k x))
    (merged_codes k r (rest k x) y (out * 256 + first k x))
    (merged_codes k r x (rest k y) (out * 256 + first k y))

-- the product of two words of k codes
unfoldable pub times_word : ℕ → ℕ → ℕ → ℕ
times_word k x y = merged_codes k k x y 0

-- The degree of a monomial: its codes that are not empty.
unfoldable pub degree : Monomial → ℕ
degree m = filled K K m.0

abbrev pub monomial_product : Monomial → Monomial → Monomial
monomial_product m n = record { 0 = times_word K m.0 n.0 }

-- The monomial of no code, and that of one.
abbrev pub no_codes : Monomial
no_codes = record { 0 = 0 }

abbrev pub one_code : ℕ → Monomial
one_code c = record { 0 = c * 256 ^ (K - 1) }
