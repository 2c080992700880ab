-- What holds of monomials and of normal forms, for every domain.
use Rattle.std.specs.Prelude.{◌≡◌, ℕ, ◌+◌, ◌≤◌, Bool, true, false, cond, ◌↔◌, List, [], ◌∷◌, length, Some, None, Option, ◌==◌, nat_lt}
use Rattle.domain.specs.Ring.{Ops}
use Rattle.expression.specs.Run.{meaning}
use Rattle.expression.specs.Values.{values}
use Rattle.expression.specs.declared.item.Item.{Item}
use Rattle.forms.specs.Monomials.{Codes, times, pack, unpack, times_word, filled}
use Rattle.forms.specs.Forms.{Form, sum, difference, product, negation, constant_form, symbol_form, input_form, same_form, fixed}
use Rattle.forms.specs.Limited.{limited}
use Rattle.forms.specs.Polynomials.{SamePolynomial}
use Rattle.forms.specs.Values.{Normal, value}

-- the order of code lists: the first difference decides, and an end comes first
abbrev pub before : List ℕ → List ℕ → Bool
before [] [] = false
before [] (d ∷ n) = true
before (c ∷ m) [] = false
before (c ∷ m) (d ∷ n) = cond (c == d) (before m n) (nat_lt c d)

-- how often a variable stands in a monomial
abbrev pub count : ℕ → List ℕ → ℕ
count c [] = 0
count c (d ∷ m) = cond (c == d) 1 0 + count c m

-- Words of any number k of codes.
pub record MonomialFacts (k : ℕ) : Type 0 where
  -- packing tells monomials apart, for the codes can be read back
  pub reads_back : (m : List ℕ) → Codes 40 m → length m ≤ k → unpack k (pack k m) ≡ m
  -- the order of words is that of their codes
  pub order : (m n : List ℕ) → Codes 40 m → Codes 40 n → length m ≤ k → length n ≤ k → nat_lt (pack k m) (pack k n) ≡ before m n
  -- the degree of a word is the number of its codes
  pub degree : (m : List ℕ) → Codes 40 m → length m ≤ k → filled k k (pack k m) ≡ length m
  -- the product of words is the word of the product, where the degrees fit
  pub product : (m n : List ℕ) → Codes 40 m → Codes 40 n → length m + length n ≤ k → times_word k (pack k m) (pack k n) ≡ pack k (times m n)

-- Code lists are monomials: a product adds the exponents, and these tell monomials apart.
pub record CodeFacts : Type 0 where
  pub product : (c : ℕ) (m n : List ℕ) → count c (times m n) ≡ count c m + count c n
  pub falls : (b : ℕ) (m n : List ℕ) → Codes b m → Codes b n → Codes b (times m n)
  pub apart : (b : ℕ) (m n : List ℕ) → Codes b m → Codes b n → ((c : ℕ) → count c m ≡ count c n) → m ≡ n

module _ {D : Type 0} (o : Ops D) where
  -- a normal form within the limits with this value, whatever inputs and symbols hold
  pub record Worth (p : Form D) (v : (inputs symbols : ℕ → D) → D) : Type 0 where
    pub normal : Normal o p
    pub short : length p ≤ 16
    pub is : (inputs symbols : ℕ → D) → value o inputs symbols p ≡ v inputs symbols

module _ {D : Type 0} (o : Ops D) where
  -- The operations within the limits give normal forms with the right value.
  pub record Lawful : Type 0 where
    pub constant : (n : ℕ) → Worth o (constant_form o n) (λ inputs symbols. o.constant n)
    pub symbol : (n : ℕ) (p : Form D) → symbol_form o n ≡ Some p → Worth o p (λ inputs symbols. symbols n)
    pub input : (n : ℕ) (p : Form D) → input_form o n ≡ Some p → Worth o p (λ inputs symbols. inputs n)
    pub sum : (p q r : Form D) → Normal o p → Normal o q → sum o p q ≡ Some r → Worth o r (λ inputs symbols. o.add (value o inputs symbols p) (value o inputs symbols q))
    pub difference : (p q r : Form D) → Normal o p → Normal o q → difference o p q ≡ Some r → Worth o r (λ inputs symbols. o.add (value o inputs symbols p) (o.neg (value o inputs symbols q)))
    pub product : (p q r : Form D) → Normal o p → Normal o q → product o p q ≡ Some r → Worth o r (λ inputs symbols. o.mul (value o inputs symbols p) (value o inputs symbols q))
    pub negation : (p : Form D) → Normal o p → length p ≤ 16 → Worth o (negation o p) (λ inputs symbols. o.neg (value o inputs symbols p))
    -- what is a constant has that value
    pub fixed : (p : Form D) (v : D) → fixed o p ≡ Some v → (inputs symbols : ℕ → D) → value o inputs symbols p ≡ v
    -- the comparison decides equality
    pub same_yes : (p q : Form D) → same_form o p q ≡ true → p ≡ q
    pub same_refl : (p : Form D) → same_form o p p ≡ true

  -- Two expressions within the limits have one normal form exactly when they are the same polynomial.
  abbrev pub OneForm : Type 0
  OneForm = (e e' : List Item) (p p' : Form D) → meaning (limited o (λ n. None) (symbol_form o)) e ≡ Some p → meaning (limited o (λ n. None) (symbol_form o)) e' ≡ Some p' → (p ≡ p') ↔ SamePolynomial o e e'

  -- a form, if there is one, is normal and has the value
  abbrev pub Valued : (inputs symbols : ℕ → D) → Option (Form D) → Option D → Type 0
  Valued inputs symbols None v = Unit {0}
  Valued inputs symbols (Some p) None = ⊥
  Valued inputs symbols (Some p) (Some v) = Normal o p × (value o inputs symbols p ≡ v)

  -- Whatever normal forms registers and symbols stand for: the form of an expression is normal, and its value is the value of the expression.
  abbrev pub Value : Type 0
  Value =
      (inputs symbols : ℕ → D) (registers symbol_forms : ℕ → Option (Form D)) (register_values symbol_values : ℕ → Option D)
      → ((n : ℕ) → Valued inputs symbols (registers n) (register_values n))
      → ((n : ℕ) → Valued inputs symbols (symbol_forms n) (symbol_values n))
      → (e : List Item) (p : Form D) → meaning (limited o registers symbol_forms) e ≡ Some p
      → Normal o p × (meaning (values o register_values (λ n. Some (inputs n)) symbol_values) e ≡ Some (value o inputs symbols p))
