-- Paths compared turn by turn.
use Rattle.std.proofs.Common.{◌≡◌, ℕ, zero, suc, ◌+◌, ◌*◌, ◌^◌, ◌/◌, ◌%◌, ◌<◌, Bool, true, false, cond, not, ◌&&◌, ◌||◌, eqb, ltb, List, [], ◌∷◌, map, sym, refl, ap, ◌∙◌, ap₂, ⊎_elim, arith}
use mathlib.Core.Bool.{beq}
use lib.Dec.{eqb-zero-suc, eqb-suc-zero, eqb-suc-suc}
use Rattle.std.proofs.lemmas.Bool.{eq-eqb, ne_eqb, lt-ltb, le-ltb, cases_eq, cases_lt}
use Rattle.std.proofs.lemmas.Nat.{mod-pow-add}
use Rattle.std.specs.List.{list_any}
use Rattle.walk.specs.Settled.{any}
use Rattle.proposal.specs.Proposal.{Claim}
use Rattle.proposal.specs.declared.claim.Path.{Path}
use Rattle.proposal.specs.declared.claim.Claim as declared
use Rattle.proposal.specs.declared.claim.Claim.TheVariants as variants
use Rattle.proposal.specs.Reading.{bits}
use Rattle.proposal.specs.Claims.{turns_of, claim_of}
use Rattle.correspondence.specs.Coverage.{is_path, begins}
use Rattle.coverage.specs.Matching.{same_turns, start_of, path_of, matches}

-- Two turns, one or two.
pub bit_same : (a b : ℕ) → a ≡ b → beq (eqb a 1) (eqb b 1) ≡ true
bit_same a b e = ap (λ x. beq (eqb a 1) (eqb x 1)) (sym e) ∙ beq_self (eqb a 1) where
  beq_self : (x : Bool) → beq x x ≡ true
  beq_self true = refl
  beq_self false = refl

pub bit_differs : (a b : ℕ) → a < 2 → b < 2 → (a ≡ b → ⊥) → beq (eqb a 1) (eqb b 1) ≡ false
bit_differs a b la lb ne =
    ⊎_elim
    (λ e. ap₂ beq (eq-eqb a 1 e) (ne_eqb b 1 (λ f. ne (e ∙ sym f))))
    (λ z. ap₂ beq (ne_eqb a 1 z) (eq-eqb b 1 (omega arith)))
    (cases_eq a 1)

-- One turn and those behind it, as one number.
and_eqb : (a b c d : ℕ) → a < 2 → b < 2 → (beq (eqb a 1) (eqb b 1) && eqb c d) ≡ eqb (c * 2 + a) (d * 2 + b)
and_eqb a b c d la lb =
    ⊎_elim
    (λ e. ap (λ x. x && eqb c d) (bit_same a b e) ∙ ⊎_elim
    (λ f. eq-eqb c d f ∙ sym (eq-eqb (c * 2 + a) (d * 2 + b) (omega arith)))
    (λ f. ne_eqb c d f ∙ sym (ne_eqb (c * 2 + a) (d * 2 + b) (λ g. f (omega arith))))
    (cases_eq c d))
    (λ z. ap (λ x. x && eqb c d) (bit_differs a b la lb z) ∙ sym (ne_eqb (c * 2 + a) (d * 2 + b) (λ g. z (omega arith))))
    (cases_eq a b)

-- the first n turns as a remainder
pub turns_below : (n v w : ℕ) → same_turns n v w ≡ eqb (v % 2 ^ n) (w % 2 ^ n)
turns_below zero v w = sym (eq-eqb (v % 1) (w % 1) (omega arith))
turns_below (suc n) v w =
    let s : suc n ≡ n + 1 = omega arith in
    let low : (x : ℕ) → x % 2 ^ suc n ≡ (x / 2 % 2 ^ n) * 2 + x % 2 = λ x. ap (λ k. x % 2 ^ k) s ∙ mod-pow-add x n 1 in
    ap (λ b. beq (eqb (v % 2) 1) (eqb (w % 2) 1) && b) (turns_below n (v / 2) (w / 2))
    ∙ and_eqb (v % 2) (w % 2) (v / 2 % 2 ^ n) (w / 2 % 2 ^ n) (omega arith) (omega arith)
    ∙ sym (ap₂ eqb (low v) (low w))

-- Paths as lists of turns.
beq_not : (a b : Bool) → beq (not a) (not b) ≡ beq a b
beq_not true true = refl
beq_not true false = refl
beq_not false true = refl
beq_not false false = refl

and_swap : (x y z : Bool) → (x && (y && z)) ≡ (y && (x && z))
and_swap true y z = refl
and_swap false true z = refl
and_swap false false z = refl

ltb_suc : (m n : ℕ) → ltb (suc m) (suc n) ≡ ltb m n
ltb_suc m n = ⊎_elim (λ h. lt-ltb (suc m) (suc n) (omega arith) ∙ sym (lt-ltb m n h)) (λ h. le-ltb (suc m) (suc n) (omega arith) ∙ sym (le-ltb m n h)) (cases_lt m n)

pub same_path : (n m v w : ℕ) → is_path (map not (bits n v)) (map not (bits m w)) ≡ (eqb n m && same_turns n v w)
same_path zero zero v w = refl
same_path zero (suc m) v w = sym (ap (λ b. b && true) (eqb-zero-suc m))
same_path (suc n) zero v w = sym (ap (λ b. b && same_turns (suc n) v w) (eqb-suc-zero n))
same_path (suc n) (suc m) v w =
    ap₂ ◌&&◌ (beq_not (eqb (v % 2) 1) (eqb (w % 2) 1)) (same_path n m (v / 2) (w / 2))
    ∙ and_swap (beq (eqb (v % 2) 1) (eqb (w % 2) 1)) (eqb n m) (same_turns n (v / 2) (w / 2))
    ∙ sym (ap (λ b. b && same_turns (suc n) v w) (eqb-suc-suc n m))

pub longer_path : (n m v w : ℕ) → begins (map not (bits n v)) (map not (bits m w)) ≡ (ltb n m && same_turns n v w)
longer_path zero zero v w = refl
longer_path zero (suc m) v w = sym (ap (λ b. b && true) (lt-ltb 0 (suc m) (omega arith)))
longer_path (suc n) zero v w = sym (ap (λ b. b && same_turns (suc n) v w) (le-ltb (suc n) 0 (omega arith)))
longer_path (suc n) (suc m) v w =
    ap₂ ◌&&◌ (beq_not (eqb (v % 2) 1) (eqb (w % 2) 1)) (longer_path n m (v / 2) (w / 2))
    ∙ and_swap (beq (eqb (v % 2) 1) (eqb (w % 2) 1)) (ltb n m) (same_turns n (v / 2) (w / 2))
    ∙ sym (ap (λ b. b && same_turns (suc n) v w) (ltb_suc n m))

-- A claim by its start pair and first path.
pub as_matches : (longer : Bool) (p : ℕ) (path : Path) (c : declared.Claim) → matches longer p (turns_of path) (claim_of c) ≡ (eqb (start_of c) p && (cond longer (ltb path.length (path_of c).length) (eqb path.length (path_of c).length) && same_turns path.length path.turns (path_of c).turns))
as_matches true p path (variants.Live start end first second) = ap (λ b. eqb start p && b) (longer_path path.length first.length path.turns first.turns)
as_matches true p path (variants.Infeasible start first) = ap (λ b. eqb start p && b) (longer_path path.length first.length path.turns first.turns)
as_matches false p path (variants.Live start end first second) = ap (λ b. eqb start p && b) (same_path path.length first.length path.turns first.turns)
as_matches false p path (variants.Infeasible start first) = ap (λ b. eqb start p && b) (same_path path.length first.length path.turns first.turns)

-- any of the claims, as the code asks for one
pub any_filed : (f : Claim → Bool) (claims : List declared.Claim) → list_any (λ c. f (claim_of c)) claims ≡ any f (map claim_of claims)
any_filed f [] = refl
any_filed f (c ∷ claims) = ap (λ b. f (claim_of c) || b) (any_filed f claims)
