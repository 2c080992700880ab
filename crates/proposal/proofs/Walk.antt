-- The ones of a mask, walked from the lowest on: each is the lowest one of what is left, and is cleared.
use Rattle.std.proofs.Common.{◌≡◌, ℕ, zero, suc, ◌+◌, ◌-◌, ◌*◌, ◌/◌, ◌%◌, ◌^◌, ◌<◌, ◌⊎◌, [], ◌∷◌, refl, ap, ◌∙◌, subst, inl, inr, ⊎_elim, pow-suc, arith}
use lib.Bits.{bit_and, and_step, and_self, and_le_l}
use lib.Count.{ones, ones_step, count_trailing_zeros}
use Rattle.std.proofs.lemmas.Bool.{cases_eq}
use Rattle.proposal.specs.Reading.{bits, due}

-- what is left without the lowest one
abbrev pub cleared : ℕ → ℕ
cleared w = bit_and w (w - 1)

odd : (w : ℕ) → w % 2 ≡ 1 → cleared w ≡ w / 2 * 2
odd w e =
    let a : (w - 1) / 2 ≡ w / 2 = omega arith in
    let b : (w - 1) % 2 ≡ 0 = omega arith in
    let c : w / 2 * 2 + 0 ≡ w / 2 * 2 = omega arith in
    and_step w (w - 1) ∙ rw (a, b, e, and_self, c)

even : (w : ℕ) → w % 2 ≡ 0 → cleared w ≡ cleared (w / 2) * 2
even w e =
    let a : (w - 1) / 2 ≡ w / 2 - 1 = omega arith in
    and_step w (w - 1) ∙ rw (a, e) (omega arith)

parity : (w : ℕ) → (w % 2 ≡ 0) ⊎ (w % 2 ≡ 1)
parity w = ⊎_elim (λ e. inl e) (λ ne. inr (one w ne)) (cases_eq (w % 2) 0)
  where
    one : (w : ℕ) → (w % 2 ≡ 0 → ⊥) → w % 2 ≡ 1
    one w ne = ⊎_elim (λ e. e) (λ nf. absurd (omega (arith, ne, nf))) (cases_eq (w % 2) 1)

half : (w k : ℕ) → w < 2 ^ suc k → w / 2 < 2 ^ k
half w k h = omega (arith, pow-suc 2 k)

pub due_none : (n r : ℕ) → due (bits n 0) r ≡ []
due_none zero r = refl
due_none (suc n) r = due_none n (suc r)

step_odd : (n w v r : ℕ) → w % 2 ≡ 1 → v % 2 ≡ 0 → v / 2 ≡ w / 2 → due (bits (suc n) w) r ≡ r ∷ due (bits (suc n) v) r
step_odd n w v r e c d = rw (e, c, d)

step_even : (n w v r x : ℕ) → w % 2 ≡ 0 → v % 2 ≡ 0 → due (bits n (w / 2)) (suc r) ≡ x ∷ due (bits n (v / 2)) (suc r) → due (bits (suc n) w) r ≡ x ∷ due (bits (suc n) v) r
step_even n w v r x e c h = rw (e, c) h

zeros_odd : (k w : ℕ) → w % 2 ≡ 1 → count_trailing_zeros (suc k) w ≡ 0
unfolding count_trailing_zeros
zeros_odd k w e = rw e

zeros_even : (k w : ℕ) → w % 2 ≡ 0 → count_trailing_zeros (suc k) w ≡ suc (count_trailing_zeros k (w / 2))
unfolding count_trailing_zeros
zeros_even k w e = rw e

-- the first register that is due is the count of trailing zeros
pub due_lowest : (n k w r : ℕ) → 0 < w → w < 2 ^ n → w < 2 ^ k → due (bits n w) r ≡ (r + count_trailing_zeros k w) ∷ due (bits n (cleared w)) r
due_lowest zero k w r h a b = absurd (omega arith)
due_lowest (suc n) zero w r h a b = absurd (omega arith)
due_lowest (suc n) (suc k) w r h a b = ⊎_elim
    (λ e. (let c = even w e in
    let at : suc r + count_trailing_zeros k (w / 2) ≡ r + count_trailing_zeros (suc k) w = omega (arith, zeros_even k w e) in
    let rest : cleared (w / 2) ≡ cleared w / 2 = omega arith in
    step_even n w (cleared w) r (r + count_trailing_zeros (suc k) w) e (omega arith)
    (subst (λ x. due (bits n (w / 2)) (suc r) ≡ x ∷ due (bits n (cleared w / 2)) (suc r)) at
    (subst (λ v. due (bits n (w / 2)) (suc r) ≡ (suc r + count_trailing_zeros k (w / 2)) ∷ due (bits n v) (suc r)) rest
    (due_lowest n k (w / 2) (suc r) (omega arith) (half w n a) (half w k b))))))
    (λ e. (let c = odd w e in
    let at : r ≡ r + count_trailing_zeros (suc k) w = omega (arith, zeros_odd k w e) in
    step_odd n w (cleared w) r e (omega arith) (omega arith) ∙ ap (λ x. x ∷ due (bits (suc n) (cleared w)) r) at))
    (parity w)

pub ones_cleared : (n w : ℕ) → 0 < w → w < 2 ^ n → ones w ≡ ones (cleared w) + 1
ones_cleared zero w h a = absurd (omega arith)
ones_cleared (suc n) w h a = ⊎_elim
    (λ e. (let c = even w e in
    let rest : ones (cleared w / 2) ≡ ones (cleared (w / 2)) = ap ones (omega arith) in
    let ih = ones_cleared n (w / 2) (omega arith) (half w n a) in
    omega (arith, ones_step w, ones_step (cleared w))))
    (λ e. (let c = odd w e in
    let rest : ones (cleared w / 2) ≡ ones (w / 2) = ap ones (omega arith) in
    omega (arith, ones_step w, ones_step (cleared w))))
    (parity w)

pub ones_none : ones 0 ≡ 0
unfolding ones
ones_none = refl

-- a number with ones is not 0
pub ones_positive : (w : ℕ) → 0 < ones w → 0 < w
ones_positive w h = ⊎_elim (λ e. absurd (omega (arith, ap ones e, ones_none))) (λ ne. omega (arith, ne)) (cases_eq w 0)

pub no_ones : (w : ℕ) → w < 2 ^ 32 → ones w ≡ 0 → w ≡ 0
no_ones w h e = ⊎_elim (λ z. z) (λ ne. (let p : 0 < w = omega (arith, ne) in absurd (omega (arith, ones_cleared 32 w p h)))) (cases_eq w 0)

pub cleared_below : (w m : ℕ) → w < m → cleared w < m
cleared_below w m h = omega (arith, and_le_l w (w - 1))
