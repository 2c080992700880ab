-- A path with one turn more.
use Rattle.std.proofs.Common.{◌≡◌, ℕ, zero, suc, ◌+◌, ◌*◌, ◌/◌, ◌%◌, ◌^◌, ◌<◌, Bool, true, false, cond, not, eqb, [], ◌∷◌, ◌++◌, map, refl, ap, ◌∙◌, ap₂, arith}
use native.Mathlib.Nat.{pow-succ'}
use Rattle.proposal.specs.Reading.{bits}

-- one turn behind n others
bits_more : (n w : ℕ) (turn : Bool) → w < 2 ^ n → map not (bits (suc n) (w + cond turn 0 (2 ^ n))) ≡ map not (bits n w) ++ (turn ∷ [])
bits_more zero w true h = let e : w ≡ 0 = omega arith in ap (λ k. not (eqb ((k + 0) % 2) 1) ∷ []) e
bits_more zero w false h = let e : w ≡ 0 = omega arith in ap (λ k. not (eqb ((k + 1) % 2) 1) ∷ []) e
bits_more (suc n) w turn h =
    let p = pow-succ' 2 n in
    let double : cond turn 0 (2 ^ suc n) ≡ 2 * cond turn 0 (2 ^ n) = twice turn p in
    let low : (w + cond turn 0 (2 ^ suc n)) % 2 ≡ w % 2 = omega arith in
    let high : (w + cond turn 0 (2 ^ suc n)) / 2 ≡ w / 2 + cond turn 0 (2 ^ n) = omega arith in
    ap₂ (λ b k. not (eqb b 1) ∷ map not (bits (suc n) k)) low high
    ∙ ap (λ x. not (eqb (w % 2) 1) ∷ x) (bits_more n (w / 2) turn (omega arith))
  where
    twice : (t : Bool) → 2 ^ suc n ≡ 2 * 2 ^ n → cond t 0 (2 ^ suc n) ≡ 2 * cond t 0 (2 ^ n)
    twice true e = refl
    twice false e = e

pub one_turn_more : (n w new : ℕ) (turn : Bool) → w < 2 ^ n → new ≡ cond turn 0 (2 ^ n) → map not (bits (n + 1) (w + new)) ≡ map not (bits n w) ++ (turn ∷ [])
one_turn_more n w new turn h e =
    let s : n + 1 ≡ suc n = omega arith in
    ap₂ (λ k x. map not (bits k (w + x))) s e ∙ bits_more n w turn h

pub still_tidy : (n w new : ℕ) (turn : Bool) → w < 2 ^ n → new ≡ cond turn 0 (2 ^ n) → w + new < 2 ^ (n + 1)
still_tidy n w new turn h e =
    let s : n + 1 ≡ suc n = omega arith in
    let q : 2 ^ (n + 1) ≡ 2 * 2 ^ n = ap (λ k. 2 ^ k) s ∙ pow-succ' 2 n in
    go turn q e
  where
    go : (t : Bool) → 2 ^ (n + 1) ≡ 2 * 2 ^ n → new ≡ cond t 0 (2 ^ n) → w + new < 2 ^ (n + 1)
    go true q e = omega arith
    go false q e = omega arith
