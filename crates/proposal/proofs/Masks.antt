-- When a mask fits: one register more.
use Rattle.std.proofs.Common.{◌≡◌, ℕ, zero, suc, ◌+◌, ◌-◌, ◌/◌, ◌%◌, ◌^◌, ◌<◌, Bool, true, false, ◌&&◌, ◌||◌, eqb, ltb, sym, refl, ap, ◌∙◌, ⊎_elim, pow-suc, add-one, arith}
use Rattle.std.proofs.lemmas.Bool.{lt-ltb, le-ltb, ne_eqb, cases_lt}
use Rattle.proposal.specs.Reading.{bits, symbols_exist}

abbrev pub fits : (n w r s : ℕ) → Bool
fits n w r s = ltb w (2 ^ n) && symbols_exist (bits n w) r s

swap : (a b c : Bool) → (a && (b && c)) ≡ (b && (a && c))
swap true b c = refl
swap false true c = refl
swap false false c = refl

half : (w m : ℕ) → ltb w (2 ^ suc m) ≡ ltb (w / 2) (2 ^ m)
half w m = ⊎_elim
    (λ h. lt-ltb w (2 ^ suc m) h ∙ sym (lt-ltb (w / 2) (2 ^ m) (omega (arith, pow-suc 2 m))))
    (λ h. le-ltb w (2 ^ suc m) h ∙ sym (le-ltb (w / 2) (2 ^ m) (omega (arith, pow-suc 2 m))))
    (cases_lt w (2 ^ suc m))

one_more : (m w r s : ℕ) → fits (suc m) w r s ≡ ((eqb (w % 2) 1 || ltb r s) && fits m (w / 2) (suc r) s)
one_more m w r s = ap (λ b. b && symbols_exist (bits (suc m) w) r s) (half w m) ∙ swap (ltb (w / 2) (2 ^ m)) (eqb (w % 2) 1 || ltb r s) (symbols_exist (bits m (w / 2)) (suc r) s)

pub fits_more : (i n w s : ℕ) → i < n → fits (n - i) w i s ≡ ((eqb (w % 2) 1 || ltb i s) && fits (n - (i + 1)) (w / 2) (i + 1) s)
fits_more i n w s h =
    let one : n - i ≡ suc (n - (i + 1)) = omega arith in
    rw (one, add-one) (one_more (n - suc i) w i s)

below_one : (w : ℕ) → (ltb w 1 && true) ≡ eqb w 0
below_one zero = refl
below_one (suc w) = ap (λ b. b && true) (le-ltb (suc w) 1 (omega arith)) ∙ sym (ne_eqb (suc w) 0 (λ e. omega arith))

pub fits_end : (n w s : ℕ) → fits (n - n) w n s ≡ eqb w 0
fits_end n w s = let z : n - n ≡ 0 = omega arith in rw z (below_one w)
