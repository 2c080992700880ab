-- A test that is computed at each number below n gives the fact at each.
use Rattle.std.specs.Prelude.{Bool, true, false, ℕ, zero, suc, ◌<◌, T}
use Rattle.std.proofs.Common.{subst, sym, ⊎_elim, le_of_suc-le-suc, not-suc-le-zero, eq-or-lt_of_le}

abbrev pub both : Bool → Bool → Bool
both true b = b
both false b = false

both_left : (a b : Bool) → T (both a b) → T a
both_left true b t = tt
both_left false b t = t

both_right : (a b : Bool) → T (both a b) → T b
both_right true b t = t
both_right false b t = absurd t

abbrev pub every : (ℕ → Bool) → ℕ → Bool
every f zero = true
every f (suc n) = both (f n) (every f n)

pub at : (f : ℕ → Bool) (n : ℕ) → T (every f n) → (k : ℕ) → k < n → T (f k)
at f zero t k h = absurd (not-suc-le-zero h)
at f (suc n) t k h =
    ⊎_elim (λ e. subst (λ (m : ℕ). T (f m)) (sym e) (both_left (f n) (every f n) t))
    (λ lt. at f n (both_right (f n) (every f n) t) k lt) (eq-or-lt_of_le (le_of_suc-le-suc h))

pub at_left : (f g : ℕ → Bool) (n : ℕ) → T (every (λ k. both (f k) (g k)) n) → (k : ℕ) → k < n → T (f k)
at_left f g n t k h = both_left (f k) (g k) (at (λ k. both (f k) (g k)) n t k h)

pub at_right : (f g : ℕ → Bool) (n : ℕ) → T (every (λ k. both (f k) (g k)) n) → (k : ℕ) → k < n → T (g k)
at_right f g n t k h = both_right (f k) (g k) (at (λ k. both (f k) (g k)) n t k h)
