-- One step of a reading, at the place i of the words.
use Rattle.std.proofs.Common.{◌≡◌, ℕ, zero, suc, ◌+◌, ◌-◌, ◌<◌, Bool, cond, ◌&&◌, ltb, List, [], ◌∷◌, ◌++◌, drop, sym, refl, ◌∙◌, add-zero, add-suc, add-one, arith}
use Rattle.std.proofs.lemmas.Bool.{lt-ltb}
use Rattle.machine.specs.declared.words.Limits.{Limits}
use Rattle.machine.specs.Answer.{good, refused, ◌then◌}
use Rattle.machine.specs.Words.{ending, word, part}
use Rattle.machine.specs.Reading.{acts, marked, closing, transition, row, rows, row_part, meant, first_rows}

-- a transition of k more actions, in one equation
pub transition_at : (l : Limits) (ws : List ℕ) (k : ℕ) (st : List Bool) (p : ℕ) → transition l ws k st p ≡ ((ending l p (drop p ws)) then λ q. closing ws p q (cond (ltb 0 k && acts (part ws p q) st (word ws q)) (transition l ws (k - 1) (marked st (word ws q)) (q + 1)) (refused 2 0 q)))
unfolding transition
transition_at l ws zero st p = refl
transition_at l ws (suc k) st p = let b : suc k - 1 ≡ k = omega arith in rw (b, lt-ltb 0 (suc k) (omega arith))

module _ (l : Limits) (ws : List ℕ) where
  pub rows_more : (n p : ℕ) → rows l ws n ≡ good p → rows l ws (n + 1) ≡ row l ws p
  unfolding rows
  rows_more n p e = rw (add-one, e)

  -- once refused, always refused
  pub rows_stuck : (n m a b c : ℕ) → rows l ws n ≡ refused a b c → rows l ws (n + m) ≡ refused a b c
  unfolding rows
  rows_stuck n zero a b c e = rw add-zero e
  rows_stuck n (suc m) a b c e = rw (add-suc, rows_stuck n m a b c e)

  pub rows_refused : (n m p a b c : ℕ) → rows l ws n ≡ good p → n < m → refused a b c ≡ row l ws p → refused a b c ≡ rows l ws m
  rows_refused n m p a b c e h f =
      let split : n + 1 + (m - (n + 1)) ≡ m = omega arith in
      sym (rw split at (rows_stuck (n + 1) (m - (n + 1)) a b c (rows_more n p e ∙ sym f)))

pub first_rows_more : (l : Limits) (ws : List ℕ) (n : ℕ) → first_rows l ws (n + 1) ≡ first_rows l ws n ++ meant (row_part l ws n) ∷ []
unfolding first_rows
first_rows_more l ws n = rw add-one
