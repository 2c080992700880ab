-- Steps one after another, the first return to reset, and runs of rounds.
use Rattle.std.proofs.Common.{◌≡◌, ℕ, zero, suc, ◌+◌, ◌-◌, ◌<◌, ◌≤◌, ◌≢◌, List, [], ◌∷◌, ◌++◌, sym, refl, ap, ◌∙◌, subst, ap₂, append_assoc, add-zero, suc-add, zero-add, arith}
use native.Mathlib.Decide.{dec_lt}
use Rattle.std.proofs.lemmas.Bool.{cond-true, cond-false, cond_both}
use Rattle.domain.specs.Ring.{Ops}
use Rattle.expression.specs.declared.item.Item.{Item}
use Rattle.expression.specs.Values.{Bank, in_table, answer}
use Rattle.machine.specs.Machine.{Machine, Transition, Row, straight, branch, row_at, chosen}
use Rattle.machine.specs.Runs.{Outputs, Place, reset, emits, turn_at, led_by, turn, taken, next, emitted, turns, after, outputs, Clear, Returns, Rounds, no_round, round, Completes, Selects, straight_on, yes_side, no_side, Steps, by, OneStep, Deterministic}

module _ {V : Type 0} (o : Ops V) where
  -- The transition that is selected is the chosen one.
  selected : (value : List Item → V) (row : Row) (t : Transition) → Selects o value row t → t ≡ chosen row (turn_at value o row)
  selected value row t straight_on = refl
  selected value row t (yes_side {y = y} {n = n} e) = sym (cond-true _ y n e)
  selected value row t (no_side {y = y} {n = n} e) = sym (cond-false _ y n e)

  selects : (value : List Item → V) (row : Row) → Selects o value row (chosen row (turn_at value o row))
  selects value (straight t) = straight_on
  selects value (branch test left right y n) = cond_both (answer o test (value left) (value right)) y n (λ t. Selects o value (branch test left right y n) t) (λ e. yes_side e) (λ e. no_side e)

  only_step : (m : Machine) (inputs : Bank V) (c : Place V) (out : Outputs V) (d : Place V) → Steps o m inputs c out d → (out ≡ emitted o m inputs c) × (d ≡ next o m inputs c)
  only_step m inputs c out d (by t s) =
      let value : List Item → V = in_table o c.registers inputs in
      let is = selected value (row_at m c.state) t s in
      (ap (λ u. emits value u.actions) is, ap (λ u. led_by value u c.registers) is)

  pub one_step : OneStep o
  one_step = record { exists = λ m inputs c. by (taken o m inputs c) (selects (in_table o c.registers inputs) (row_at m c.state)); unique = only_step }

module _ {V : Type 0} (o : Ops V) (m : Machine) (x : Bank V) where
  pub after_add : (j k : ℕ) (c : Place V) → after o m x (j + k) c ≡ after o m x k (after o m x j c)
  unfolding after
  after_add zero k c = rw zero-add
  after_add (suc j) k c = rw suc-add (after_add j k (next o m x c))

  pub outputs_add : (j k : ℕ) (c : Place V) → outputs o m x (j + k) c ≡ outputs o m x j c ++ outputs o m x k (after o m x j c)
  unfolding after outputs
  outputs_add zero k c = rw zero-add
  outputs_add (suc j) k c = rw suc-add (ap (λ l. emitted o m x c ++ l) (outputs_add j k (next o m x c)) ∙ sym (append_assoc (emitted o m x c) (outputs o m x j (next o m x c)) (outputs o m x k (after o m x j (next o m x c)))))

  pub turns_one_more : (n : ℕ) (c : Place V) → turns o m x (suc n) c ≡ turns o m x n c ++ (turn o m x (after o m x n c) ∷ [])
  unfolding after turns
  turns_one_more zero c = refl
  turns_one_more (suc n) c = ap (λ l. turn o m x c ∷ l) (turns_one_more n (next o m x c))

  -- A return after some steps that do not enter state 0 is a return from where they began.
  pub returns_later : (k : ℕ) (c : Place V) (out : Outputs V) (left : Bank V) → Clear o m x k c → (after o m x k c).state ≢ 0 → Returns o m x (after o m x k c) out left → Returns o m x c (outputs o m x k c ++ out) left
  returns_later k c out left clear apart r = record {
    steps = k + r.steps;
    some = omega (arith, r.some);
    clear = λ j positive before. go j positive before (dec_lt j k);
    arrived = rw after_add r.arrived;
    out_is = ap (λ l. outputs o m x k c ++ l) r.out_is ∙ sym (outputs_add k r.steps c);
    left_is = r.left_is ∙ sym (ap (λ p. p.registers) (after_add k r.steps c));
  }
    where
      shifted : (i : ℕ) → i < r.steps → (after o m x (k + i) c).state ≢ 0
      shifted zero h = rw add-zero apart
      shifted (suc i) h = rw after_add (r.clear (suc i) (omega arith) h)

      beyond : (j : ℕ) → k ≤ j → j < k + r.steps → (after o m x j c).state ≢ 0
      beyond j from before =
          let e : k + (j - k) ≡ j = omega arith in
          subst (λ n. (after o m x n c).state ≢ 0) e (shifted (j - k) (omega arith))

      go : (j : ℕ) → 0 < j → j < k + r.steps → Dec (j < k) → (after o m x j c).state ≢ 0
      go j positive before (yes h) = clear j positive h
      go j positive before (no h) = beyond j (omega arith) before

  -- The first return is one.
  pub returns_once : (c : Place V) (out out' : Outputs V) (left left' : Bank V) → Returns o m x c out left → Returns o m x c out' left' → (out ≡ out') × (left ≡ left')
  returns_once c out out' left left' r s =
      let e : r.steps ≡ s.steps = alike (dec_lt r.steps s.steps) (dec_lt s.steps r.steps) in
      (r.out_is ∙ ap (λ n. outputs o m x n c) e ∙ sym s.out_is, r.left_is ∙ ap (λ n. (after o m x n c).registers) e ∙ sym s.left_is)
    where
      alike : Dec (r.steps < s.steps) → Dec (s.steps < r.steps) → r.steps ≡ s.steps
      alike (yes h) k = absurd (s.clear r.steps r.some h r.arrived)
      alike (no h) (yes k) = absurd (r.clear s.steps s.some k s.arrived)
      alike (no h) (no k) = omega arith

module _ {V : Type 0} (o : Ops V) (m : Machine) where
  -- Rounds with the same inputs from the same registers are one.
  pub rounds_once : {rounds : List (Bank V)} {start : Bank V} {out out' : Outputs V} {left left' : Bank V} → Rounds o m rounds start out left → Rounds o m rounds start out' left' → (out ≡ out') × (left ≡ left')
  rounds_once no_round no_round = (refl, refl)
  rounds_once (round {inputs = x} {rest = more} {start = start} r rest) (round {left = left} {out' = out'} s rest') =
      let e = returns_once o m x (reset start) _ _ _ _ r s in
      let f = rounds_once rest (subst (λ z. Rounds o m more z out' left) (sym e.1) rest') in
      (ap₂ ◌++◌ e.0 f.0, f.1)

  pub first_round : {x : Bank V} {rounds : List (Bank V)} {start left : Bank V} {out : Outputs V} → Rounds o m (x ∷ rounds) start out left → (first : Outputs V) × (between : Bank V) × Returns o m x (reset start) first between × Completes o m rounds between
  first_round (round {between = between} {out = first} r rest) = (first, between, r, (_, _, rest))

pub deterministic : {V : Type 0} (o : Ops V) → Deterministic o
deterministic o m rounds start out₁ out₂ left₁ left₂ r s = rounds_once o m r s
