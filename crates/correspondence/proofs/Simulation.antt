-- The two machines keep to the pairs of a comparison whose every pair is covered.
use Rattle.std.proofs.Common.{◌≡◌, ℕ, zero, suc, ◌+◌, ◌-◌, ◌<◌, ◌≤◌, Bool, ◌≢◌, ◌⊎◌, List, [], ◌∷◌, ◌++◌, length, sym, refl, ap, ◌∙◌, subst, inl, inr, arith, length-append}
use native.Mathlib.Decide.{dec_lt}
use Rattle.domain.specs.Ring.{Ops}
use Rattle.expression.specs.declared.item.Item.{Item}
use Rattle.expression.specs.Values.{Bank, in_table}
use Rattle.machine.specs.Machine.{Machine, Row, straight, branch, row_at, chosen}
use Rattle.machine.specs.Runs.{Place, reset, Outputs, turn, turn_at, next, turns, after, outputs, Clear, Returns, Rounds, no_round, round, Completes, Agree}
use Rattle.machine.proofs.Runs.{after_add, turns_one_more, returns_later, returns_once, rounds_once, first_round}
use Rattle.proposal.specs.Proposal.{live, infeasible}
use Rattle.correspondence.specs.State.{Open, first_pair, pair_at}
use Rattle.correspondence.specs.Coverage.{led, Continues, Filed, as_live, as_infeasible, Covered, filed, begun, AllCovered}
use Rattle.correspondence.proofs.Meaning.{Holds, Takes, Kept, Sound}
use Rattle.correspondence.proofs.Opening.{opening_agrees, opening_holds}

module _ {V : Type 0} (o : Ops V) (m : Machine) where
  led_is : (x : Bank V) (path : List Bool) (c : Place V) → turns o m x (length path) c ≡ path → (after o m x (length path) c).state ≡ led m c.state path
  unfolding after turns
  led_is x [] c e = refl
  led_is x (t ∷ path) c e =
      let first : turn o m x c ≡ t = cc in
      let rest : turns o m x (length path) (next o m x c) ≡ path = cc in
      led_is x path (next o m x c) rest ∙ ap (λ u. led m (chosen (row_at m c.state) u).target path) first

  -- The machine is in state 0 again within n steps.
  abbrev Within : Bank V → ℕ → Place V → Type 0
  Within x n c = (k : ℕ) × (0 < k) × (k ≤ n) × ((after o m x k c).state ≡ 0)

  within : (x : Bank V) {c : Place V} {out : Outputs V} {left : Bank V} (r : Returns o m x c out left) → Within x r.steps c
  within x r = (r.steps, r.some, omega arith, r.arrived)

  within_later : (x : Bank V) (n k : ℕ) (c : Place V) → 0 < k → Clear o m x k c → (after o m x k c).state ≢ 0 → Within x (suc n) c → Within x n (after o m x k c)
  within_later x n k c some clear apart w = go (dec_lt w.0 k) (dec_lt k w.0)
    where
      go : Dec (w.0 < k) → Dec (k < w.0) → Within x n (after o m x k c)
      go (yes h) l = absurd (clear w.0 w.1 h w.3)
      go (no h) (yes l) =
          let e : k + (w.0 - k) ≡ w.0 = omega arith in
          (w.0 - k, omega arith, omega (arith, w.2), ap (λ q. q.state) (sym (after_add o m x k (w.0 - k) c) ∙ ap (λ j. after o m x j c) e) ∙ w.3)
      go (no h) (no l) =
          let e : k ≡ w.0 = omega arith in
          absurd (apart (ap (λ j. (after o m x j c).state) e ∙ w.3))

  one_more : (x : Bank V) (c : Place V) (path : List Bool) → Takes o m x c path → Takes o m x c (path ++ (turn o m x (after o m x (length path) c) ∷ []))
  one_more x c path takes =
      let u = turn o m x (after o m x (length path) c) in
      let e : length (path ++ (u ∷ [])) ≡ suc (length path) = omega (arith, length-append path (u ∷ [])) in
      ap (λ n. turns o m x n c) e ∙ turns_one_more o m x (length path) c ∙ ap (λ l. l ++ (u ∷ [])) takes

-- The turn that a machine takes is a continuation.
continues : {V : Type 0} (o : Ops V) (value : List Item → V) (row : Row) → Continues row (turn_at value o row)
continues o value (straight t) = refl
continues o value (branch test left right on_yes on_no) = tt

-- Where the path that machine 1 takes is covered, machine 1 takes a filed path.
filed_path : {V : Type 0} (o : Ops V) (b : Open) (p : ℕ) (x : Bank V) (c : Place V) → c.state ≡ (pair_at b p).state₁ → (path : List Bool) → Covered b p path → Takes o b.machine₁ x c path → (longer : List Bool) × Filed b p longer × Takes o b.machine₁ x c longer
filed_path o b p x c at path (filed f) takes = (path, f, takes)
filed_path o b p x c at path (begun t rest f each) takes =
    let m = b.machine₁ in
    let here = after o m x (length path) c in
    let u = turn o m x here in
    let e : here.state ≡ led m (pair_at b p).state₁ path = led_is o m x path c takes ∙ ap (λ s. led m s path) at in
    let goes = subst (λ s. Continues (row_at m s) u) e (continues o (in_table o here.registers x) (row_at m here.state)) in
    filed_path o b p x c at (path ++ (u ∷ [])) (each u goes) (one_more o m x c path takes)

module _ {V : Type 0} (o : Ops V) (b : Open) (kept : Kept o b) (covered : AllCovered b) where
  -- The machines stand where a pair says.
  record Stands (x : Bank V) (p : ℕ) (c₁ c₂ : Place V) : Type 0 where
    known : p < length b.pairs
    is₁ : c₁.state ≡ (pair_at b p).state₁
    is₂ : c₂.state ≡ (pair_at b p).state₂
    holds : Holds o (pair_at b p) x c₁.registers c₂.registers

  -- Some steps further both stand where a pair says again, and neither entered state 0 on the way.
  record Further (x : Bank V) (c₁ c₂ : Place V) : Type 0 where
    end : ℕ
    n₁ : ℕ
    n₂ : ℕ
    some₁ : 0 < n₁
    some₂ : 0 < n₂
    clear₁ : Clear o b.machine₁ x n₁ c₁
    clear₂ : Clear o b.machine₂ x n₂ c₂
    same : outputs o b.machine₁ x n₁ c₁ ≡ outputs o b.machine₂ x n₂ c₂
    stands : Stands x end (after o b.machine₁ x n₁ c₁) (after o b.machine₂ x n₂ c₂)

  further : (x : Bank V) (p : ℕ) (c₁ c₂ : Place V) → Stands x p c₁ c₂ → Further x c₁ c₂
  unfolding turns
  further x p c₁ c₂ s =
      let f = filed_path o b p x c₁ s.is₁ [] (covered p s.known) refl in
      go f.0 f.1 f.2
    where
      go : (path : List Bool) → Filed b p path → Takes o b.machine₁ x c₁ path → Further x c₁ c₂
      go path (as_infeasible filed_infeasible) takes = absurd ((kept.valid (infeasible p path) filed_infeasible).never x c₁ c₂ s.is₁ s.is₂ s.holds takes)
      go path (as_live end path₂ filed_live) takes =
          let v = kept.valid (live p end path path₂) filed_live in
          let f = v.leads x c₁ c₂ s.is₁ s.is₂ s.holds takes in
          record {
            end = end;
            n₁ = length path;
            n₂ = length path₂;
            some₁ = v.steps₁;
            some₂ = v.steps₂;
            clear₁ = f.clear₁;
            clear₂ = f.clear₂;
            same = f.same_out;
            stands = record { known = v.end_filed; is₁ = f.ends₁; is₂ = f.ends₂; holds = f.holds };
          }

  -- Both return to reset, with the same outputs and equal shared registers.
  record Both (x : Bank V) (c₁ c₂ : Place V) : Type 0 where
    out : Outputs V
    left₁ : Bank V
    left₂ : Bank V
    returns₁ : Returns o b.machine₁ x c₁ out left₁
    returns₂ : Returns o b.machine₂ x c₂ out left₂
    agree : Agree o b.shared left₁ left₂

  -- One of the two is in state 0 again within n steps.
  abbrev Either : Bank V → ℕ → Place V → Place V → Type 0
  Either x n c₁ c₂ = Within o b.machine₁ x n c₁ ⊎ Within o b.machine₂ x n c₂

  both_step : (n : ℕ) → ((x : Bank V) (p : ℕ) (c₁ c₂ : Place V) → Stands x p c₁ c₂ → Either x n c₁ c₂ → Both x c₁ c₂) → (x : Bank V) (c₁ c₂ : Place V) (f : Further x c₁ c₂) (end : ℕ) → f.end ≡ end → Either x (suc n) c₁ c₂ → Both x c₁ c₂
  both_step n ih x c₁ c₂ f zero e w =
      let first : pair_at b f.end ≡ first_pair b = ap (pair_at b) e ∙ kept.opened in
      let left₁ = (after o b.machine₁ x f.n₁ c₁).registers in
      let left₂ = (after o b.machine₂ x f.n₂ c₂).registers in
      record {
        out = outputs o b.machine₁ x f.n₁ c₁;
        left₁ = left₁;
        left₂ = left₂;
        returns₁ = record { steps = f.n₁; some = f.some₁; clear = f.clear₁; arrived = f.stands.is₁ ∙ ap (λ q. q.state₁) first; out_is = refl; left_is = refl };
        returns₂ = record { steps = f.n₂; some = f.some₂; clear = f.clear₂; arrived = f.stands.is₂ ∙ ap (λ q. q.state₂) first; out_is = f.same; left_is = refl };
        agree = opening_agrees o b.shared b.machine₁.registers b.machine₂.registers kept.fits₁ kept.fits₂ x left₁ left₂ (subst (λ q. Holds o q x left₁ left₂) first f.stands.holds);
      }
  both_step n ih x c₁ c₂ f (suc q) e w =
      let positive : 0 < f.end = omega arith in
      let then₁ = after o b.machine₁ x f.n₁ c₁ in
      let then₂ = after o b.machine₂ x f.n₂ c₂ in
      let apart₁ : then₁.state ≢ 0 = λ z. kept.others₁ f.end positive f.stands.known (sym f.stands.is₁ ∙ z) in
      let apart₂ : then₂.state ≢ 0 = λ z. kept.others₂ f.end positive f.stands.known (sym f.stands.is₂ ∙ z) in
      let sooner : Either x n then₁ then₂ = elim w [
        | inl v ↦ inl (within_later o b.machine₁ x n f.n₁ c₁ f.some₁ f.clear₁ apart₁ v)
        | inr v ↦ inr (within_later o b.machine₂ x n f.n₂ c₂ f.some₂ f.clear₂ apart₂ v)
      ] in
      let rest = ih x f.end then₁ then₂ f.stands sooner in
      record {
        out = outputs o b.machine₁ x f.n₁ c₁ ++ rest.out;
        left₁ = rest.left₁;
        left₂ = rest.left₂;
        returns₁ = returns_later o b.machine₁ x f.n₁ c₁ rest.out rest.left₁ f.clear₁ apart₁ rest.returns₁;
        returns₂ = subst (λ z. Returns o b.machine₂ x c₂ (z ++ rest.out) rest.left₂) (sym f.same) (returns_later o b.machine₂ x f.n₂ c₂ rest.out rest.left₂ f.clear₂ apart₂ rest.returns₂);
        agree = rest.agree;
      }

  both : (n : ℕ) (x : Bank V) (p : ℕ) (c₁ c₂ : Place V) → Stands x p c₁ c₂ → Either x n c₁ c₂ → Both x c₁ c₂
  both zero x p c₁ c₂ s (inl w) = absurd (omega (arith, w.1, w.2))
  both zero x p c₁ c₂ s (inr w) = absurd (omega (arith, w.1, w.2))
  both (suc n) x p c₁ c₂ s w = let f = further x p c₁ c₂ s in both_step n (both n) x c₁ c₂ f f.end refl w

  -- A round from reset, with equal shared registers.
  one_round : (x start₁ start₂ : Bank V) → Agree o b.shared start₁ start₂ → (n : ℕ) → Either x n (reset start₁) (reset start₂) → Both x (reset start₁) (reset start₂)
  one_round x start₁ start₂ agree n w = both n x 0 (reset start₁) (reset start₂) (record {
    known = kept.some;
    is₁ = sym (ap (λ q. q.state₁) kept.opened);
    is₂ = sym (ap (λ q. q.state₂) kept.opened);
    holds = subst (λ q. Holds o q x start₁ start₂) (sym kept.opened) (opening_holds o b.shared b.machine₁.registers b.machine₂.registers kept.fits₁ kept.fits₂ x start₁ start₂ agree);
  }) w

  record BothRounds (rounds : List (Bank V)) (start₁ start₂ : Bank V) : Type 0 where
    out : Outputs V
    left₁ : Bank V
    left₂ : Bank V
    runs₁ : Rounds o b.machine₁ rounds start₁ out left₁
    runs₂ : Rounds o b.machine₂ rounds start₂ out left₂
    agree : Agree o b.shared left₁ left₂

  joined : {x : Bank V} {rounds : List (Bank V)} {start₁ start₂ : Bank V} (now : Both x (reset start₁) (reset start₂)) → BothRounds rounds now.left₁ now.left₂ → BothRounds (x ∷ rounds) start₁ start₂
  joined now rest = record {
    out = now.out ++ rest.out;
    left₁ = rest.left₁;
    left₂ = rest.left₂;
    runs₁ = round now.returns₁ rest.runs₁;
    runs₂ = round now.returns₂ rest.runs₂;
    agree = rest.agree;
  }

  both_rounds : (rounds : List (Bank V)) (start₁ start₂ : Bank V) → Agree o b.shared start₁ start₂ → Completes o b.machine₁ rounds start₁ ⊎ Completes o b.machine₂ rounds start₂ → BothRounds rounds start₁ start₂
  both_rounds [] start₁ start₂ agree c = record { out = []; left₁ = start₁; left₂ = start₂; runs₁ = no_round; runs₂ = no_round; agree = agree }
  both_rounds (x ∷ rounds) start₁ start₂ agree (inl c) =
      let m = b.machine₁ in
      let f = first_round o m c.2 in
      let now = one_round x start₁ start₂ agree f.2.steps (inl (within o m x f.2)) in
      let e = (returns_once o m x (reset start₁) _ _ _ _ f.2 now.returns₁).1 in
      joined now (both_rounds rounds now.left₁ now.left₂ now.agree (inl (subst (Completes o m rounds) e f.3)))
  both_rounds (x ∷ rounds) start₁ start₂ agree (inr c) =
      let m = b.machine₂ in
      let f = first_round o m c.2 in
      let now = one_round x start₁ start₂ agree f.2.steps (inr (within o m x f.2)) in
      let e = (returns_once o m x (reset start₂) _ _ _ _ f.2 now.returns₂).1 in
      joined now (both_rounds rounds now.left₁ now.left₂ now.agree (inr (subst (Completes o m rounds) e f.3)))

pub sound : {V : Type 0} (o : Ops V) → Sound o
sound o b kept covered start₁ start₂ start_agree rounds = record {
  complete = (
    λ c. (let t = both_rounds o b kept covered rounds start₁ start₂ start_agree (inl c) in (t.out, t.left₂, t.runs₂)),
    λ c. (let t = both_rounds o b kept covered rounds start₁ start₂ start_agree (inr c) in (t.out, t.left₁, t.runs₁)),
  );
  agree = λ out₁ out₂ left₁ left₂ r s.
      let t = both_rounds o b kept covered rounds start₁ start₂ start_agree (inl (out₁, left₁, r)) in
      let p = rounds_once o b.machine₁ r t.runs₁ in
      let q = rounds_once o b.machine₂ s t.runs₂ in
      (p.0 ∙ sym q.0, λ k below. ap (λ f. f k) p.1 ∙ t.agree k below ∙ sym (ap (λ f. f k) q.1));
}
