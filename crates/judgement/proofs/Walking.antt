-- Both walks of a claim, one behind the other.
use Rattle.std.proofs.Common.{◌≡◌, ℕ, zero, suc, ◌+◌, ◌<◌, ◌≤◌, Bool, ◌⊎◌, List, [], get_or, Err, sym, refl, ap, ◌∙◌, subst, ap₂, inl, inr, arith}
use Rattle.domain.specs.Ring.{Ops}
use Rattle.forms.specs.Forms.{Form}
use Rattle.machine.specs.Answer.{Answer, good, refused, ◌then◌}
use Rattle.machine.specs.Machine.{Machine}
use Rattle.walk.specs.declared.fault.WalkFault.{WalkFault}
use Rattle.walk.specs.declared.fault.WalkFault.TheVariants.{OverLimits, Unsettled}
use Rattle.walk.specs.Lists.{KnownTests}
use Rattle.walk.specs.Lists.{Outputs}
use Rattle.walk.specs.declared.side.Side.{Side}
use Rattle.walk.specs.Walk.{Track, walk, learn, must}
use Rattle.walk.specs.Seen.{kept_seen, known_seen, outputs_seen, KeptApart}
use Rattle.walk.specs.Taking.{track_seen, Reached, reached, only_reached, beside, reached_seen, told_walk, KeptOtherSide}
use Rattle.walk.proofs.Learned.{known_kept}
use Rattle.walk.proofs.Waiting.{kept_frame, outputs_frame}
use Rattle.proposal.specs.Proposal.{Pair}
use Rattle.rules.specs.declared.counts.Counts.{Counts}
use Rattle.correspondence.specs.Judgement.{Started, started, at_start, never_taken, same_outputs, infeasible_rules}
use Rattle.rules.specs.Kept.{Fit}
use Rattle.judgement.specs.Faults.{of_walk, rule_figures}
use Rattle.judgement.specs.Walks.{first_side, second_side, Ends, ends_of, walked}

-- No outputs yet.
none_seen : {X : Type 0} (ports : List ℕ) (fs : List (List X)) (first n : ℕ) → n ≡ 0 → outputs_seen ports fs first n ≡ []
none_seen ports fs first zero e = refl
none_seen ports fs first (suc n) e = absurd (omega arith)

module _ {D : Type 0} (o : Ops D) (one two : Machine) (p : Pair) (path₁ path₂ : List Bool) where
  not_started : (n m q : ℕ) → refused n m q ≡ started o p → refused n m q ≡ walked o one two p path₁ path₂
  unfolding walked
  not_started n m q e =
      ap (λ a. a then λ s.
      walk o (learn o) one 0 path₁ (at_start o p.state₁ s.registers₁ s.known) then λ t.
      walk o (must o t.known) two 0 path₂ (at_start o p.state₂ s.registers₂ []) then λ u.
      same_outputs o 0 t.outputs u.outputs then λ _.
      good (ends_of t u)) e

  pub never_started : refused 11 0 0 ≡ started o p → refused 11 0 0 ≡ walked o one two p path₁ path₂
  never_started = not_started 11 0 0

  -- from the start pair on
  module _ (s : Started o) (is_started : good s ≡ started o p) where
    second_walk : Track D → Answer (Track D)
    second_walk t = walk o (must o t.known) two 0 path₂ (at_start o p.state₂ s.registers₂ [])

    compared : Track D → Track D → Answer (Ends D)
    compared t u = same_outputs o 0 t.outputs u.outputs then λ _. good (ends_of t u)

    by_first : (a : Answer (Track D)) → a ≡ walk o (learn o) one 0 path₁ (at_start o p.state₁ s.registers₁ s.known) → (a then λ t. second_walk t then λ u. compared t u) ≡ walked o one two p path₁ path₂
    unfolding walked second_walk compared
    by_first a e =
        ap (λ b. b then λ t. second_walk t then λ u. compared t u) e
        ∙ ap (λ a. a then λ s.
        walk o (learn o) one 0 path₁ (at_start o p.state₁ s.registers₁ s.known) then λ t.
        walk o (must o t.known) two 0 path₂ (at_start o p.state₂ s.registers₂ []) then λ u.
        same_outputs o 0 t.outputs u.outputs then λ _.
        good (ends_of t u)) is_started

    first_over : refused 11 0 0 ≡ walk o (learn o) one 0 path₁ (at_start o p.state₁ s.registers₁ s.known) → refused 11 0 0 ≡ walked o one two p path₁ path₂
    first_over e = by_first (refused 11 0 0) e

    module _ (t : Track D) (first : good t ≡ walk o (learn o) one 0 path₁ (at_start o p.state₁ s.registers₁ s.known)) where
      by_second : (a : Answer (Track D)) → second_walk t ≡ a → (a then λ u. compared t u) ≡ walked o one two p path₁ path₂
      by_second a e = ap (λ b. b then λ u. compared t u) (sym e) ∙ by_first (good t) first

      second_refused : (n m q : ℕ) (a : Answer (Track D)) → second_walk t ≡ a → refused n m q ≡ only_reached a → refused n m q ≡ walked o one two p path₁ path₂
      second_refused n m q (good u) e h = absurd (let z : ◌≡◌ {A = ℕ} 0 1 = cc in omega arith)
      second_refused n m q (refused n' m' q') e h = (let same : refused n m q ≡ refused n' m' q' = cc in same) ∙ by_second (refused n' m' q') e

      second_fault : {A : Type 0} (y : WalkFault) (after : A → Reached D) → told_walk (Err y) after ≡ only_reached (walk o (must o t.known) two 0 path₂ (at_start o p.state₂ s.registers₂ [])) → refused (rule_figures (of_walk y)).number (rule_figures (of_walk y)).machine (rule_figures (of_walk y)).place ≡ walked o one two p path₁ path₂
      unfolding second_walk
      second_fault OverLimits after e = second_refused 11 0 0 _ refl e
      second_fault (Unsettled i) after e = second_refused 14 2 i _ refl e

      module _ (r : Reached D) (second : good r ≡ only_reached (walk o (must o t.known) two 0 path₂ (at_start o p.state₂ s.registers₂ []))) where
        ended : (a : Answer (Track D)) → second_walk t ≡ a → good r ≡ only_reached a → (u : Track D) × (reached u ≡ r) × (compared t u ≡ walked o one two p path₁ path₂)
        ended (good u) e h = let same : r ≡ reached u = cc in (u, sym same, by_second (good u) e)
        ended (refused n m q) e h = absurd (let z : ◌≡◌ {A = ℕ} 0 1 = cc in omega arith)

        -- what the outputs say
        by_outputs : (a : Answer (Unit {0})) → a ≡ same_outputs o 0 t.outputs r.outputs → (a then λ _. good (record { state₁ = t.state; state₂ = r.state; registers₁ = t.registers; registers₂ = r.registers; known = t.known })) ≡ walked o one two p path₁ path₂
        unfolding second_walk compared
        by_outputs a e =
            let u = ended (second_walk t) refl second in
            ap₂ (λ b x. b then λ _. good (record { state₁ = t.state; state₂ = x.state; registers₁ = t.registers; registers₂ = x.registers; known = t.known })) (e ∙ ap (λ x. same_outputs o 0 t.outputs x.outputs) (sym u.1)) (sym u.1)
            ∙ u.2

-- What the walks leave in the slots of the other machine.
module _ {D : Type 0} (c : Counts) (fit : Fit c) (known : KnownTests) (f₁ f₂ : List (Form D)) (kept : KeptApart (second_side c fit) f₁ f₂) where
  first_kept : (i : ℕ) → i < 144 → (i < 16) ⊎ ((32 ≤ i) × ((i < 80) ⊎ (96 ≤ i))) → get_or f₂ i [] ≡ get_or f₁ i []
  first_kept i lt (inl low) = kept i lt (inl low) (inl (omega arith))
  first_kept i lt (inr (high, inl below)) = kept i lt (inr (omega (arith, fit.registers₂))) (inl below)
  first_kept i lt (inr (high, inr above)) = kept i lt (inr (omega (arith, fit.registers₂))) (inr (omega arith))

  registers_kept : kept_seen f₁ 0 c.one.registers ≡ kept_seen f₂ 0 c.one.registers
  registers_kept = sym (kept_frame f₁ f₂ 0 c.one.registers (λ j a b. first_kept j (omega (arith, fit.registers₁)) (inl (omega (arith, fit.registers₁)))))

  tests_kept : known_seen known.items f₁ 0 known.count ≡ known_seen known.items f₂ 0 known.count
  tests_kept = sym (known_kept known.items f₁ f₂ known.count known.few (λ i a b. first_kept i b (inr (omega arith, inr a))))

  outputs_kept : (out : Outputs) → outputs_seen out.items f₁ 64 out.count ≡ outputs_seen out.items f₂ 64 out.count
  outputs_kept out = sym (outputs_frame out.items out.items f₁ f₂ 64 out.count (λ j h. refl) (λ j h. first_kept (64 + j) (omega (arith, out.few)) (inr (omega arith, inl (omega (arith, out.few))))))

second_kept : {D : Type 0} (c : Counts) (fit : Fit c) → (f₁ f₂ : List (Form D)) → KeptOtherSide (first_side c fit) f₁ f₂ → kept_seen f₂ 16 c.two.registers ≡ kept_seen f₁ 16 c.two.registers
second_kept c fit f₁ f₂ kept = kept_frame f₁ f₂ 16 c.two.registers (λ j a b. kept j (omega (arith, fit.registers₂)) (inr (omega (arith, fit.registers₁))) (inl (omega (arith, fit.registers₂))))

-- Where the walks start.
module _ {D : Type 0} (o : Ops D) (c : Counts) (fit : Fit c) (p : Pair) (state : ℕ) (out : Outputs) (none : out.count ≡ 0) (fs : List (Form D)) where
  pub first_start : (known : KnownTests) → state ≡ p.state₁ → track_seen (first_side c fit) state known out fs ≡ at_start o p.state₁ (kept_seen fs 0 c.one.registers) (known_seen known.items fs 0 known.count)
  first_start known e = ap₂ (λ s outs. record { state = s; registers = kept_seen fs 0 c.one.registers; known = known_seen known.items fs 0 known.count; outputs = outs }) e (none_seen out.items fs 64 out.count none)

  second_start : (registers : List (Form D)) → state ≡ p.state₂ → kept_seen fs 16 c.two.registers ≡ registers → beside [] (reached_seen (second_side c fit) state out fs) ≡ at_start o p.state₂ registers []
  second_start registers e kept =
      ap₂ (λ s outs. record { state = s; registers = kept_seen fs 16 c.two.registers; known = []; outputs = outs }) e (none_seen out.items fs 80 out.count none)
      ∙ ap (λ rs. record { state = p.state₂; registers = rs; known = []; outputs = [] }) kept

-- The rules of an infeasible path, by its two parts.
module _ {D : Type 0} (o : Ops D) (one : Machine) (p : Pair) (path : List Bool) where
  pub infeasible_over : refused 11 0 0 ≡ started o p → refused 11 0 0 ≡ infeasible_rules o one p path
  unfolding infeasible_rules
  infeasible_over e = ap (λ a. a then λ s. never_taken o one path (at_start o p.state₁ s.registers₁ s.known)) e

  pub infeasible_by : (s : Started o) → good s ≡ started o p → (t : Track D) → t ≡ at_start o p.state₁ s.registers₁ s.known → never_taken o one path t ≡ infeasible_rules o one p path
  unfolding infeasible_rules
  infeasible_by s e t is = ap (never_taken o one path) is ∙ ap (λ a. a then λ s. never_taken o one path (at_start o p.state₁ s.registers₁ s.known)) e

-- Both walks in their slots: what they say of the claim, whatever the sides are called.
module _ {D : Type 0} (o : Ops D) (one two : Machine) (c : Counts) (fit : Fit c) (p : Pair) (path₁ path₂ : List Bool) (known : KnownTests) (f₁ : List (Form D)) where
  begun : Started o
  begun = record { registers₁ = kept_seen f₁ 0 c.one.registers; registers₂ = kept_seen f₁ 16 c.two.registers; known = known_seen known.items f₁ 0 known.count }

  module _ (starts : good (record { registers₁ = kept_seen f₁ 0 c.one.registers; registers₂ = kept_seen f₁ 16 c.two.registers; known = known_seen known.items f₁ 0 known.count }) ≡ started o p) (side₁ : Side) (e₁ : side₁ ≡ first_side c fit) (s₁ : ℕ) (es₁ : s₁ ≡ p.state₁) (out : Outputs) (none : out.count ≡ 0) where
    from_start : (a : Answer (Track D)) → a ≡ walk o (learn o) one 0 path₁ (track_seen side₁ s₁ known out f₁) → a ≡ walk o (learn o) one 0 path₁ (at_start o p.state₁ begun.registers₁ begun.known)
    unfolding begun
    from_start a e =
        e ∙ ap (λ side. walk o (learn o) one 0 path₁ (track_seen side s₁ known out f₁)) e₁
        ∙ ap (walk o (learn o) one 0 path₁) (first_start o c fit p s₁ out none f₁ known es₁)

    pub first_walk_over : refused 11 0 0 ≡ walk o (learn o) one 0 path₁ (track_seen side₁ s₁ known out f₁) → refused 11 0 0 ≡ walked o one two p path₁ path₂
    unfolding begun
    first_walk_over e = first_over o one two p path₁ path₂ begun starts (from_start (refused 11 0 0) e)

    module _ (r₁ : ℕ) (known' : KnownTests) (out' : Outputs) (f₂ : List (Form D)) (walks₁ : good (track_seen side₁ r₁ known' out' f₂) ≡ walk o (learn o) one 0 path₁ (track_seen side₁ s₁ known out f₁)) (kept₁ : KeptOtherSide side₁ f₁ f₂) (side₂ : Side) (e₂ : side₂ ≡ second_side c fit) (s₂ : ℕ) (es₂ : s₂ ≡ p.state₂) (other : Outputs) (none' : other.count ≡ 0) where
      reached_first : Track D
      reached_first = track_seen (first_side c fit) r₁ known' out' f₂

      first_walked : good reached_first ≡ walk o (learn o) one 0 path₁ (at_start o p.state₁ begun.registers₁ begun.known)
      unfolding reached_first
      first_walked = ap (λ side. good (track_seen side r₁ known' out' f₂)) (sym e₁) ∙ from_start _ walks₁

      from_second : (a : Answer (Reached D)) → a ≡ only_reached (walk o (must o (known_seen known'.items f₂ 0 known'.count)) two 0 path₂ (beside [] (reached_seen side₂ s₂ other f₂))) → a ≡ only_reached (walk o (must o reached_first.known) two 0 path₂ (at_start o p.state₂ begun.registers₂ []))
      unfolding reached_first begun
      from_second a e =
          let P : Side → Type 0 = λ side. KeptOtherSide side f₁ f₂ in
          e ∙ ap (λ side. only_reached (walk o (must o (known_seen known'.items f₂ 0 known'.count)) two 0 path₂ (beside [] (reached_seen side s₂ other f₂)))) e₂
          ∙ ap (λ t. only_reached (walk o (must o (known_seen known'.items f₂ 0 known'.count)) two 0 path₂ t)) (second_start o c fit p s₂ other none' f₂ (kept_seen f₁ 16 c.two.registers) es₂ (second_kept c fit f₁ f₂ (subst P e₁ kept₁)))

      pub second_walk_fault : {A : Type 0} (y : WalkFault) (after : A → Reached D) → told_walk (Err y) after ≡ only_reached (walk o (must o (known_seen known'.items f₂ 0 known'.count)) two 0 path₂ (beside [] (reached_seen side₂ s₂ other f₂))) → refused (rule_figures (of_walk y)).number (rule_figures (of_walk y)).machine (rule_figures (of_walk y)).place ≡ walked o one two p path₁ path₂
      unfolding begun
      second_walk_fault y after e = second_fault o one two p path₁ path₂ begun starts reached_first first_walked y after (from_second _ e)

      pub both_walked : (r₂ : ℕ) (other' : Outputs) (f₃ : List (Form D)) → good (reached_seen side₂ r₂ other' f₃) ≡ only_reached (walk o (must o (known_seen known'.items f₂ 0 known'.count)) two 0 path₂ (beside [] (reached_seen side₂ s₂ other f₂))) → KeptApart side₂ f₂ f₃ → (a : Answer (Unit {0})) → a ≡ same_outputs o 0 (outputs_seen out'.items f₃ 64 out'.count) (outputs_seen other'.items f₃ 80 other'.count) → (a then λ _. good (record { state₁ = r₁; state₂ = r₂; registers₁ = kept_seen f₃ 0 c.one.registers; registers₂ = kept_seen f₃ 16 c.two.registers; known = known_seen known'.items f₃ 0 known'.count })) ≡ walked o one two p path₁ path₂
      unfolding reached_first begun
      both_walked r₂ other' f₃ walks₂ kept₂ a e =
          let P : Side → Type 0 = λ side. KeptApart side f₂ f₃ in
          let kept = subst P e₂ kept₂ in
          ap₂ (λ rs ks. a then λ _. good (record { state₁ = r₁; state₂ = r₂; registers₁ = rs; registers₂ = kept_seen f₃ 16 c.two.registers; known = ks })) (sym (registers_kept c fit known' f₂ f₃ kept)) (sym (tests_kept c fit known' f₂ f₃ kept))
          ∙ by_outputs o one two p path₁ path₂ begun starts reached_first first_walked (reached_seen (second_side c fit) r₂ other' f₃) (ap (λ side. good (reached_seen side r₂ other' f₃)) (sym e₂) ∙ from_second _ walks₂) a (e ∙ ap (λ outs. same_outputs o 0 outs (outputs_seen other'.items f₃ 80 other'.count)) (sym (outputs_kept c fit known' f₂ f₃ kept out')))
