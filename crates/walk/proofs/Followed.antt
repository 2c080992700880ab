-- A path followed to its end.
use Rattle.std.proofs.Common.{◌≡◌, ℕ, suc, ◌+◌, ◌-◌, ◌<◌, ◌≤◌, Bool, false, List, [], ◌∷◌, length, get_or, drop, Err, sym, refl, ap, ◌∙◌, inr, arith}
use Rattle.std.proofs.lemmas.List.{at_drop_more, at_drop_all}
use Rattle.domain.specs.Ring.{Ops}
use Rattle.forms.specs.Forms.{Form}
use Rattle.machine.specs.Answer.{Answer, good, refused, ◌then◌}
use Rattle.machine.specs.Machine.{Machine, row_at}
use Rattle.walk.specs.declared.fault.WalkFault.{WalkFault}
use Rattle.walk.specs.declared.fault.WalkFault.TheVariants.{OverLimits, Unsettled}
use Rattle.walk.specs.Lists.{KnownTests}
use Rattle.walk.specs.Lists.{Outputs}
use Rattle.walk.specs.declared.side.Side.{Side}
use Rattle.walk.specs.Settled.{Known}
use Rattle.walk.specs.Walk.{Track, step, walk, learn, must}
use Rattle.walk.specs.Seen.{known_seen, KeptApart}
use Rattle.walk.proofs.Learned.{known_kept}
use Rattle.machine.specs.Tables.{table_machine}
use Rattle.walk.specs.Taking.{track_seen, Reached, reached, only_reached, beside, reached_seen, told_walk, KeptOtherSide}

module _ {D : Type 0} (o : Ops D) (ask : ℕ → List (Known D) → Answer (Unit {0})) (m : Machine) where
  pub walk_done : (i : ℕ) (t : Track D) → walk o ask m i [] t ≡ good t
  unfolding walk
  walk_done i t = refl

  pub walk_more : (i : ℕ) (turn : Bool) (path : List Bool) (t : Track D) → walk o ask m i (turn ∷ path) t ≡ (step o (ask i) (row_at m t.state) turn t then λ u. walk o ask m (suc i) path u)
  unfolding walk
  walk_more i turn path t = refl

  -- the step at place i of a path
  pub walk_at : (path : List Bool) (i : ℕ) (t : Track D) → i < length path → walk o ask m i (drop i path) t ≡ (step o (ask i) (row_at m t.state) (get_or path i false) t then λ u. walk o ask m (i + 1) (drop (i + 1) path) u)
  walk_at path i t lt =
      let more : suc i ≡ i + 1 = omega arith in
      at_drop_more (λ p. walk o ask m i p t) path i false lt ∙ walk_more i (get_or path i false) (drop (i + 1) path) t
      ∙ ap (λ k. step o (ask i) (row_at m t.state) (get_or path i false) t then λ u. walk o ask m k (drop (i + 1) path) u) more

  pub walk_ended : (path : List Bool) (i : ℕ) (t : Track D) → length path ≤ i → walk o ask m i (drop i path) t ≡ good t
  walk_ended path i t h = at_drop_all (λ p. walk o ask m i p t) path i h ∙ walk_done i t

-- the rest of the path from here is the whole from the start
pub record Following {D : Type 0} (o : Ops D) (side : Side) (words : List ℕ) (path : List Bool) (start : ℕ) (known₀ : KnownTests) (outputs₀ : Outputs) (base : List (Form D)) (i state : ℕ) (known : KnownTests) (outputs : Outputs) (fs : List (Form D)) : Type 0 where
  pub walks : walk o (learn o) (table_machine words) i (drop i path) (track_seen side state known outputs fs) ≡ walk o (learn o) (table_machine words) 0 path (track_seen side start known₀ outputs₀ base)
  pub room : known.count + (length path - i) ≤ 24
  pub kept : KeptOtherSide side base fs

module _ {D : Type 0} (o : Ops D) (side : Side) (words : List ℕ) (path : List Bool) (start : ℕ) (known₀ : KnownTests) (outputs₀ : Outputs) (base : List (Form D)) (i state : ℕ) (known : KnownTests) (outputs : Outputs) (fs : List (Form D)) (inv : Following o side words path start known₀ outputs₀ base i state known outputs fs) where
  pub one_step : (s : ℕ) (known' : KnownTests) (outputs' : Outputs) (fs' : List (Form D)) → i < length path → good (track_seen side s known' outputs' fs') ≡ step o (λ tests. good tt) (row_at (table_machine words) state) (get_or path i false) (track_seen side state known outputs fs) → known'.count ≤ known.count + 1 → KeptOtherSide side fs fs' → Following o side words path start known₀ outputs₀ base (i + 1) s known' outputs' fs'
  one_step s known' outputs' fs' lt steps count kept = record {
    walks = ap (λ a. a then λ u. walk o (learn o) (table_machine words) (i + 1) (drop (i + 1) path) u) steps
        ∙ sym (walk_at o (learn o) (table_machine words) path i (track_seen side state known outputs fs) lt) ∙ inv.walks;
    room = (let r = inv.room in omega arith);
    kept = λ j a b c. kept j a b c ∙ inv.kept j a b c;
  }

  pub one_over : i < length path → refused 11 0 0 ≡ step o (λ tests. good tt) (row_at (table_machine words) state) (get_or path i false) (track_seen side state known outputs fs) → refused 11 0 0 ≡ walk o (learn o) (table_machine words) 0 path (track_seen side start known₀ outputs₀ base)
  one_over lt steps =
      ap (λ a. a then λ u. walk o (learn o) (table_machine words) (i + 1) (drop (i + 1) path) u) steps
      ∙ sym (walk_at o (learn o) (table_machine words) path i (track_seen side state known outputs fs) lt) ∙ inv.walks

  pub at_end : length path ≤ i → good (track_seen side state known outputs fs) ≡ walk o (learn o) (table_machine words) 0 path (track_seen side start known₀ outputs₀ base)
  at_end h = sym (walk_ended o (learn o) (table_machine words) path i (track_seen side state known outputs fs) h) ∙ inv.walks

-- a refusal or a place reached, with the tests beside it
module _ {D : Type 0} where
  only_good : (a : Answer (Track D)) (r : Reached D) → good r ≡ only_reached a → (tests : List (Known D)) × (a ≡ good (beside tests r))
  only_good (refused n m p) r h = absurd (let z : ◌≡◌ {A = ℕ} 0 1 = cc in omega arith)
  only_good (good t) r h = let e : r ≡ reached t = cc in (t.known, ap (λ q. good (beside t.known q)) (sym e))

  only_refused : (a : Answer (Track D)) (n m p : ℕ) → refused n m p ≡ only_reached a → a ≡ refused n m p
  only_refused (refused n' m' p') n m p h = cc
  only_refused (good t) n m p h = absurd (let z : ◌≡◌ {A = ℕ} 0 1 = cc in omega arith)

pub record FollowingSettled {D : Type 0} (o : Ops D) (side : Side) (words : List ℕ) (path : List Bool) (start : ℕ) (known : KnownTests) (outputs₀ : Outputs) (base : List (Form D)) (i state : ℕ) (outputs : Outputs) (fs : List (Form D)) : Type 0 where
  pub walks : (tests : List (Known D)) → (more : List (Known D)) × (only_reached (walk o (must o (known_seen known.items base 0 known.count)) (table_machine words) i (drop i path) (beside more (reached_seen side state outputs fs))) ≡ only_reached (walk o (must o (known_seen known.items base 0 known.count)) (table_machine words) 0 path (beside tests (reached_seen side start outputs₀ base))))
  pub kept : KeptApart side base fs

module _ {D : Type 0} (o : Ops D) (side : Side) (words : List ℕ) (path : List Bool) (start : ℕ) (known : KnownTests) (outputs₀ : Outputs) (base : List (Form D)) (i state : ℕ) (outputs : Outputs) (fs : List (Form D)) (inv : FollowingSettled o side words path start known outputs₀ base i state outputs fs) where
  known₀ : List (Known D)
  known₀ = known_seen known.items base 0 known.count

  -- what is known stays in its slots
  still_known : known_seen known.items fs 0 known.count ≡ known₀
  unfolding known₀
  still_known =
      let apart : (j : ℕ) → 96 ≤ j → j < 144 → get_or fs j [] ≡ get_or base j [] = λ j a b. inv.kept j b (inr (omega (arith, side.low))) (inr (omega (arith, side.before))) in
      known_kept known.items base fs known.count known.few apart

  here : List (Known D) → Track D
  here more = beside more (reached_seen side state outputs fs)

  rest : Track D → Answer (Track D)
  rest u = walk o (must o known₀) (table_machine words) (i + 1) (drop (i + 1) path) u

  at_step : (more : List (Known D)) (a : Answer (Track D)) → i < length path → step o (must o (known_seen known.items fs 0 known.count) i) (row_at (table_machine words) state) (get_or path i false) (here more) ≡ a → walk o (must o known₀) (table_machine words) i (drop i path) (here more) ≡ (a then rest)
  unfolding here rest
  at_step more a lt e =
      walk_at o (must o known₀) (table_machine words) path i (here more) lt
      ∙ ap (λ k. step o (must o k i) (row_at (table_machine words) state) (get_or path i false) (here more) then rest) (sym still_known)
      ∙ ap (λ b. b then rest) e

  pub settled_on : (s : ℕ) (outputs' : Outputs) (fs' : List (Form D)) → i < length path → ((tests : List (Known D)) → good (reached_seen side s outputs' fs') ≡ only_reached (step o (must o (known_seen known.items fs 0 known.count) i) (row_at (table_machine words) state) (get_or path i false) (beside tests (reached_seen side state outputs fs)))) → KeptApart side fs fs' → FollowingSettled o side words path start known outputs₀ base (i + 1) s outputs' fs'
  unfolding here rest known₀
  settled_on s outputs' fs' lt steps kept = record {
    walks = λ tests.
        (let w = inv.walks tests in
        let u = only_good _ (reached_seen side s outputs' fs') (steps w.0) in
        (u.0, ap only_reached (sym (at_step w.0 _ lt u.1)) ∙ w.1));
    kept = λ j a b c. kept j a b c ∙ inv.kept j a b c;
  }

  pub settled_not : (n m p : ℕ) → i < length path → ((tests : List (Known D)) → refused n m p ≡ only_reached (step o (must o (known_seen known.items fs 0 known.count) i) (row_at (table_machine words) state) (get_or path i false) (beside tests (reached_seen side state outputs fs)))) → (tests : List (Known D)) → refused n m p ≡ only_reached (walk o (must o (known_seen known.items base 0 known.count)) (table_machine words) 0 path (beside tests (reached_seen side start outputs₀ base)))
  unfolding here rest known₀
  settled_not n m p lt steps tests =
      let w = inv.walks tests in
      ap only_reached (sym (at_step w.0 (refused n m p) lt (only_refused _ n m p (steps w.0)))) ∙ w.1

  pub settled_end : length path ≤ i → (tests : List (Known D)) → good (reached_seen side state outputs fs) ≡ only_reached (walk o (must o (known_seen known.items base 0 known.count)) (table_machine words) 0 path (beside tests (reached_seen side start outputs₀ base)))
  settled_end h tests =
      let w = inv.walks tests in
      ap only_reached (sym (walk_ended o (must o (known_seen known.items base 0 known.count)) (table_machine words) path i (beside w.0 (reached_seen side state outputs fs)) h)) ∙ w.1

  -- whatever the fault
  pub settled_fault : {A B : Type 0} (y : WalkFault) (after : A → Reached D) (after' : B → Reached D) → i < length path → ((tests : List (Known D)) → told_walk (Err y) after ≡ only_reached (step o (must o (known_seen known.items fs 0 known.count) i) (row_at (table_machine words) state) (get_or path i false) (beside tests (reached_seen side state outputs fs)))) → (tests : List (Known D)) → told_walk (Err y) after' ≡ only_reached (walk o (must o (known_seen known.items base 0 known.count)) (table_machine words) 0 path (beside tests (reached_seen side start outputs₀ base)))
  settled_fault OverLimits after after' lt steps = settled_not 11 0 0 lt steps
  settled_fault (Unsettled k) after after' lt steps = settled_not 14 2 k lt steps

pub settled_start : {D : Type 0} (o : Ops D) (side : Side) (words : List ℕ) (path : List Bool) (start : ℕ) (known : KnownTests) (outputs : Outputs) (base : List (Form D)) → FollowingSettled o side words path start known outputs base 0 start outputs base
settled_start o side words path start known outputs base = record { walks = λ tests. (tests, refl); kept = λ i a b c. refl }
