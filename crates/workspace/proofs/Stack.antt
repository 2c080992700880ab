-- The stack in the slots.
use Rattle.std.proofs.Common.{◌≡◌, ℕ, zero, suc, ◌+◌, ◌-◌, ◌<◌, ◌≤◌, ◌≢◌, List, [], ◌∷◌, length, get_or, take, set, Some, None, Ok, Err, Option, Result, sym, refl, ap, ◌∙◌, arith}
use Rattle.std.proofs.lemmas.List.{get_or-set_same, get_or-set_other, take-set-le}
use Rattle.expression.specs.Run.{Algebra, pushed, on_one, on_two, step}
use Rattle.expression.specs.Words.{takes}
use Rattle.expression.specs.declared.item.Item.{Item}
use Rattle.workspace.specs.Slots.{told, give}
use Rattle.workspace.specs.Evaluation.{stack}

module _ {X : Type 0} where
  pub stack_more : (d : ℕ) (fs : List (List X)) → stack (d + 1) fs ≡ get_or fs (154 + d) [] ∷ stack d fs
  unfolding stack
  stack_more d fs = let e : d + 1 ≡ suc d = omega arith in rw e

  -- what is written at or above the top changes no value of the stack
  stack_above : (d e : ℕ) (fs : List (List X)) (v : List X) → d ≤ e → stack d (set fs (154 + e) v) ≡ stack d fs
  unfolding stack
  stack_above zero e fs v h = refl
  stack_above (suc d) e fs v h =
      let ne : 154 + d ≢ 154 + e = omega arith in
      ap (λ x. x ∷ stack d (set fs (154 + e) v)) (get_or-set_other fs (154 + e) (154 + d) v [] ne)
      ∙ ap (λ s. get_or fs (154 + d) [] ∷ s) (stack_above d e fs v (omega arith))

  stack_push : (d : ℕ) (fs : List (List X)) (v : List X) → length fs ≡ 162 → d < 8 → stack (d + 1) (set fs (154 + d) v) ≡ v ∷ stack d fs
  stack_push d fs v n h =
      stack_more d (set fs (154 + d) v)
      ∙ ap (λ x. x ∷ stack d (set fs (154 + d) v)) (get_or-set_same fs (154 + d) v [] (omega arith))
      ∙ ap (λ s. v ∷ s) (stack_above d d fs v (omega arith))

  stack_one : (d : ℕ) (fs : List (List X)) → 1 ≤ d → stack d fs ≡ get_or fs (154 + d - 1) [] ∷ stack (d - 1) fs
  stack_one d fs h =
      let e : d ≡ d - 1 + 1 = omega arith in
      let k : 154 + (d - 1) ≡ 154 + d - 1 = omega arith in
      ap (λ n. stack n fs) e ∙ stack_more (d - 1) fs ∙ ap (λ j. get_or fs j [] ∷ stack (d - 1) fs) k

  stack_two : (d : ℕ) (fs : List (List X)) → 2 ≤ d → stack d fs ≡ get_or fs (154 + d - 1) [] ∷ (get_or fs (154 + d - 2) [] ∷ stack (d - 2) fs)
  stack_two d fs h =
      let k : 154 + (d - 1) - 1 ≡ 154 + d - 2 = omega arith in
      let m : d - 1 - 1 ≡ d - 2 = omega arith in
      stack_one d fs (omega arith) ∙ ap (λ s. get_or fs (154 + d - 1) [] ∷ s) (stack_one (d - 1) fs (omega arith) ∙ ap (λ j. get_or fs j [] ∷ stack (d - 1 - 1) fs) k ∙ ap (λ j. get_or fs (154 + d - 2) [] ∷ stack j fs) m)

  -- a value put at place d of the stack, in slot k
  put_on : (d k : ℕ) (fs fs' : List (List X)) (v : List X) → length fs ≡ 162 → d < 8 → k ≡ 154 + d → fs' ≡ set fs k v → (stack (d + 1) fs' ≡ v ∷ stack d fs) × (take 154 fs' ≡ take 154 fs)
  put_on d k fs fs' v n h e w =
      let w2 : fs' ≡ set fs (154 + d) v = w ∙ ap (λ j. set fs j v) e in
      (ap (stack (d + 1)) w2 ∙ stack_push d fs v n h, ap (take 154) w2 ∙ take-set-le 154 fs (154 + d) v (omega arith))

  -- the same where there may be none
  given : {U E : Type 0} (r : Result U E) (d k : ℕ) (fs fs' : List (List X)) (o : Option (List X)) → length fs ≡ 162 → d < 8 → k ≡ 154 + d
      → told r fs' ≡ give k o fs
      → (told r (stack (d + 1) fs') ≡ pushed o (stack d fs)) × (told r (take 154 fs') ≡ told r (take 154 fs))
  given (Ok u) d k fs fs' (Some v) n h q e =
      let w : fs' ≡ set fs k v = cc in
      let p = put_on d k fs fs' v n h q w in
      (ap Some p.0, ap Some p.1)
  given (Ok u) d k fs fs' None n h q e = let z : ◌≡◌ {A = ℕ} 0 1 = cc in absurd (omega arith)
  given (Err x) d k fs fs' (Some v) n h q e = let z : ◌≡◌ {A = ℕ} 0 1 = cc in absurd (omega arith)
  given (Err x) d k fs fs' None n h q e = (refl, refl)

  -- an item that puts one value on the stack, if there is one
  pub leafed : {U E : Type 0} (r : Result U E) (g : Algebra (List X)) (i : Item) (d : ℕ) (fs fs' : List (List X)) (o : Option (List X)) → length fs ≡ 162 → takes i ≡ 0 → ((s : List (List X)) → step g i s ≡ pushed o s) → d - takes i < 8
      → told r fs' ≡ give (154 + d) o fs
      → (told r (stack (d - takes i + 1) fs') ≡ step g i (stack d fs)) × (told r (take 154 fs') ≡ told r (take 154 fs))
  leafed r g i d fs fs' o n t e h w =
      let p = given r d (154 + d) fs fs' o n (omega arith) refl w in
      let m : d - takes i + 1 ≡ d + 1 = omega arith in
      (ap (λ j. told r (stack j fs')) m ∙ p.0 ∙ sym (e (stack d fs)), p.1)

  -- an item that changes the last value
  pub changed : (g : Algebra (List X)) (i : Item) (f : List X → List X) (d : ℕ) (fs fs' : List (List X)) → length fs ≡ 162 → takes i ≡ 1 → takes i ≤ d → ((s : List (List X)) → step g i s ≡ on_one f s) → d - takes i < 8
      → fs' ≡ set fs (154 + d - 1) (f (get_or fs (154 + d - 1) []))
      → (Some (stack (d - takes i + 1) fs') ≡ step g i (stack d fs)) × (Some (take 154 fs') ≡ Some (take 154 fs))
  changed g i f d fs fs' n t one e h w =
      let p = put_on (d - 1) (154 + d - 1) fs fs' (f (get_or fs (154 + d - 1) [])) n (omega arith) (omega arith) w in
      let m : d - takes i + 1 ≡ d - 1 + 1 = omega arith in
      (ap (λ j. Some (stack j fs')) m ∙ ap Some p.0 ∙ sym (e (stack d fs) ∙ ap (on_one f) (stack_one d fs (omega arith))), ap Some p.1)

  -- an item that takes two values
  pub paired : {U E : Type 0} (r : Result U E) (g : Algebra (List X)) (i : Item) (op : List X → List X → Option (List X)) (d : ℕ) (fs fs' : List (List X)) → length fs ≡ 162 → takes i ≡ 2 → takes i ≤ d → ((s : List (List X)) → step g i s ≡ on_two op s) → d - takes i < 8
      → told r fs' ≡ give (154 + d - 2) (op (get_or fs (154 + d - 2) []) (get_or fs (154 + d - 1) [])) fs
      → (told r (stack (d - takes i + 1) fs') ≡ step g i (stack d fs)) × (told r (take 154 fs') ≡ told r (take 154 fs))
  paired r g i op d fs fs' n t two e h w =
      let le : 2 ≤ d = omega arith in
      let p = given r (d - 2) (154 + d - 2) fs fs' (op (get_or fs (154 + d - 2) []) (get_or fs (154 + d - 1) [])) n (omega arith) (omega arith) w in
      let m : d - takes i + 1 ≡ d - 2 + 1 = omega arith in
      (ap (λ j. told r (stack j fs')) m ∙ p.0 ∙ sym (e (stack d fs) ∙ ap (on_two op) (stack_two d fs le)), p.1)
