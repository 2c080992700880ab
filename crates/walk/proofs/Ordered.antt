-- A path checked step by step.
use Rattle.std.proofs.Common.{◌≡◌, ℕ, suc, ◌+◌, ◌<◌, ◌≤◌, Bool, true, false, cond, not, ◌&&◌, ◌||◌, eqb, ltb, ◌≢◌, ◌⊎◌, List, [], ◌∷◌, length, get_or, drop, IfSome, Some, None, Option, sym, refl, ap, ◌∙◌, subst, ap₂, inl, inr, arith}
use Rattle.std.proofs.lemmas.List.{at_drop_more, at_drop_all}
use Rattle.std.proofs.lemmas.Bool.{eq-eqb, ne_eqb, eqb-true, eqb-false, ltb-true, ltb-false}
use Rattle.machine.specs.Answer.{good, refused, ◌then◌, check}
use Rattle.machine.specs.Machine.{Machine, Row, row_at, chosen}
use Rattle.walk.specs.Walk.{allows, is_last, in_order}
use Rattle.machine.specs.Tables.{There, GoesThere, table_machine}
use Rattle.walk.specs.Taking.{allowed_target}

module _ (m : Machine) where
  order_more : (which i s : ℕ) (turn : Bool) (path : List Bool) → in_order which m i s (turn ∷ path) ≡ (check (allows (row_at m s) turn && (is_last path || not (eqb (chosen (row_at m s) turn).target 0))) 12 which i then λ u. in_order which m (suc i) (chosen (row_at m s) turn).target path)
  unfolding in_order
  order_more which i s turn path = refl

  order_done : (which i s : ℕ) → in_order which m i s [] ≡ good tt
  unfolding in_order
  order_done which i s = refl

  -- the step at place i of a path
  order_at : (which : ℕ) (path : List Bool) (i s : ℕ) → i < length path → in_order which m i s (drop i path) ≡ (check (allows (row_at m s) (get_or path i false) && (is_last (drop (i + 1) path) || not (eqb (chosen (row_at m s) (get_or path i false)).target 0))) 12 which i then λ u. in_order which m (i + 1) (chosen (row_at m s) (get_or path i false)).target (drop (i + 1) path))
  order_at which path i s lt =
      let more : suc i ≡ i + 1 = omega arith in
      let turn = get_or path i false in
      at_drop_more (in_order which m i s) path i false lt ∙ order_more which i s turn (drop (i + 1) path)
      ∙ ap (λ k. check (allows (row_at m s) turn && (is_last (drop (i + 1) path) || not (eqb (chosen (row_at m s) turn).target 0))) 12 which i then λ u. in_order which m k (chosen (row_at m s) turn).target (drop (i + 1) path)) more

-- what the test of a step into state 0 says
pub early : (s n l : ℕ) → true ≡ (eqb s 0 && ltb n l) → (s ≡ 0) × (n < l)
early s n l h = go (eqb s 0) (ltb n l) refl refl h where
  go : (a b : Bool) → eqb s 0 ≡ a → ltb n l ≡ b → true ≡ (a && b) → (s ≡ 0) × (n < l)
  go true true p q e = (eqb-true s 0 p, ltb-true n l q)
  go true false p q e = absurd (let z : ◌≡◌ {A = ℕ} 0 1 = cc in omega arith)
  go false b p q e = absurd (let z : ◌≡◌ {A = ℕ} 0 1 = cc in omega arith)

pub not_early : (s n l : ℕ) → false ≡ (eqb s 0 && ltb n l) → (s ≢ 0) ⊎ (l ≤ n)
not_early s n l h = go (eqb s 0) (ltb n l) refl refl h where
  go : (a b : Bool) → eqb s 0 ≡ a → ltb n l ≡ b → false ≡ (a && b) → (s ≢ 0) ⊎ (l ≤ n)
  go false b p q e = inl (eqb-false s 0 p)
  go true false p q e = inr (ltb-false n l q)
  go true true p q e = absurd (let z : ◌≡◌ {A = ℕ} 0 1 = cc in omega arith)

or_true : (b : Bool) → (b || true) ≡ true
or_true true = refl
or_true false = refl

no_turn : (row : Row) (turn b : Bool) → allows row turn ≡ b → None ≡ cond b (Some (chosen row turn).target) None → allows row turn ≡ false
no_turn row turn false h e = h
no_turn row turn true h e = absurd (let z : ◌≡◌ {A = ℕ} 0 1 = cc in omega arith)

a_turn : (row : Row) (turn b : Bool) (s : ℕ) → allows row turn ≡ b → Some s ≡ cond b (Some (chosen row turn).target) None → (allows row turn ≡ true) × (s ≡ (chosen row turn).target)
a_turn row turn true s h e = (h, cc)
a_turn row turn false s h e = absurd (let z : ◌≡◌ {A = ℕ} 0 1 = cc in omega arith)

pub target_there : (words : List ℕ) (row : Row) (turn : Bool) (r : Option ℕ) → GoesThere words row → r ≡ allowed_target row turn → IfSome r (λ s. There words s)
target_there words row turn None there e = tt
target_there words row turn (Some s) there e = subst (There words) (sym (a_turn row turn (allows row turn) s refl e).1) (there turn)

pub record Ordering (words : List ℕ) (path : List Bool) (start i state : ℕ) : Type 0 where
  pub orders : (which : ℕ) → in_order which (table_machine words) i state (drop i path) ≡ in_order which (table_machine words) 0 start path

pub order_start : (words : List ℕ) (path : List Bool) (start : ℕ) → Ordering words path start 0 start
order_start words path start = record { orders = λ which. refl }

module _ (words : List ℕ) (path : List Bool) (start i state : ℕ) (inv : Ordering words path start i state) where
  pub order_end : length path ≤ i → (which : ℕ) → good tt ≡ in_order which (table_machine words) 0 start path
  order_end h which = sym (at_drop_all (in_order which (table_machine words) i state) path i h ∙ order_done (table_machine words) which i state) ∙ inv.orders which

  module _ (lt : i < length path) where
    refused_at : (which : ℕ) → (allows (row_at (table_machine words) state) (get_or path i false) && (is_last (drop (i + 1) path) || not (eqb (chosen (row_at (table_machine words) state) (get_or path i false)).target 0))) ≡ false → refused 12 which i ≡ in_order which (table_machine words) 0 start path
    refused_at which e =
        sym (order_at (table_machine words) which path i state lt
        ∙ ap (λ b. check b 12 which i then λ u. in_order which (table_machine words) (i + 1) (chosen (row_at (table_machine words) state) (get_or path i false)).target (drop (i + 1) path)) e)
        ∙ inv.orders which

    pub order_no_turn : None ≡ allowed_target (row_at (table_machine words) state) (get_or path i false) → (which : ℕ) → refused 12 which i ≡ in_order which (table_machine words) 0 start path
    order_no_turn e which = let n = no_turn (row_at (table_machine words) state) (get_or path i false) _ refl e in refused_at which (ap (λ b. b && (is_last (drop (i + 1) path) || not (eqb (chosen (row_at (table_machine words) state) (get_or path i false)).target 0))) n)

    module _ (s : ℕ) (e : Some s ≡ allowed_target (row_at (table_machine words) state) (get_or path i false)) where
      pub order_reset : s ≡ 0 → i + 1 < length path → (which : ℕ) → refused 12 which i ≡ in_order which (table_machine words) 0 start path
      order_reset zero_there more which =
          let t = a_turn (row_at (table_machine words) state) (get_or path i false) _ s refl e in
          let last = at_drop_more is_last path (i + 1) false more in
          let there = eq-eqb (chosen (row_at (table_machine words) state) (get_or path i false)).target 0 (sym t.1 ∙ zero_there) in
          refused_at which (ap (λ b. b && (is_last (drop (i + 1) path) || not (eqb (chosen (row_at (table_machine words) state) (get_or path i false)).target 0))) t.0 ∙ ap₂ (λ b c. b || not c) last there)

      pub order_on : (s ≢ 0) ⊎ (length path ≤ i + 1) → Ordering words path start (i + 1) s
      order_on h =
          let t = a_turn (row_at (table_machine words) state) (get_or path i false) _ s refl e in
          let target = (chosen (row_at (table_machine words) state) (get_or path i false)).target in
          let fine : (is_last (drop (i + 1) path) || not (eqb target 0)) ≡ true = elim h [
            | inl ne ↦ (let f = ne_eqb target 0 (λ z. ne (t.1 ∙ z)) in ap (λ b. is_last (drop (i + 1) path) || not b) f ∙ or_true (is_last (drop (i + 1) path)))
            | inr le ↦ ap (λ b. b || not (eqb target 0)) (at_drop_all is_last path (i + 1) le)
          ] in
          record {
            orders = λ which. ap (λ x. in_order which (table_machine words) (i + 1) x (drop (i + 1) path)) t.1
                ∙ sym (order_at (table_machine words) which path i state lt ∙ ap₂ (λ b c. check (b && c) 12 which i then λ u. in_order which (table_machine words) (i + 1) target (drop (i + 1) path)) t.0 fine)
                ∙ inv.orders which;
          }
