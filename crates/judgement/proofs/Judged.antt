-- The rules of a live claim, by where its paths end.
use Rattle.std.proofs.Common.{◌≡◌, ℕ, Bool, false, ◌&&◌, eqb, ◌⊎◌, List, [], sym, refl, ap, ◌∙◌, inl, inr}
use Rattle.std.proofs.lemmas.Bool.{eq-eqb, ne_eqb, and_left, and_right, and_from}
use Rattle.domain.specs.Ring.{Ops}
use Rattle.expression.specs.declared.item.Item.{Item}
use Rattle.machine.specs.Answer.{Answer, good, refused, ◌then◌, check}
use Rattle.machine.specs.Machine.{Machine}
use Rattle.walk.specs.Walk.{Track, walk, learn, must}
use Rattle.proposal.specs.Proposal.{Pair}
use Rattle.correspondence.specs.Judgement.{Started, started, at_start, same_outputs, end_states, end_holds, live_rules}
use Rattle.judgement.specs.Walks.{Ends, ends_of, first_end, second_end, walked}

module _ {D : Type 0} (o : Ops D) (one two : Machine) (p q : Pair) (path₁ path₂ : List Bool) (substitution : List (List Item)) where
  -- What the end pair asks of where the paths end.
  at_end : Ends D → Answer (Unit {0})
  at_end e = end_states o q (first_end e) (second_end e) then λ _. end_holds o q substitution (first_end e) (second_end e)

  rest₁ : Answer (Started o) → Answer (Unit {0})
  rest₁ a =
      a then λ s.
      walk o (learn o) one 0 path₁ (at_start o p.state₁ s.registers₁ s.known) then λ t.
      walk o (must o t.known) two 0 path₂ (at_start o p.state₂ s.registers₂ []) then λ u.
      same_outputs o 0 t.outputs u.outputs then λ _.
      end_states o q t u then λ _.
      end_holds o q substitution t u

  ends₁ : Answer (Started o) → Answer (Ends D)
  ends₁ a =
      a then λ s.
      walk o (learn o) one 0 path₁ (at_start o p.state₁ s.registers₁ s.known) then λ t.
      walk o (must o t.known) two 0 path₂ (at_start o p.state₂ s.registers₂ []) then λ u.
      same_outputs o 0 t.outputs u.outputs then λ _.
      good (ends_of t u)

  by_outputs : (t u : Track D) (a : Answer (Unit {0})) → (a then λ _. end_states o q t u then λ _. end_holds o q substitution t u) ≡ ((a then λ _. good (ends_of t u)) then at_end)
  unfolding at_end end_holds
  by_outputs t u (good x) = refl
  by_outputs t u (refused n m k) = refl

  by_second : (t : Track D) (a : Answer (Track D)) → (a then λ u. same_outputs o 0 t.outputs u.outputs then λ _. end_states o q t u then λ _. end_holds o q substitution t u) ≡ ((a then λ u. same_outputs o 0 t.outputs u.outputs then λ _. good (ends_of t u)) then at_end)
  by_second t (good u) = by_outputs t u (same_outputs o 0 t.outputs u.outputs)
  by_second t (refused n m k) = refl

  by_first : (s : Started o) (a : Answer (Track D)) → (a then λ t. walk o (must o t.known) two 0 path₂ (at_start o p.state₂ s.registers₂ []) then λ u. same_outputs o 0 t.outputs u.outputs then λ _. end_states o q t u then λ _. end_holds o q substitution t u) ≡ ((a then λ t. walk o (must o t.known) two 0 path₂ (at_start o p.state₂ s.registers₂ []) then λ u. same_outputs o 0 t.outputs u.outputs then λ _. good (ends_of t u)) then at_end)
  by_first s (good t) = by_second t (walk o (must o t.known) two 0 path₂ (at_start o p.state₂ s.registers₂ []))
  by_first s (refused n m k) = refl

  by_start : (a : Answer (Started o)) → rest₁ a ≡ (ends₁ a then at_end)
  unfolding rest₁ ends₁
  by_start (good s) = by_first s (walk o (learn o) one 0 path₁ (at_start o p.state₁ s.registers₁ s.known))
  by_start (refused n m k) = refl

  by_ends : live_rules o one two p q path₁ path₂ substitution ≡ (walked o one two p path₁ path₂ then at_end)
  unfolding live_rules walked rest₁ ends₁
  by_ends = by_start (started o p)

  pub walks_refused : (n m k : ℕ) → refused n m k ≡ walked o one two p path₁ path₂ → refused n m k ≡ live_rules o one two p q path₁ path₂ substitution
  walks_refused n m k e = ap (λ a. a then at_end) e ∙ sym by_ends

  module _ (e : Ends D) (walks : good e ≡ walked o one two p path₁ path₂) where
    pub ended_elsewhere : ((e.state₁ ≡ q.state₁ → ⊥) ⊎ (e.state₂ ≡ q.state₂ → ⊥)) → refused 16 0 0 ≡ live_rules o one two p q path₁ path₂ substitution
    unfolding at_end
    ended_elsewhere h =
        let not_there : (eqb e.state₁ q.state₁ && eqb e.state₂ q.state₂) ≡ false = elim h [
          | inl n ↦ and_left (eqb e.state₁ q.state₁) (eqb e.state₂ q.state₂) (ne_eqb e.state₁ q.state₁ n)
          | inr n ↦ and_right (eqb e.state₁ q.state₁) (eqb e.state₂ q.state₂) (ne_eqb e.state₂ q.state₂ n)
        ] in
        sym (by_ends ∙ ap (λ a. a then at_end) (sym walks) ∙ ap (λ b. check b 16 0 0 then λ _. end_holds o q substitution (first_end e) (second_end e)) not_there)

    pub ended_there : e.state₁ ≡ q.state₁ → e.state₂ ≡ q.state₂ → (a : Answer (Unit {0})) → a ≡ end_holds o q substitution (first_end e) (second_end e) → a ≡ live_rules o one two p q path₁ path₂ substitution
    unfolding at_end
    ended_there f g a is =
        let there = and_from (eqb e.state₁ q.state₁) (eqb e.state₂ q.state₂) (eq-eqb e.state₁ q.state₁ f) (eq-eqb e.state₂ q.state₂ g) in
        is ∙ sym (by_ends ∙ ap (λ x. x then at_end) (sym walks) ∙ ap (λ b. check b 16 0 0 then λ _. end_holds o q substitution (first_end e) (second_end e)) there)
