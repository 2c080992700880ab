-- The start pair, when its registers and facts have been worked out one behind the other.
use Rattle.std.proofs.Common.{◌≡◌, ℕ, ◌≤◌, List, IfOk, Some, None, Ok, Err, Option, Result, ap, ◌∙◌, ap₂, inl, arith}
use Rattle.domain.specs.Ring.{Ops}
use Rattle.expression.specs.declared.item.Item.{Item}
use Rattle.forms.specs.Forms.{Form, symbol_form}
use Rattle.machine.specs.Answer.{Answer, good, refused, ◌then◌}
use Rattle.proposal.specs.Proposal.{Fact, Pair}
use Rattle.walk.specs.Lists.{KnownTests}
use Rattle.walk.specs.Settled.{Known}
use Rattle.walk.specs.Walk.{fits}
use Rattle.walk.specs.Seen.{kept_seen, known_seen, KeptBeforeKnown}
use Rattle.walk.proofs.Waiting.{kept_frame}
use Rattle.rules.specs.declared.counts.Counts.{Counts}
use Rattle.correspondence.specs.Judgement.{formed, fact_forms, Started, started}
use Rattle.rules.specs.Seen.{KeptButSlots, told_known}
use Rattle.rules.specs.Kept.{Fit}
use Rattle.rules.specs.Told.{told_started}

module _ {D : Type 0} (o : Ops D) (pair : Pair) where
  -- the start by the forms of its parts
  begun : (one two : Option (List (Form D))) → Option (List (Known D)) → Answer (Started o)
  begun one two facts = fits one then λ r₁. fits two then λ r₂. fits facts then λ known. good (record { registers₁ = r₁; registers₂ = r₂; known = known })

  pub first_over : (es : List (List Item)) → None ≡ formed o (symbol_form o) es → es ≡ pair.registers₁ → refused 11 0 0 ≡ started o pair
  unfolding begun
  first_over es over is = ap (λ m. begun m (formed o (symbol_form o) pair.registers₂) (fact_forms o (symbol_form o) pair.facts)) (over ∙ ap (formed o (symbol_form o)) is)

  module _ (es₁ : List (List Item)) (one : List (Form D)) (first : Some one ≡ formed o (symbol_form o) es₁) (is₁ : es₁ ≡ pair.registers₁) where
    with_first : (two : Option (List (Form D))) (facts : Option (List (Known D))) → begun (Some one) two facts ≡ begun (formed o (symbol_form o) pair.registers₁) two facts
    with_first two facts = ap (λ m. begun m two facts) (first ∙ ap (formed o (symbol_form o)) is₁)

    pub second_over : (es : List (List Item)) → None ≡ formed o (symbol_form o) es → es ≡ pair.registers₂ → refused 11 0 0 ≡ started o pair
    unfolding begun
    second_over es over is =
        ap (λ m. begun (Some one) m (fact_forms o (symbol_form o) pair.facts)) (over ∙ ap (formed o (symbol_form o)) is)
        ∙ with_first (formed o (symbol_form o) pair.registers₂) (fact_forms o (symbol_form o) pair.facts)

    module _ (es₂ : List (List Item)) (two : List (Form D)) (second : Some two ≡ formed o (symbol_form o) es₂) (is₂ : es₂ ≡ pair.registers₂) (fs : List Fact) (is₃ : fs ≡ pair.facts) where
      with_facts : (facts : Option (List (Known D))) → facts ≡ fact_forms o (symbol_form o) fs → begun (Some one) (Some two) facts ≡ started o pair
      unfolding begun
      with_facts facts e =
          ap₂ (λ m k. begun (Some one) m k) (second ∙ ap (formed o (symbol_form o)) is₂) (e ∙ ap (fact_forms o (symbol_form o)) is₃)
          ∙ with_first (formed o (symbol_form o) pair.registers₂) (fact_forms o (symbol_form o) pair.facts)

      pub all_begun : {E : Type 0} (r : Result KnownTests E) (c : Counts) (f₃ : List (Form D)) → told_known r f₃ ≡ fact_forms o (symbol_form o) fs → IfOk r (λ _. (kept_seen f₃ 0 c.one.registers ≡ one) × (kept_seen f₃ 16 c.two.registers ≡ two)) → told_started o r f₃ c ≡ started o pair
      unfolding begun
      all_begun (Err e) c f₃ facts kept = with_facts None facts
      all_begun (Ok known) c f₃ facts kept =
          ap₂ (λ x y. good (record { registers₁ = x; registers₂ = y; known = known_seen known.items f₃ 0 known.count })) kept.0 kept.1
          ∙ with_facts (Some (known_seen known.items f₃ 0 known.count)) facts

-- the registers stay in their slots
module _ {D : Type 0} (c : Counts) (fit : Fit c) (f₁ f₂ f₃ : List (Form D)) (kept₂ : KeptButSlots 16 c.two.registers f₁ f₂) where
  pub still_there : {E : Type 0} (r : Result KnownTests E) (P : KnownTests → Type 0) → IfOk r (λ known. P known × KeptBeforeKnown f₂ f₃) → IfOk r (λ _. (kept_seen f₃ 0 c.one.registers ≡ kept_seen f₁ 0 c.one.registers) × (kept_seen f₃ 16 c.two.registers ≡ kept_seen f₂ 16 c.two.registers))
  still_there (Err e) P kept = tt
  still_there (Ok known) P kept = (
    kept_frame f₁ f₃ 0 c.one.registers (λ j a b. kept.1 j (omega (arith, fit.registers₁)) ∙ kept₂ j (omega (arith, fit.registers₁)) (inl (omega (arith, fit.registers₁)))),
    kept_frame f₂ f₃ 16 c.two.registers (λ j a b. kept.1 j (omega (arith, fit.registers₂))),
  )

pub few_known : {D E : Type 0} (n : ℕ) (f₂ f₃ : List (Form D)) → n ≤ 8 → (r : Result KnownTests E) → IfOk r (λ known. (known.count ≡ n) × KeptBeforeKnown f₂ f₃) → IfOk r (λ known. known.count ≤ 8)
few_known n f₂ f₃ few (Err e) kept = tt
few_known n f₂ f₃ few (Ok known) kept = omega (arith, kept.0)
