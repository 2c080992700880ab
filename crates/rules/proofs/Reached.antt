-- The end pair, when the substitution, its registers and its facts have been gone through one behind the other.
use Rattle.std.proofs.Common.{◌≡◌, ℕ, ◌≤◌, List, length, Some, None, Err, Option, Result, sym, refl, ap, ◌∙◌, subst, ap₂, inl, inr, arith}
use Rattle.domain.specs.Ring.{Ops}
use Rattle.expression.specs.declared.item.Item.{Item}
use Rattle.forms.specs.Forms.{Form, symbol_form}
use Rattle.machine.specs.declared.words.Limits.{Limits}
use Rattle.machine.specs.Answer.{Answer, good, refused, ◌then◌}
use Rattle.proposal.specs.Proposal.{Pair, Fact}
use Rattle.proposal.specs.Reading.{read, all_stored, count_from}
use Rattle.walk.specs.Lists.{KnownTests}
use Rattle.walk.specs.Settled.{Known}
use Rattle.walk.specs.Walk.{Track, nth, fits}
use Rattle.walk.specs.Seen.{kept_seen, known_seen, KeptBut}
use Rattle.walk.proofs.Waiting.{kept_frame}
use Rattle.rules.specs.declared.counts.Counts.{Counts}
use Rattle.rules.specs.declared.fault.EndFault.{EndFault}
use Rattle.rules.specs.declared.fault.EndFault.TheVariants.{OverLimits}
use Rattle.rules.specs.declared.registers.Registers.{Registers}
use Rattle.correspondence.specs.Judgement.{formed, same_registers, facts_settled, end_holds}
use Rattle.rules.specs.Seen.{KeptButSlots}
use Rattle.rules.specs.Kept.{Fit, kept_pair, first_registers, second_registers, fact_count, symbol_count, substitution_registers}
use Rattle.rules.specs.Expressions.{registers_at, behind_registers, ReadableRegisters, facts_at, ReadableFacts}
use Rattle.rules.specs.Told.{end_figures, told_end, Substituted, JudgesEnd}
use Rattle.rules.proofs.FactsKnown.{still_known}
use Rattle.rules.proofs.PairParts.{KeptParts, few, found_first, found_second, found_facts}
use Rattle.rules.proofs.Substituting.{substitution_stand}

-- the refusal of a fault
abbrev pub fault_told : {X : Type 0} → EndFault → Answer X
fault_told y = refused (end_figures y).number (end_figures y).machine (end_figures y).place

-- what was refused is refused whatever comes behind, and what passed leaves the rest
stays_refused : {X Y : Type 0} (a : Answer (Unit {0})) (n m p : ℕ) (z : X) (k : Unit {0} → Answer Y) → refused n m p ≡ (a then λ _. good z) → refused n m p ≡ (a then k)
stays_refused (refused n' m' p') n m p z k e = cc
stays_refused (good u) n m p z k e = absurd (let w : ◌≡◌ {A = ℕ} 0 1 = cc in omega arith)

passes : {X Y : Type 0} (a : Answer (Unit {0})) (p z : X) (k : Unit {0} → Answer Y) → good p ≡ (a then λ _. good z) → (k tt ≡ (a then k)) × (p ≡ z)
passes (refused n m q) p z k e = absurd (let w : ◌≡◌ {A = ℕ} 0 1 = cc in omega arith)
passes (good u) p z k e = (refl, cc)

module _ {D : Type 0} (o : Ops D) where
  -- the rules of the end pair by the parts that they speak of
  ended : Option (List (Form D)) → (es₁ es₂ : List (List Item)) → List Fact → (r₁ r₂ : List (Form D)) → List (Known D) → Answer (Unit {0})
  ended m es₁ es₂ fs r₁ r₂ known = fits m then λ c. same_registers o 1 (nth c) 0 es₁ r₁ then λ _. same_registers o 2 (nth c) 0 es₂ r₂ then λ _. facts_settled o known (nth c) 0 fs

  ended_is : (q : Pair) (substitution : List (List Item)) (t u : Track D) → end_holds o q substitution t u ≡ ended (formed o (symbol_form o) substitution) q.registers₁ q.registers₂ q.facts t.registers u.registers t.known
  unfolding end_holds ended
  ended_is q substitution t u = refl

module _ {D : Type 0} (o : Ops D) (c : Counts) (fit : Fit c) (ws claim : List ℕ) (known : KnownTests) (parts : KeptParts c ws) (n : ℕ) (count : n ≡ symbol_count c ws) (rs₀ : Registers) (is₀ : rs₀ ≡ substitution_registers) (f₀ : List (Form D)) where
  most : n ≤ 32
  most = few c ws parts n count

  -- as many symbols as the pair has
  counted : (l : Limits) (es : List (List Item)) → all_stored 7 l (count_from 0 (kept_pair c ws).symbols) claim 3 ≡ good (read es (length claim)) → all_stored 7 l (count_from 0 n) claim 3 ≡ good (read es (length claim))
  counted l es e = ap (λ k. all_stored 7 l (count_from 0 k) claim 3) (count ∙ parts.symbols) ∙ e

  pub readable_claim : Substituted (kept_pair c ws).symbols claim → ReadableRegisters claim n rs₀
  readable_claim s = subst (ReadableRegisters claim n) (sym is₀) (substitution_stand s.limits claim n s.substitution (length claim) most (counted s.limits s.substitution s.read_all)).readable

  read_as : (l : Limits) (es : List (List Item)) → all_stored 7 l (count_from 0 (kept_pair c ws).symbols) claim 3 ≡ good (read es (length claim)) → registers_at claim n rs₀ ≡ es
  read_as l es e = ap (registers_at claim n) is₀ ∙ (substitution_stand l claim n es (length claim) most (counted l es e)).values

  -- what the rules say, by what stands in the slots at the start
  judged : Option (List (Form D)) → Answer (Unit {0})
  judged m = ended o m (kept_pair c ws).registers₁ (kept_pair c ws).registers₂ (kept_pair c ws).facts (kept_seen f₀ 0 c.one.registers) (kept_seen f₀ 16 c.two.registers) (known_seen known.items f₀ 0 known.count)

  judges : (r : Result (Unit {0}) EndFault) (m : Option (List (Form D))) → m ≡ formed o (symbol_form o) (registers_at claim n rs₀) → told_end r ≡ judged m → JudgesEnd o c ws claim known f₀ r
  unfolding judged
  judges r m value e l es t u given a b d =
      e ∙ ap judged (value ∙ ap (formed o (symbol_form o)) (read_as l es given))
      ∙ ap (λ x. ended o (formed o (symbol_form o) es) (kept_pair c ws).registers₁ (kept_pair c ws).registers₂ (kept_pair c ws).facts x (kept_seen f₀ 16 c.two.registers) (known_seen known.items f₀ 0 known.count)) (sym a)
      ∙ ap₂ (ended o (formed o (symbol_form o) es) (kept_pair c ws).registers₁ (kept_pair c ws).registers₂ (kept_pair c ws).facts t.registers) (sym d) (sym b)
      ∙ sym (ended_is o (kept_pair c ws) es t u)

  pub substitution_over : None ≡ formed o (symbol_form o) (registers_at claim n rs₀) → JudgesEnd o c ws claim known f₀ (Err OverLimits)
  unfolding judged ended
  substitution_over over = judges (Err OverLimits) None over refl

  module _ (f₁ : List (Form D)) (value : Some (kept_seen f₁ 32 n) ≡ formed o (symbol_form o) (registers_at claim n rs₀)) (kept₁ : KeptButSlots 32 n f₀ f₁) (rs₁ : Registers) (is₁ : rs₁ ≡ first_registers ws) where
    cs : ℕ → Option (Form D)
    cs = nth (kept_seen f₁ 32 n)

    facts : Answer (Unit {0})
    facts = facts_settled o (known_seen known.items f₀ 0 known.count) cs 0 (kept_pair c ws).facts

    second : Answer (Unit {0})
    second = same_registers o 2 cs 0 (kept_pair c ws).registers₂ (kept_seen f₀ 16 c.two.registers)

    first : Answer (Unit {0})
    first = same_registers o 1 cs 0 (kept_pair c ws).registers₁ (kept_seen f₀ 0 c.one.registers)

    by_parts : (r : Result (Unit {0}) EndFault) → told_end r ≡ (first then λ _. second then λ _. facts) → JudgesEnd o c ws claim known f₀ r
    unfolding judged ended first second facts cs
    by_parts r e = judges r (Some (kept_seen f₁ 32 n)) value e

    first_is : same_registers o 1 (nth (kept_seen f₁ 32 n)) 0 (registers_at ws c.one.registers rs₁) (kept_seen f₁ 0 c.one.registers) ≡ first
    unfolding first cs
    first_is = ap₂ (same_registers o 1 cs 0) (found_first c ws parts rs₁ is₁).0 (kept_frame f₀ f₁ 0 c.one.registers (λ j a b. kept₁ j (omega (arith, fit.registers₁)) (inl (omega (arith, fit.registers₁)))))

    pub first_unequal : (y : EndFault) (z : ℕ) → fault_told y ≡ (same_registers o 1 (nth (kept_seen f₁ 32 n)) 0 (registers_at ws c.one.registers rs₁) (kept_seen f₁ 0 c.one.registers) then λ _. good z) → JudgesEnd o c ws claim known f₀ (Err y)
    first_unequal y z e = by_parts (Err y) (stays_refused first _ _ _ z (λ _. second then λ _. facts) (e ∙ ap (λ a. a then λ _. good z) first_is))

    module _ (p : ℕ) (f₂ : List (Form D)) (passed₁ : good p ≡ (same_registers o 1 (nth (kept_seen f₁ 32 n)) 0 (registers_at ws c.one.registers rs₁) (kept_seen f₁ 0 c.one.registers) then λ _. good (behind_registers ws c.one.registers rs₁))) (kept₂ : KeptBut 152 f₁ f₂) (rs₂ : Registers) (is₂ : rs₂ ≡ second_registers c ws p) where
      over_first : ((second then λ _. facts) ≡ (first then λ _. second then λ _. facts)) × (p ≡ behind_registers ws c.one.registers rs₁)
      over_first = passes first p (behind_registers ws c.one.registers rs₁) (λ _. second then λ _. facts) (passed₁ ∙ ap (λ a. a then λ _. good (behind_registers ws c.one.registers rs₁)) first_is)

      second_is : same_registers o 2 (nth (kept_seen f₂ 32 n)) 0 (registers_at ws c.two.registers rs₂) (kept_seen f₂ 16 c.two.registers) ≡ second
      unfolding second cs
      second_is =
          ap (λ x. same_registers o 2 (nth x) 0 (registers_at ws c.two.registers rs₂) (kept_seen f₂ 16 c.two.registers)) (kept_frame f₁ f₂ 32 n (λ j a b. kept₂ j (omega (arith, most)) (omega (arith, most))))
          ∙ ap₂ (same_registers o 2 cs 0) (found_second c ws parts rs₁ is₁ p over_first.1 rs₂ is₂).0 (kept_frame f₀ f₂ 16 c.two.registers (λ j a b. kept₂ j (omega (arith, fit.registers₂)) (omega (arith, fit.registers₂)) ∙ kept₁ j (omega (arith, fit.registers₂)) (inl (omega (arith, fit.registers₂)))))

      pub readable_second : ReadableRegisters ws c.two.registers rs₂
      readable_second = (found_second c ws parts rs₁ is₁ p over_first.1 rs₂ is₂).1

      pub second_unequal : (y : EndFault) (z : ℕ) → fault_told y ≡ (same_registers o 2 (nth (kept_seen f₂ 32 n)) 0 (registers_at ws c.two.registers rs₂) (kept_seen f₂ 16 c.two.registers) then λ _. good z) → JudgesEnd o c ws claim known f₀ (Err y)
      second_unequal y z e = by_parts (Err y) (stays_refused second _ _ _ z (λ _. facts) (e ∙ ap (λ a. a then λ _. good z) second_is) ∙ over_first.0)

      module _ (q : ℕ) (f₃ : List (Form D)) (passed₂ : good q ≡ (same_registers o 2 (nth (kept_seen f₂ 32 n)) 0 (registers_at ws c.two.registers rs₂) (kept_seen f₂ 16 c.two.registers) then λ _. good (behind_registers ws c.two.registers rs₂))) (kept₃ : KeptBut 152 f₂ f₃) (k : ℕ) (is₃ : k ≡ fact_count ws) where
        over_second : (facts ≡ (second then λ _. facts)) × (q ≡ behind_registers ws c.two.registers rs₂)
        over_second = passes second q (behind_registers ws c.two.registers rs₂) (λ _. facts) (passed₂ ∙ ap (λ a. a then λ _. good (behind_registers ws c.two.registers rs₂)) second_is)

        found : (facts_at ws k q ≡ (kept_pair c ws).facts) × ReadableFacts ws k q × (k ≤ 8)
        found = found_facts c ws parts rs₁ is₁ p over_first.1 rs₂ is₂ q over_second.1 k is₃

        pub readable_facts : ReadableFacts ws k q
        readable_facts = found.1

        pub facts_judged : (r : Result (Unit {0}) EndFault) → told_end r ≡ facts_settled o (known_seen known.items f₃ 0 known.count) (nth (kept_seen f₃ 32 n)) 0 (facts_at ws k q) → JudgesEnd o c ws claim known f₀ r
        unfolding facts cs
        facts_judged r e =
            by_parts r (e
            ∙ ap₂ (λ x y. facts_settled o x (nth y) 0 (facts_at ws k q)) (still_known known f₀ f₃ (λ j a b. kept₃ j (omega arith) (omega arith) ∙ kept₂ j (omega arith) (omega arith) ∙ kept₁ j (omega arith) (inr (omega (arith, most))))) (kept_frame f₁ f₃ 32 n (λ j a b. kept₃ j (omega (arith, most)) (omega (arith, most)) ∙ kept₂ j (omega (arith, most)) (omega (arith, most))))
            ∙ ap (facts_settled o (known_seen known.items f₀ 0 known.count) cs 0) found.0
            ∙ over_second.0 ∙ over_first.0)
