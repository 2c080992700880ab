-- What a kept pair consists of, by the places of its words.
use Rattle.std.proofs.Common.{◌≡◌, ℕ, suc, ◌+◌, ◌-◌, ◌≤◌, true, false, ◌&&◌, eqb, leb, List, [], ◌∷◌, ◌++◌, length, sym, refl, ap, ◌∙◌, subst, ap₂, arith}
use Rattle.std.proofs.lemmas.Bool.{ne_eqb, cond-false}
use Rattle.expression.specs.Words.{kind, number}
use Rattle.machine.specs.declared.head.Head.{Head}
use Rattle.machine.specs.Answer.{Answer, good, refused, ◌then◌, check}
use Rattle.machine.specs.Words.{word}
use Rattle.machine.proofs.Chains.{good_same, then_good, check_good}
use Rattle.proposal.specs.declared.pair.PairHead.{PairHead}
use Rattle.proposal.specs.Proposal.{Pair, symbols_from}
use Rattle.proposal.specs.Reading.{HeadOfPair, pair_head, is_state, read_pair_head, read_pair, proposal_limits}
use Rattle.proposal.specs.Places.{head_of, head_of_pair, body_head, mask_word, body_places, pair_limits}
use Rattle.proposal.proofs.Accepted.{pair_read, word_good}
use Rattle.proposal.proofs.Bodies.{body_told}
use Rattle.rules.specs.declared.counts.Counts.{Counts}
use Rattle.rules.specs.declared.registers.Registers.{Registers}
use Rattle.rules.specs.Kept.{is_good, good_or, pair_zero, kept_pair, is_kept, Fit, first_registers, second_registers, behind_first, behind_second, fact_count, symbol_count}
use Rattle.rules.specs.Expressions.{registers_at, behind_registers, ReadableRegisters, facts_at, ReadableFacts}
use Rattle.rules.proofs.Cutting.{Stand, filed, filed_stand, FactsStand, facts_stand, private_stand, opening_stand}

pub record KeptParts (c : Counts) (ws : List ℕ) : Type 0 where
  pub registers₁ : registers_at ws c.one.registers (first_registers ws) ≡ (kept_pair c ws).registers₁
  pub readable₁ : ReadableRegisters ws c.one.registers (first_registers ws)
  pub registers₂ : registers_at ws c.two.registers (second_registers c ws (behind_first c ws)) ≡ (kept_pair c ws).registers₂
  pub readable₂ : ReadableRegisters ws c.two.registers (second_registers c ws (behind_first c ws))
  pub facts : facts_at ws (fact_count ws) (behind_second c ws) ≡ (kept_pair c ws).facts
  pub readable_facts : ReadableFacts ws (fact_count ws) (behind_second c ws)
  pub few_facts : fact_count ws ≤ 8
  pub symbols : symbol_count c ws ≡ (kept_pair c ws).symbols
  pub few_symbols : symbol_count c ws ≤ 32

-- pair 0
zero_parts : (c : Counts) → Fit c → KeptParts c []
zero_parts c fit =
    let n₁ = c.one.registers in
    let n₂ = c.two.registers in
    let s = c.shared in
    let a = private_stand n₁ 0 3 0 0 (omega arith) (omega (arith, fit.registers₁)) in
    let b = opening_stand s n₂ (n₂ - s) 0 (behind_first c []) s (n₁ - s) (omega (arith, fit.shared₂)) (omega arith) (omega (arith, fit.registers₁, fit.registers₂)) in
    let past : s + (n₁ - s) ≡ n₁ = omega (arith, fit.shared₁) in
    record {
      registers₁ = a.values;
      readable₁ = a.readable;
      registers₂ = b.values ∙ ap (λ k. symbols_from 0 s ++ symbols_from k (n₂ - s)) past;
      readable₂ = b.readable;
      facts = refl;
      readable_facts = tt;
      few_facts = omega arith;
      symbols = refl;
      few_symbols = fit.symbols;
    }

head_same : (one two : Head) (w : ℕ) (h : HeadOfPair) → read_pair_head one.states two.states w ≡ good h → pair_head (number w) ≡ h
unfolding read_pair_head
head_same one two w h e =
    let g = pair_head (number w) in
    let s = check_good (eqb (kind w) 10 && (leb g.symbols 32 && leb g.facts 8)) 6 0 0 (λ _. check (is_state one.states g.state₁ && is_state two.states g.state₂) 8 0 0 then λ _. good g) h e in
    good_same g h (check_good (is_state one.states g.state₁ && is_state two.states g.state₂) 8 0 0 (λ _. good g) h s.1).1

body_same : (one two : Head) (ws : List ℕ) (h x : PairHead) → body_head one two ws h ≡ good x → h ≡ x
body_same one two ws h x e =
    let a = then_good (mask_word ws one.registers h.symbols 1) _ x e in
    let b = then_good (mask_word ws two.registers h.symbols 2) _ x a.2 in
    let d = then_good (body_places (pair_limits one h) ws _ _ h.facts) _ x b.2 in
    good_same h x (check_good (eqb d.0 (length ws)) 6 0 d.0 (λ _. good h) x d.2).1

-- the counts of a pair are those of its first word
pub counted : (one two : Head) (ws : List ℕ) (pair : Pair) → read_pair one two ws ≡ good pair → head_of (pair_head (number (word ws 0))) ≡ head_of_pair pair
unfolding read_pair
counted one two ws pair e =
    let a = word_good 6 ws 0 _ pair e in
    let b = then_good (read_pair_head one.states two.states (word ws 0)) _ pair a.1 in
    ap head_of (head_same one two (word ws 0) b.0 b.1)
    ∙ body_same one two ws (head_of b.0) (head_of_pair pair) (sym (body_told one two ws b.0) ∙ ap (λ r. r then λ q. good (head_of_pair q)) b.2)

pub was_good : {X : Type 0} (d : X) (a : Answer X) → is_good a ≡ true → a ≡ good (good_or d a)
was_good d (good x) e = refl
was_good d (refused n m p) e = absurd (let z : ◌≡◌ {A = ℕ} 0 1 = cc in omega arith)

filed_parts : (c : Counts) (w : ℕ) (ws : List ℕ) → Fit c → is_kept c (w ∷ ws) ≡ true → KeptParts c (w ∷ ws)
filed_parts c w ws fit kept =
    let pair = kept_pair c (w ∷ ws) in
    let was = was_good (pair_zero c) (read_pair c.one c.two (w ∷ ws)) kept in
    let parts = pair_read c.one c.two (w ∷ ws) pair was in
    let head = counted c.one c.two (w ∷ ws) pair was in
    let facts : fact_count (w ∷ ws) ≡ length pair.facts = ap (λ h. h.facts) head in
    let some_words : eqb (length (w ∷ ws)) 0 ≡ false = ne_eqb (suc (length ws)) 0 (λ e. omega arith) in
    let symbols : symbol_count c (w ∷ ws) ≡ pair.symbols = cond-false (eqb (length (w ∷ ws)) 0) _ _ some_words ∙ ap (λ h. h.symbols) head in
    let second : (p : ℕ) → filed 0 (number (word (w ∷ ws) 2)) p ≡ second_registers c (w ∷ ws) p = λ p. sym (cond-false (eqb (length (w ∷ ws)) 0) _ _ some_words) in
    let l = proposal_limits c.one.inputs pair.symbols 4 16 in
    let a = filed_stand 6 l (w ∷ ws) c.one.registers (number (word (w ∷ ws) 1)) 0 3 parts.expressions₁ parts.end₁ (omega (arith, fit.registers₁)) parts.read₁ in
    let b = filed_stand 6 l (w ∷ ws) c.two.registers (number (word (w ∷ ws) 2)) 0 parts.end₁ parts.expressions₂ parts.end₂ (omega (arith, fit.registers₂)) parts.read₂ in
    let rs : filed 0 (number (word (w ∷ ws) 2)) parts.end₁ ≡ second_registers c (w ∷ ws) (behind_first c (w ∷ ws)) = second parts.end₁ ∙ ap (second_registers c (w ∷ ws)) (sym a.behind) in
    let d = subst (λ x. Stand (w ∷ ws) c.two.registers x pair.registers₂ parts.end₂) rs (subst (λ es. Stand (w ∷ ws) c.two.registers (filed 0 (number (word (w ∷ ws) 2)) parts.end₁) es parts.end₂) (sym parts.registers₂) b) in
    let e = facts_stand l (w ∷ ws) (length pair.facts) parts.end₂ pair.facts (length (w ∷ ws)) parts.read_all in
    let f = subst (λ p. FactsStand (w ∷ ws) (length pair.facts) p pair.facts) (sym d.behind) e in
    record {
      registers₁ = a.values ∙ sym parts.registers₁;
      readable₁ = a.readable;
      registers₂ = d.values;
      readable₂ = d.readable;
      facts = ap (λ n. facts_at (w ∷ ws) n (behind_second c (w ∷ ws))) facts ∙ f.values;
      readable_facts = subst (λ n. ReadableFacts (w ∷ ws) n (behind_second c (w ∷ ws))) (sym facts) f.readable;
      few_facts = omega (arith, facts, parts.few_facts);
      symbols = symbols;
      few_symbols = omega (arith, symbols, parts.few_symbols);
    }

pub kept_parts : (c : Counts) (ws : List ℕ) → Fit c → is_kept c ws ≡ true → KeptParts c ws
kept_parts c [] fit kept = zero_parts c fit
kept_parts c (w ∷ ws) fit kept = filed_parts c w ws fit kept

pub few : (c : Counts) (ws : List ℕ) → KeptParts c ws → (n : ℕ) → n ≡ symbol_count c ws → n ≤ 32
few c ws parts n count = omega (arith, count, parts.few_symbols)

-- The parts as they are found one behind the other.
module _ (c : Counts) (ws : List ℕ) (parts : KeptParts c ws) (rs₁ : Registers) (is₁ : rs₁ ≡ first_registers ws) where
  pub found_first : (registers_at ws c.one.registers rs₁ ≡ (kept_pair c ws).registers₁) × ReadableRegisters ws c.one.registers rs₁
  found_first = (ap (registers_at ws c.one.registers) is₁ ∙ parts.registers₁, subst (ReadableRegisters ws c.one.registers) (sym is₁) parts.readable₁)

  module _ (p : ℕ) (at₁ : p ≡ behind_registers ws c.one.registers rs₁) (rs₂ : Registers) (is₂ : rs₂ ≡ second_registers c ws p) where
    second : rs₂ ≡ second_registers c ws (behind_first c ws)
    second = is₂ ∙ ap (second_registers c ws) (at₁ ∙ ap (behind_registers ws c.one.registers) is₁)

    pub found_second : (registers_at ws c.two.registers rs₂ ≡ (kept_pair c ws).registers₂) × ReadableRegisters ws c.two.registers rs₂
    found_second = (ap (registers_at ws c.two.registers) second ∙ parts.registers₂, subst (ReadableRegisters ws c.two.registers) (sym second) parts.readable₂)

    module _ (q : ℕ) (at₂ : q ≡ behind_registers ws c.two.registers rs₂) (k : ℕ) (is₃ : k ≡ fact_count ws) where
      place : q ≡ behind_second c ws
      place = at₂ ∙ ap (behind_registers ws c.two.registers) second

      pub found_facts : (facts_at ws k q ≡ (kept_pair c ws).facts) × ReadableFacts ws k q × (k ≤ 8)
      found_facts = (
        ap₂ (facts_at ws) is₃ place ∙ parts.facts,
        subst (λ n. ReadableFacts ws n q) (sym is₃) (subst (ReadableFacts ws (fact_count ws)) (sym place) parts.readable_facts),
        omega (arith, is₃, parts.few_facts),
      )
