-- What an accepted pair or claim consists of.
use Rattle.std.proofs.Common.{◌≡◌, ℕ, ◌^◌, ◌<◌, ◌≤◌, Bool, true, ◌&&◌, eqb, ltb, leb, List, [], length, get_or, sym, refl, ap, ◌∙◌, subst, ⊎_elim, arith}
use Rattle.std.proofs.lemmas.Bool.{and_parts, eqb-true, ltb-true, leb-true}
use Rattle.expression.specs.Words.{kind, number}
use Rattle.machine.specs.declared.head.Head.{Head}
use Rattle.machine.specs.Answer.{Answer, good, ◌then◌, check}
use Rattle.machine.specs.Words.{word}
use Rattle.machine.proofs.Chains.{good_same, then_good, check_good, cond_good}
use Rattle.proposal.specs.Proposal.{Pair, live, infeasible}
use Rattle.proposal.specs.Reading.{read, word_at, no_more, all_stored, bits, due, count_from, proposal_limits, HeadOfPair, pair_head, is_state, read_pair_head, symbols_exist, read_mask, registers_of, read_facts, read_body, read_pair, HeadOfClaim, read_claim_head, read_path, Proposed, read_live, read_infeasible, read_claim, is_filed_pair}
use Rattle.proposal.specs.Parts.{mask_of, PairParts, PairRead, LiveParts, LiveRead}
use Rattle.proposal.proofs.Chain.{then_assoc}
use Rattle.proposal.proofs.Bodies.{facts_counted}

-- behind a word that is there
pub word_good : {X : Type 0} (n : ℕ) (ws : List ℕ) (p : ℕ) (f : ℕ → Answer X) (x : X) → (word_at n ws p then f) ≡ good x → (p < length ws) × (f (word ws p) ≡ good x)
word_good n ws p f x e =
    let t = check_good (ltb p (length ws)) n 0 p (λ _. f (word ws p)) x (sym (then_assoc (check (ltb p (length ws)) n 0 p) (λ _. good (word ws p)) f) ∙ e) in
    (ltb-true p (length ws) t.0, t.1)

-- behind a mask that fits
mask_good : {X : Type 0} (n s p w : ℕ) (f : List Bool → Answer X) (x : X) → (read_mask n s p w then f) ≡ good x → (number w < 2 ^ n) × (f (bits n (number w)) ≡ good x)
unfolding read_mask
mask_good n s p w f x e =
    let b = eqb (kind w) 14 && (ltb (number w) (2 ^ n) && symbols_exist (bits n (number w)) 0 s) in
    let t = check_good b 6 0 p (λ _. f (bits n (number w))) x (sym (then_assoc (check b 6 0 p) (λ _. good (bits n (number w))) f) ∙ e) in
    let u = and_parts (eqb (kind w) 14) (ltb (number w) (2 ^ n) && symbols_exist (bits n (number w)) 0 s) t.0 in
    (ltb-true (number w) (2 ^ n) (and_parts (ltb (number w) (2 ^ n)) (symbols_exist (bits n (number w)) 0 s) u.1).0, t.1)

pub record GoodHead (one two : Head) (h : HeadOfPair) : Type 0 where
  pub state₁ : is_state one.states h.state₁ ≡ true
  pub state₂ : is_state two.states h.state₂ ≡ true
  pub few_symbols : h.symbols ≤ 32
  pub few_facts : h.facts ≤ 8

head_good : (one two : Head) (w : ℕ) (h : HeadOfPair) → read_pair_head one.states two.states w ≡ good h → GoodHead one two h
unfolding read_pair_head
head_good one two w h e =
    let g = pair_head (number w) in
    let s = check_good (eqb (kind w) 10 && (leb g.symbols 32 && leb g.facts 8)) 6 0 0 (λ _. check (is_state one.states g.state₁ && is_state two.states g.state₂) 8 0 0 then λ _. good g) h e in
    let t = check_good (is_state one.states g.state₁ && is_state two.states g.state₂) 8 0 0 (λ _. good g) h s.1 in
    let a = and_parts (eqb (kind w) 10) (leb g.symbols 32 && leb g.facts 8) s.0 in
    let b = and_parts (leb g.symbols 32) (leb g.facts 8) a.1 in
    let c = and_parts (is_state one.states g.state₁) (is_state two.states g.state₂) t.0 in
    subst (GoodHead one two) (good_same g h t.1) (record { state₁ = c.0; state₂ = c.1; few_symbols = leb-true g.symbols 32 b.0; few_facts = leb-true g.facts 8 b.1 })

body_good : (one two : Head) (ws : List ℕ) (h : HeadOfPair) (pair : Pair) → GoodHead one two h → read_body one two ws h ≡ good pair → PairParts one two ws pair
unfolding read_body
body_good one two ws h pair g e =
    let l = proposal_limits one.inputs h.symbols 4 16 in
    let a = word_good 6 ws 1 _ pair e in
    let b = mask_good one.registers h.symbols 1 (word ws 1) _ pair a.1 in
    let c = word_good 6 ws 2 _ pair b.1 in
    let d = mask_good two.registers h.symbols 2 (word ws 2) _ pair c.1 in
    let x = then_good (all_stored 6 l (due (mask_of one.registers ws 1) 0) ws 3) _ pair d.1 in
    let y = then_good (all_stored 6 l (due (mask_of two.registers ws 2) 0) ws x.0.place) _ pair x.2 in
    let z = then_good (read_facts l h.facts ws y.0.place) _ pair y.2 in
    let whole : Pair = record { state₁ = h.state₁; state₂ = h.state₂; symbols = h.symbols; registers₁ = registers_of (mask_of one.registers ws 1) 0 x.0.value; registers₂ = registers_of (mask_of two.registers ws 2) 0 y.0.value; facts = z.0.value } in
    let n = check_good (eqb z.0.place (length ws)) 6 0 z.0.place (λ _. good whole) pair z.2 in
    let counted = facts_counted l h.facts ws y.0.place z.0 z.1 in
    let at_end = eqb-true z.0.place (length ws) n.0 in
    subst (PairParts one two ws) (good_same whole pair n.1) (record {
      long = omega (arith, c.0);
      state₁ = g.state₁;
      state₂ = g.state₂;
      few_symbols = g.few_symbols;
      few_facts = omega (arith, g.few_facts);
      mask₁ = b.0;
      mask₂ = d.0;
      expressions₁ = x.0.value;
      end₁ = x.0.place;
      read₁ = x.1;
      registers₁ = refl;
      expressions₂ = y.0.value;
      end₂ = y.0.place;
      read₂ = y.1;
      registers₂ = refl;
      read_all = ap (λ k. read_facts l k ws y.0.place) counted ∙ z.1 ∙ ap (λ k. good (read z.0.value k)) at_end;
    })

pub pair_read : PairRead
unfolding read_pair
pair_read one two ws pair e =
    let a = word_good 6 ws 0 _ pair e in
    let b = then_good (read_pair_head one.states two.states (word ws 0)) _ pair a.1 in
    body_good one two ws b.0 pair (head_good one two (word ws 0) b.0 b.1) b.2

-- Claims

not_live : (s s' e' : ℕ) (p p' q' : List Bool) → infeasible s p ≡ live s' e' p' q' → ⊥
not_live s s' e' p p' q' k = let z : ◌≡◌ {A = ℕ} 0 1 = cc in omega arith

same_start : (s e s' e' : ℕ) (p q p' q' : List Bool) → live s e p q ≡ live s' e' p' q' → s ≡ s'
same_start s e s' e' p q p' q' k = cc

same_end : (s e s' e' : ℕ) (p q p' q' : List Bool) → live s e p q ≡ live s' e' p' q' → e ≡ e'
same_end s e s' e' p q p' q' k = cc

module _ (inputs : ℕ) (symbols ws : List ℕ) (h : HeadOfClaim) (first : List Bool) (start end : ℕ) (path₁ path₂ : List Bool) (c : Proposed) (is : c.claim ≡ live start end path₁ path₂) where
  infeasible_good : read_infeasible inputs symbols ws h first ≡ good c → LiveParts inputs symbols ws start end c.substitution
  infeasible_good e =
      let whole : Proposed = record { claim = infeasible h.start first; substitution = [] } in
      let a = check_good (is_filed_pair inputs symbols h.start) 9 0 0 (λ _. no_more 7 ws 2 then λ _. good whole) c e in
      let b = check_good (eqb 2 (length ws)) 7 0 2 (λ _. good whole) c a.1 in
      absurd (not_live h.start start end first path₁ path₂ (ap (λ d. d.claim) (good_same whole c b.1) ∙ is))

  live_good : read_live inputs symbols ws h first ≡ good c → LiveParts inputs symbols ws start end c.substitution
  live_good e =
      let l = proposal_limits inputs (get_or symbols h.start 0) 0 (get_or symbols h.end 0) in
      let a = word_good 7 ws 2 _ c e in
      let b = then_good (read_path 13 2 (word ws 2)) _ c a.1 in
      let d = check_good (is_filed_pair inputs symbols h.start && is_filed_pair inputs symbols h.end) 9 0 0 _ c b.2 in
      let x = then_good (all_stored 7 l (count_from 0 (get_or symbols h.end 0)) ws 3) _ c d.1 in
      let whole : Proposed = record { claim = live h.start h.end first b.0; substitution = x.0.value } in
      let n = check_good (eqb x.0.place (length ws)) 7 0 x.0.place (λ _. good whole) c x.2 in
      let same = good_same whole c n.1 in
      let claim = ap (λ k. k.claim) same ∙ is in
      let filed = and_parts (is_filed_pair inputs symbols h.start) (is_filed_pair inputs symbols h.end) d.0 in
      let parts : LiveParts inputs symbols ws h.start h.end x.0.value = record {
        start_filed = ltb-true h.start (length symbols) filed.0;
        end_filed = ltb-true h.end (length symbols) filed.1;
        read_all = x.1 ∙ ap (λ k. good (read x.0.value k)) (eqb-true x.0.place (length ws) n.0);
      } in
      subst (λ s. LiveParts inputs symbols ws s end c.substitution) (same_start h.start h.end start end first b.0 path₁ path₂ claim)
      (subst (λ s. LiveParts inputs symbols ws h.start s c.substitution) (same_end h.start h.end start end first b.0 path₁ path₂ claim)
      (subst (λ k. LiveParts inputs symbols ws h.start h.end k.substitution) same parts))

pub live_read : LiveRead
unfolding read_claim
live_read inputs symbols ws start end path₁ path₂ c e is =
    let a = word_good 7 ws 0 _ c e in
    let b = then_good (read_claim_head (word ws 0)) _ c a.1 in
    let d = word_good 7 ws 1 _ c b.2 in
    let f = then_good (read_path 12 1 (word ws 1)) _ c d.1 in
    ⊎_elim
    (λ g. infeasible_good inputs symbols ws b.0 f.0 start end path₁ path₂ c is g.1)
    (λ g. live_good inputs symbols ws b.0 f.0 start end path₁ path₂ c is g.1)
    (cond_good b.0.infeasible (read_infeasible inputs symbols ws b.0 f.0) (read_live inputs symbols ws b.0 f.0) c f.2)
