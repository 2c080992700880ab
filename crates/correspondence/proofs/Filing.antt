-- What filing keeps: every comparison that a history comes to is sound, and its filed paths are short.
use Rattle.std.proofs.Common.{◌≡◌, ℕ, zero, suc, ◌+◌, ◌/◌, ◌%◌, ◌^◌, ◌<◌, ◌≤◌, Bool, true, not, ◌&&◌, eqb, ltb, leb, ◌≢◌, ◌⊎◌, List, [], ◌∷◌, length, get_or, Some, None, Option, sym, refl, ap, ◌∙◌, subst, subst₂, inl, inr, arith, length-append}
use mathlib.Core.List.Memᴰ
use mathlib.Core.List.{Memᴰ}
use native.Mathlib.Decide.{dec_lt}
use lib.ListN.{length-map}
use Rattle.std.proofs.lemmas.List.{get_or_append_left, get_or_push}
use Rattle.std.proofs.lemmas.Bool.{and_parts, not-true, eqb-false, ltb-true, leb-true, cond_both}
use Rattle.domain.specs.Ring.{Ops, Laws}
use Rattle.expression.specs.declared.item.Item.{Item}
use Rattle.expression.specs.Words.{kind, number}
use Rattle.machine.specs.Answer.{good}
use Rattle.machine.specs.Machine.{Machine}
use Rattle.walk.specs.Walk.{in_order}
use Rattle.walk.proofs.Chains.{good_same, split, split_check}
use Rattle.walk.proofs.SettledLaw.{Theory}
use Rattle.proposal.specs.Proposal.{Pair, Claim, live, infeasible}
use Rattle.correspondence.specs.State.{Open, first_pair, pair_at, with_pair, with_claim, counts_of, symbols_of}
use Rattle.machine.specs.declared.head.Head.{Head}
use Rattle.proposal.specs.Reading.{word_at, no_more, all_stored, bits, count_from, proposal_limits, HeadOfPair, pair_head, is_state, read_pair_head, read_mask, due, read_facts, read_body, read_pair, HeadOfClaim, read_claim_head, read_path, Proposed, is_filed_pair, read_live, read_infeasible, read_claim}
use Rattle.correspondence.specs.Judgement.{judge}
use Rattle.correspondence.specs.Coverage.{Covered, AllCovered, claim_path, is_filed, unmatched, Verdict, equivalent, lacks, unless_lacking, verdict_from, verdict}
use Rattle.correspondence.specs.Calls.{Part, pair_words, claim_words, opened, filing}
use Rattle.correspondence.proofs.Meaning.{Wherever, Leads, Valid, Kept}
use Rattle.correspondence.proofs.Validity.{live_valid, infeasible_valid}
use Rattle.correspondence.proofs.Verdict.{judges}

-- Reading

bits_count : (n w : ℕ) → length (bits n w) ≡ n
bits_count zero w = refl
bits_count (suc n) w = ap suc (bits_count n (w / 2))

-- A path has one step or more, and at most sixteen.
abbrev pub IsPath : List Bool → Type 0
IsPath path = (0 < length path) × (length path ≤ 16)

path_read : (which place w : ℕ) (path : List Bool) → read_path which place w ≡ good path → IsPath path
unfolding read_path
path_read which place w path e =
    let n = number w in
    let h = split_check (eqb (kind w) which && (leb 1 (n % 32) && (leb (n % 32) 16 && (eqb (n / 32 % 8) 0 && ltb (n / 256) (2 ^ (n % 32)))))) 7 0 place _ path e in
    let a = and_parts (eqb (kind w) which) _ h.0 in
    let b = and_parts (leb 1 (n % 32)) _ a.1 in
    let c = and_parts (leb (n % 32) 16) _ b.1 in
    let size : length path ≡ n % 32 = ap length (sym (good_same _ path h.1)) ∙ length-map (bits (n % 32) (n / 256)) not ∙ bits_count (n % 32) (n / 256) in
    (omega (arith, leb-true 1 (n % 32) b.0, size), omega (arith, leb-true (n % 32) 16 c.0, size))

-- A claim as read: its pairs are among the n filed ones, its paths are paths.
abbrev pub SoundClaim : ℕ → Claim → Type 0
SoundClaim n (live start end path₁ path₂) = (start < n) × (end < n) × IsPath path₁ × IsPath path₂
SoundClaim n (infeasible start path₁) = (start < n) × IsPath path₁

module _ (inputs : ℕ) (symbols : List ℕ) where
  live_read : (ws : List ℕ) (h : HeadOfClaim) (path₁ : List Bool) (c : Proposed) → IsPath path₁ → read_live inputs symbols ws h path₁ ≡ good c → SoundClaim (length symbols) c.claim
  live_read ws h path₁ c first e =
      let a = split (word_at 7 ws 2) _ c e in
      let p = split (read_path 13 2 a.0) _ c a.2 in
      let f = split_check (is_filed_pair inputs symbols h.start && is_filed_pair inputs symbols h.end) 9 0 0 _ c p.2 in
      let g = and_parts (is_filed_pair inputs symbols h.start) (is_filed_pair inputs symbols h.end) f.0 in
      let stores = get_or symbols h.end 0 in
      let x = split (all_stored 7 (proposal_limits inputs (get_or symbols h.start 0) 0 stores) (count_from 0 stores) ws 3) _ c f.1 in
      let r = split (no_more 7 ws x.0.place) _ c x.2 in
      subst (λ (z : Proposed). SoundClaim (length symbols) z.claim) (good_same _ c r.2) (ltb-true h.start (length symbols) g.0, ltb-true h.end (length symbols) g.1, first, path_read 13 2 a.0 p.0 p.1)

  infeasible_read : (ws : List ℕ) (h : HeadOfClaim) (path₁ : List Bool) (c : Proposed) → IsPath path₁ → read_infeasible inputs symbols ws h path₁ ≡ good c → SoundClaim (length symbols) c.claim
  infeasible_read ws h path₁ c first e =
      let f = split_check (is_filed_pair inputs symbols h.start) 9 0 0 _ c e in
      let r = split (no_more 7 ws 2) _ c f.1 in
      subst (λ (z : Proposed). SoundClaim (length symbols) z.claim) (good_same _ c r.2) (ltb-true h.start (length symbols) f.0, first)

  pub claim_read : (ws : List ℕ) (c : Proposed) → read_claim inputs symbols ws ≡ good c → SoundClaim (length symbols) c.claim
  unfolding read_claim
  claim_read ws c e =
      let a = split (word_at 7 ws 0) _ c e in
      let h = split (read_claim_head a.0) _ c a.2 in
      let w = split (word_at 7 ws 1) _ c h.2 in
      let p = split (read_path 12 1 w.0) _ c w.2 in
      let first = path_read 12 1 w.0 p.0 p.1 in
      cond_both h.0.infeasible (read_infeasible inputs symbols ws h.0 p.0) (read_live inputs symbols ws h.0 p.0) (λ z. z ≡ good c → SoundClaim (length symbols) c.claim) (λ k. infeasible_read ws h.0 p.0 c first) (λ k. live_read ws h.0 p.0 c first) p.2

pub symbols_count : (pairs : List Pair) → length (symbols_of pairs) ≡ length pairs
symbols_count [] = refl
symbols_count (q ∷ pairs) = ap suc (symbols_count pairs)

-- A pair as read is in states that exist and are not 0.
abbrev AtStates : (one two : Head) (state₁ state₂ : ℕ) → Type 0
AtStates one two s t = (is_state one.states s && is_state two.states t) ≡ true

head_read : (one two : Head) (w : ℕ) (h : HeadOfPair) → read_pair_head one.states two.states w ≡ good h → AtStates one two h.state₁ h.state₂
unfolding read_pair_head
head_read one two w h e =
    let g = pair_head (number w) in
    let a = split_check (eqb (kind w) 10 && (leb g.symbols 32 && leb g.facts 8)) 6 0 0 _ h e in
    let c = split_check (is_state one.states g.state₁ && is_state two.states g.state₂) 8 0 0 _ h a.1 in
    let is = good_same _ h c.1 in
    subst₂ (AtStates one two) (ap (λ (z : HeadOfPair). z.state₁) is) (ap (λ (z : HeadOfPair). z.state₂) is) c.0

body_read : (one two : Head) (ws : List ℕ) (h : HeadOfPair) (q : Pair) → read_body one two ws h ≡ good q → (h.state₁ ≡ q.state₁) × (h.state₂ ≡ q.state₂)
unfolding read_body
body_read one two ws h q e =
    let a = split (word_at 6 ws 1) _ q e in
    let m = split (read_mask one.registers h.symbols 1 a.0) _ q a.2 in
    let c = split (word_at 6 ws 2) _ q m.2 in
    let n = split (read_mask two.registers h.symbols 2 c.0) _ q c.2 in
    let l = proposal_limits one.inputs h.symbols 4 16 in
    let x = split (all_stored 6 l (due m.0 0) ws 3) _ q n.2 in
    let y = split (all_stored 6 l (due n.0 0) ws x.0.place) _ q x.2 in
    let z = split (read_facts l h.facts ws y.0.place) _ q y.2 in
    let r = split (no_more 6 ws z.0.place) _ q z.2 in
    let is = good_same _ q r.2 in
    (ap (λ (v : Pair). v.state₁) is, ap (λ (v : Pair). v.state₂) is)

state_not_zero : (states s : ℕ) → is_state states s ≡ true → s ≢ 0
state_not_zero states s e = eqb-false s 0 (not-true (eqb s 0) (and_parts (not (eqb s 0)) (ltb s states) e).0)

pub pair_read : (one two : Head) (ws : List ℕ) (q : Pair) → read_pair one two ws ≡ good q → (q.state₁ ≢ 0) × (q.state₂ ≢ 0)
unfolding read_pair
pair_read one two ws q e =
    let a = split (word_at 6 ws 0) _ q e in
    let h = split (read_pair_head one.states two.states a.0) _ q a.2 in
    let same = body_read one two ws h.0 q h.2 in
    let there = and_parts (is_state one.states h.0.state₁) _ (head_read one two a.0 h.0 h.1) in
    (subst (λ s. s ≢ 0) same.0 (state_not_zero _ h.0.state₁ there.0), subst (λ s. s ≢ 0) same.1 (state_not_zero _ h.0.state₂ there.1))

-- Pairs filed later leave what was filed before.
module _ (b : Open) (q : Pair) (words : ℕ) where
  longer : length (with_pair b q words).pairs ≡ suc (length b.pairs)
  longer = length-append b.pairs (q ∷ []) ∙ omega arith

  old_pair : (p : ℕ) → p < length b.pairs → pair_at (with_pair b q words) p ≡ pair_at b p
  old_pair p h = get_or_append_left b.pairs (q ∷ []) (first_pair b) p h

  new_pair : (p : ℕ) → length b.pairs ≡ p → pair_at (with_pair b q words) p ≡ q
  new_pair p h = get_or_push b.pairs q (first_pair b) p h

  still_valid : {V : Type 0} (o : Ops V) (c : Claim) → Valid o b c → Valid o (with_pair b q words) c
  still_valid o (live start end path₁ path₂) v = record {
    start_filed = omega (arith, longer, v.start_filed);
    end_filed = omega (arith, longer, v.end_filed);
    steps₁ = v.steps₁;
    steps₂ = v.steps₂;
    leads = subst₂ (λ p r. Wherever o b.machine₁ b.machine₂ p path₁ (Leads o b.machine₁ b.machine₂ r path₁ path₂)) (sym (old_pair start v.start_filed)) (sym (old_pair end v.end_filed)) v.leads;
  }
  still_valid o (infeasible start path₁) v = record {
    start_filed = omega (arith, longer, v.start_filed);
    never = subst (λ p. Wherever o b.machine₁ b.machine₂ p path₁ (λ x c₁ c₂. ⊥)) (sym (old_pair start v.start_filed)) v.never;
  }

  apart : (state : Pair → ℕ) → state q ≢ 0 → ((p : ℕ) → 0 < p → p < length b.pairs → state (pair_at b p) ≢ 0) → (p : ℕ) → 0 < p → p < length (with_pair b q words).pairs → state (pair_at (with_pair b q words) p) ≢ 0
  apart state new old p positive within z = go (dec_lt p (length b.pairs))
    where
      go : Dec (p < length b.pairs) → ⊥
      go (yes h) = old p positive h (sym (ap state (old_pair p h)) ∙ z)
      go (no h) =
          let e : length b.pairs ≡ p = omega (arith, longer) in
          new (sym (ap state (new_pair p e)) ∙ z)

  keeps_pair : {V : Type 0} (o : Ops V) → Kept o b → q.state₁ ≢ 0 → q.state₂ ≢ 0 → Kept o (with_pair b q words)
  keeps_pair o k h₁ h₂ = record {
    fits₁ = k.fits₁;
    fits₂ = k.fits₂;
    some = omega (arith, longer);
    opened = old_pair 0 k.some ∙ k.opened;
    others₁ = apart (λ r. r.state₁) h₁ k.others₁;
    others₂ = apart (λ r. r.state₂) h₂ k.others₂;
    valid = λ c filed. still_valid o c (k.valid c filed);
  }

same_valid : {V : Type 0} (o : Ops V) (b : Open) (new c : Claim) → Valid o b c → Valid o (with_claim b new) c
same_valid o b new (live start end path₁ path₂) v = record { start_filed = v.start_filed; end_filed = v.end_filed; steps₁ = v.steps₁; steps₂ = v.steps₂; leads = v.leads }
same_valid o b new (infeasible start path₁) v = record { start_filed = v.start_filed; never = v.never }

keeps_claim : {V : Type 0} (o : Ops V) (b : Open) (new : Claim) → Kept o b → Valid o b new → Kept o (with_claim b new)
keeps_claim o b new k v = record {
  fits₁ = k.fits₁;
  fits₂ = k.fits₂;
  some = k.some;
  opened = k.opened;
  others₁ = k.others₁;
  others₂ = k.others₂;
  valid = λ c filed. go c (Memᴰ.append_cases b.claims filed);
}
  where
    go : (c : Claim) → Memᴰ c b.claims ⊎ Memᴰ c (new ∷ []) → Valid o (with_claim b new) c
    go c (inl filed) = same_valid o b new c (k.valid c filed)
    go c (inr here) = same_valid o b new c (subst (Valid o b) (sym (Memᴰ.eq_of_singleton here)) v)

-- No filed path is longer than 16.
abbrev pub Short : Open → Type 0
Short b = (c : Claim) → Memᴰ c b.claims → length (claim_path c) ≤ 16

short_claim : (n : ℕ) (c : Claim) → SoundClaim n c → length (claim_path c) ≤ 16
short_claim n (live start end path₁ path₂) h = h.2.1
short_claim n (infeasible start path₁) h = h.1.1

stays_short : (b : Open) (n : ℕ) (new : Claim) → SoundClaim n new → Short b → Short (with_claim b new)
stays_short b n new h short c filed = go (Memᴰ.append_cases b.claims filed)
  where
    go : Memᴰ c b.claims ⊎ Memᴰ c (new ∷ []) → length (claim_path c) ≤ 16
    go (inl old) = short c old
    go (inr here) = subst (λ z. length (claim_path z) ≤ 16) (sym (Memᴰ.eq_of_singleton here)) (short_claim n new h)

module _ {D : Type 0} (o : Ops D) (laws : Laws o) (theory : Theory o) where
  -- An accepted claim is valid.
  judged_valid : (b : Open) (c : Claim) (substitution : List (List Item)) → SoundClaim (length b.pairs) c → judge o b c substitution ≡ good tt → Valid o b c
  unfolding judge
  judged_valid b (live start end path₁ path₂) substitution sound e =
      let a = split_check (not (is_filed b start path₁)) 10 0 0 _ tt e in
      let p = split (in_order 1 b.machine₁ 0 (pair_at b start).state₁ path₁) _ tt a.1 in
      let q = split (in_order 2 b.machine₂ 0 (pair_at b start).state₂ path₂) _ tt p.2 in
      record {
        start_filed = sound.0;
        end_filed = sound.1;
        steps₁ = sound.2.0;
        steps₂ = sound.3.0;
        leads = live_valid o laws theory b.machine₁ b.machine₂ (pair_at b start) (pair_at b end) path₁ path₂ substitution p.1 q.1 q.2;
      }
  judged_valid b (infeasible start path₁) substitution sound e =
      let a = split_check (not (is_filed b start path₁)) 10 0 0 _ tt e in
      let p = split (in_order 1 b.machine₁ 0 (pair_at b start).state₁ path₁) _ tt a.1 in
      record {
        start_filed = sound.0;
        never = infeasible_valid o laws theory b.machine₁ b.machine₂ (pair_at b start) path₁ p.1 p.2;
      }

  -- What filing a part keeps.
  pub record Keeps (one two : Machine) (shared : ℕ) (b : Open) : Type 0 where
    pub kept : Kept o b
    pub short : Short b
    pub is₁ : b.machine₁ ≡ one
    pub is₂ : b.machine₂ ≡ two
    pub is_shared : b.shared ≡ shared

  pub filing_keeps : (one two : Machine) (shared : ℕ) (b : Open) (i : Part) (t : Open) → filing o b i ≡ good t → Keeps one two shared b → Keeps one two shared t
  unfolding filing
  filing_keeps one two shared b (pair_words ws) t e k =
      let a = split_check (ltb (length b.pairs) 64) 21 0 0 _ t e in
      let q = split (read_pair (counts_of b.machine₁) (counts_of b.machine₂) ws) _ t a.1 in
      let r = split_check (leb (b.words + length ws) 6144) 21 0 0 _ t q.2 in
      let states = pair_read (counts_of b.machine₁) (counts_of b.machine₂) ws q.0 q.1 in
      subst (Keeps one two shared) (good_same _ t r.1) (record {
        kept = keeps_pair b q.0 (length ws) o k.kept states.0 states.1;
        short = k.short;
        is₁ = k.is₁;
        is₂ = k.is₂;
        is_shared = k.is_shared;
      })
  filing_keeps one two shared b (claim_words ws) t e k =
      let a = split_check (ltb (length b.claims) 512) 21 0 0 _ t e in
      let c = split (read_claim b.machine₁.inputs (symbols_of b.pairs) ws) _ t a.1 in
      let j = split (judge o b c.0.claim c.0.substitution) _ t c.2 in
      let sound = subst (λ n. SoundClaim n c.0.claim) (symbols_count b.pairs) (claim_read b.machine₁.inputs (symbols_of b.pairs) ws c.0 c.1) in
      subst (Keeps one two shared) (good_same _ t j.2) (record {
        kept = keeps_claim o b c.0.claim k.kept (judged_valid b c.0.claim c.0.substitution sound j.1);
        short = stays_short b (length b.pairs) c.0.claim sound k.short;
        is₁ = k.is₁;
        is₂ = k.is₂;
        is_shared = k.is_shared;
      })

  pub opened_keeps : (one two : Machine) (shared : ℕ) → shared ≤ one.registers → shared ≤ two.registers → Keeps one two shared (opened one two shared)
  opened_keeps one two shared h₁ h₂ = record {
    kept = record {
      fits₁ = h₁;
      fits₂ = h₂;
      some = omega arith;
      opened = refl;
      others₁ = λ p positive within. absurd (omega arith);
      others₂ = λ p positive within. absurd (omega arith);
      valid = λ c filed. absurd (Memᴰ.not-nil filed);
    };
    short = λ c filed. absurd (Memᴰ.not-nil filed);
    is₁ = refl;
    is₂ = refl;
    is_shared = refl;
  }

-- The verdict

all_there : (b : Open) → Short b → (p n : ℕ) → ((q : ℕ) → p ≤ q → q < p + n → Covered b q []) → verdict_from b p n ≡ equivalent
all_there b short p zero covered = refl
all_there b short p (suc n) covered =
    let here : unmatched b p 17 [] ≡ None = (judges b 16 short p).1 (covered p (omega arith) (omega arith)) in
    ap (λ v. unless_lacking p v (verdict_from b (suc p) n)) here ∙ all_there b short (suc p) n (λ q h k. covered q (omega arith) (omega arith))

pub earned : (b : Open) → Short b → AllCovered b → verdict b ≡ equivalent
unfolding verdict
earned b short covered = all_there b short 0 (length b.pairs) (λ q h k. covered q (omega arith))

lacks_not : (p : ℕ) (path : List Bool) → lacks p path ≡ equivalent → ⊥
lacks_not p path e = let z : ◌≡◌ {A = ℕ} 0 1 = cc in omega arith

none_lacking : (p : ℕ) (v : Option (List Bool)) (later : Verdict) → unless_lacking p v later ≡ equivalent → (v ≡ None) × (later ≡ equivalent)
none_lacking p None later e = (refl, e)
none_lacking p (Some path) later e = absurd (lacks_not p path e)

here_or_later : (b : Open) (p q : ℕ) → p ≤ q → Covered b p [] → (p < q → Covered b q []) → Dec (p < q) → Covered b q []
here_or_later b p q h here later (yes l) = later l
here_or_later b p q h here later (no l) = let same : p ≡ q = omega arith in subst (λ r. Covered b r []) same here

covered_from : (b : Open) → Short b → (p n : ℕ) → verdict_from b p n ≡ equivalent → (q : ℕ) → p ≤ q → q < p + n → Covered b q []
covered_from b short p zero e q h k = absurd (omega arith)
covered_from b short p (suc n) e q h k =
    let both = none_lacking p (unmatched b p 17 []) (verdict_from b (suc p) n) e in
    here_or_later b p q h ((judges b 16 short p).0 both.0) (λ l. covered_from b short (suc p) n both.1 q l (omega arith)) (dec_lt p q)

pub equivalent_covers : (b : Open) → Short b → verdict b ≡ equivalent → AllCovered b
unfolding verdict
equivalent_covers b short e p h = covered_from b short 0 (length b.pairs) e p (omega arith) (omega arith)
