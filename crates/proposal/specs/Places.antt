-- What the code tells: the figures of its refusals, and the place behind what was read.
use Rattle.std.specs.Prelude.{ℕ, ◌&&◌, List, length, Result, ◌==◌, nat_le}
use Rattle.machine.specs.declared.words.Limits.{Limits}
use Rattle.machine.specs.declared.words.WordFault.{WordFault}
use Rattle.machine.specs.declared.words.WordFault.TheVariants.{Forbidden, EndsEarly}
use Rattle.expression.specs.Words.{kind, number}
use Rattle.machine.specs.declared.head.Head.{Head}
use Rattle.machine.specs.Answer.{Answer, good, ◌then◌, check, Figures, told_by}
use Rattle.proposal.specs.declared.fault.PairFault.{PairFault}
use Rattle.proposal.specs.declared.fault.PairFault.TheVariants as pairs
use Rattle.proposal.specs.declared.fault.ClaimFault.{ClaimFault}
use Rattle.proposal.specs.declared.fault.ClaimFault.TheVariants as claims
use Rattle.proposal.specs.declared.pair.PairHead.{PairHead}
use Rattle.proposal.specs.Proposal.{Pair}
use Rattle.proposal.specs.Reading.{Read, all_stored, read_facts, word_at, no_more, read_mask, due, bits, proposal_limits, HeadOfPair, pair_head, is_state}

-- A word that may not stand there and words that run out are both malformed, at their place.
abbrev pub place_of : WordFault → ℕ
place_of (Forbidden p) = p
place_of (EndsEarly p) = p

abbrev pub pair_fault : WordFault → PairFault
pair_fault f = pairs.Malformed (place_of f)

abbrev pub claim_fault : WordFault → ClaimFault
claim_fault f = claims.Malformed (place_of f)

abbrev pub pair_figures : PairFault → Figures
pair_figures (pairs.Malformed p) = record { number = 6; machine = 0; place = p }
pair_figures pairs.BadState = record { number = 8; machine = 0; place = 0 }

abbrev pub claim_figures : ClaimFault → Figures
claim_figures (claims.Malformed p) = record { number = 7; machine = 0; place = p }
claim_figures claims.NotFiled = record { number = 9; machine = 0; place = 0 }

abbrev pub pair_told : {X : Type 0} → Result X PairFault → Answer X
pair_told r = told_by pair_figures r

abbrev pub claim_told : {X : Type 0} → Result X ClaimFault → Answer X
claim_told r = told_by claim_figures r

-- A fault of the words where every fault of them has this number.
abbrev pub malformed : (refusal : ℕ) → WordFault → Figures
malformed refusal f = record { number = refusal; machine = 0; place = place_of f }

abbrev pub told_as : {X : Type 0} → (refusal : ℕ) → Result X WordFault → Answer X
told_as refusal r = told_by (malformed refusal) r

-- The place behind what was read.
abbrev pub behind : {X : Type 0} → Answer (Read X) → Answer ℕ
behind a = a then λ x. good x.place

-- Pairs

-- The mask at a place, as a number.
abbrev pub mask_word : List ℕ → (registers symbols place : ℕ) → Answer ℕ
mask_word ws n symbols p = word_at 6 ws p then λ w. read_mask n symbols p w then λ _. good (number w)

-- The place behind the expressions and facts of a pair.
unfoldable pub body_places : Limits → List ℕ → (due₁ due₂ : List ℕ) → (facts : ℕ) → Answer ℕ
body_places l ws due₁ due₂ facts =
    behind (all_stored 6 l due₁ ws 3) then λ p.
    behind (all_stored 6 l due₂ ws p) then λ q.
    behind (read_facts l facts ws q)

-- What the reader tells of a pair: its counts.
abbrev pub head_of : HeadOfPair → PairHead
head_of h = record { first = h.state₁; second = h.state₂; symbols = h.symbols; facts = h.facts }

abbrev pub head_of_pair : Pair → PairHead
head_of_pair q = record { first = q.state₁; second = q.state₂; symbols = q.symbols; facts = length q.facts }

-- The counts alone of what was read.
abbrev pub the_counts : Answer Pair → Answer PairHead
the_counts a = a then λ q. good (head_of_pair q)

-- The first word of a pair, check by check.
abbrev pub head_told : (states₁ states₂ : ℕ) → ℕ → Answer PairHead
head_told states₁ states₂ w =
    check (kind w == 10 && (nat_le (pair_head (number w)).symbols 32 && nat_le (pair_head (number w)).facts 8)) 6 0 0 then λ _.
    check (is_state states₁ (pair_head (number w)).state₁ && is_state states₂ (pair_head (number w)).state₂) 8 0 0 then λ _.
    good (head_of (pair_head (number w)))

abbrev pub pair_limits : Head → PairHead → Limits
pair_limits one h = proposal_limits one.inputs h.symbols 4 16

abbrev pub body_head : (one two : Head) → List ℕ → PairHead → Answer PairHead
body_head one two ws h =
    mask_word ws one.registers h.symbols 1 then λ v.
    mask_word ws two.registers h.symbols 2 then λ w.
    body_places (pair_limits one h) ws (due (bits one.registers v) 0) (due (bits two.registers w) 0) h.facts then λ p.
    no_more 6 ws p then λ _.
    good h
