-- Both paths of a claim, walked from its start pair.
use Rattle.std.proofs.Common.{arith}
use Rattle.std.specs.Prelude.{◌≡◌, ℕ, Bool, List, [], Result}
use Rattle.domain.specs.Ring.{Ops}
use Rattle.forms.specs.Forms.{Form}
use Rattle.machine.specs.Answer.{Answer, good, ◌then◌, told_by}
use Rattle.machine.specs.Machine.{Machine}
use Rattle.machine.specs.declared.which.Which.{Which}
use Rattle.machine.specs.declared.which.Which.TheVariants.{First, Second}
use Rattle.machine.specs.Reading.{table}
use Rattle.walk.specs.declared.side.Side.{Side}
use Rattle.walk.specs.Settled.{Known}
use Rattle.walk.specs.Walk.{Track, walk, learn, must}
use Rattle.walk.specs.Seen.{kept_seen, known_seen}
use Rattle.proposal.specs.declared.pair.PairHead.{PairHead}
use Rattle.proposal.specs.Proposal.{Pair}
use Rattle.proposal.specs.Reading.{pair_head}
use Rattle.proposal.specs.Places.{head_of}
use Rattle.rules.specs.declared.counts.Counts.{Counts}
use Rattle.correspondence.specs.Judgement.{started, at_start, same_outputs}
use Rattle.rules.specs.Kept.{Fit, number_at}
use Rattle.judgement.specs.declared.fault.RuleFault.{RuleFault}
use Rattle.judgement.specs.declared.walks.Walked.{Walked}
use Rattle.judgement.specs.Faults.{rule_figures}

-- Two accepted tables with their counts.
pub record Opened (first second : List ℕ) (c : Counts) : Type 0 where
  pub first_is : table first ≡ good c.one
  pub second_is : table second ≡ good c.two
  pub fit : Fit c

-- The counts in the first word of a pair.
abbrev pub head_at : List ℕ → PairHead
head_at ws = head_of (pair_head (number_at ws 0))

-- The states of a pair.
pub record StandsAt (h : PairHead) (p : Pair) : Type 0 where
  pub first : h.first ≡ p.state₁
  pub second : h.second ≡ p.state₂

-- Where the forms of either machine are kept.
abbrev pub first_side : (c : Counts) → Fit c → Side
first_side c fit = record {
  registers = record { first = 0; count = c.one.registers; below = omega (arith, fit.registers₁) };
  outputs = 64;
  low = omega (arith, fit.registers₁);
  behind = omega arith;
  before = omega arith;
}

abbrev pub second_side : (c : Counts) → Fit c → Side
second_side c fit = record {
  registers = record { first = 16; count = c.two.registers; below = omega (arith, fit.registers₂) };
  outputs = 80;
  low = omega (arith, fit.registers₂);
  behind = omega arith;
  before = omega arith;
}

abbrev pub side_of : (c : Counts) → Fit c → Which → Side
side_of c fit First = first_side c fit
side_of c fit Second = second_side c fit

-- Where both paths end: the states, the registers, and what is known.
pub record Ends (D : Type 0) : Type 0 where
  pub state₁ : ℕ
  pub state₂ : ℕ
  pub registers₁ : List (Form D)
  pub registers₂ : List (Form D)
  pub known : List (Known D)

abbrev pub ends_of : {D : Type 0} → (t u : Track D) → Ends D
ends_of t u = record { state₁ = t.state; state₂ = u.state; registers₁ = t.registers; registers₂ = u.registers; known = t.known }

-- The end of either path, as a track without outputs.
abbrev pub first_end : {D : Type 0} → Ends D → Track D
first_end e = record { state = e.state₁; registers = e.registers₁; known = e.known; outputs = [] }

abbrev pub second_end : {D : Type 0} → Ends D → Track D
second_end e = record { state = e.state₂; registers = e.registers₂; known = []; outputs = [] }

module _ {D : Type 0} (o : Ops D) where
  -- The first five rules of a live claim.
  unfoldable pub walked : (one two : Machine) (p : Pair) (path₁ path₂ : List Bool) → Answer (Ends D)
  walked one two p path₁ path₂ =
      started o p then λ s.
      walk o (learn o) one 0 path₁ (at_start o p.state₁ s.registers₁ s.known) then λ t.
      walk o (must o t.known) two 0 path₂ (at_start o p.state₂ s.registers₂ []) then λ u.
      same_outputs o 0 t.outputs u.outputs then λ _.
      good (ends_of t u)

  abbrev pub walked_seen : Walked → List (Form D) → Counts → Ends D
  walked_seen w fs c = record { state₁ = w.first; state₂ = w.second; registers₁ = kept_seen fs 0 c.one.registers; registers₂ = kept_seen fs 16 c.two.registers; known = known_seen w.known.items fs 0 w.known.count }

  abbrev pub told_walked : Result Walked RuleFault → List (Form D) → Counts → Answer (Ends D)
  told_walked r fs c = told_by rule_figures r then λ w. good (walked_seen w fs c)
