-- What an accepted pair or claim consists of, by the places of its words.
use Rattle.std.specs.Prelude.{◌≡◌, ℕ, ◌^◌, ◌<◌, ◌≤◌, Bool, true, List, length, slice_index}
use Rattle.expression.specs.declared.item.Item.{Item}
use Rattle.expression.specs.Words.{number}
use Rattle.machine.specs.declared.head.Head.{Head}
use Rattle.machine.specs.Answer.{good}
use Rattle.machine.specs.Words.{word}
use Rattle.proposal.specs.Proposal.{Pair, live}
use Rattle.proposal.specs.Reading.{read, all_stored, read_facts, bits, due, count_from, proposal_limits, is_state, registers_of, read_pair, Proposed, read_claim}

-- The mask of a machine, which stands at a place.
abbrev pub mask_of : (registers : ℕ) → List ℕ → (place : ℕ) → List Bool
mask_of n ws p = bits n (number (word ws p))

pub record PairParts (one two : Head) (ws : List ℕ) (pair : Pair) : Type 0 where
  pub long : 3 ≤ length ws
  pub state₁ : is_state one.states pair.state₁ ≡ true
  pub state₂ : is_state two.states pair.state₂ ≡ true
  pub few_symbols : pair.symbols ≤ 32
  pub few_facts : length pair.facts ≤ 8
  pub mask₁ : number (word ws 1) < 2 ^ one.registers
  pub mask₂ : number (word ws 2) < 2 ^ two.registers
  pub expressions₁ : List (List Item)
  pub end₁ : ℕ
  pub read₁ : all_stored 6 (proposal_limits one.inputs pair.symbols 4 16) (due (mask_of one.registers ws 1) 0) ws 3 ≡ good (read expressions₁ end₁)
  pub registers₁ : pair.registers₁ ≡ registers_of (mask_of one.registers ws 1) 0 expressions₁
  pub expressions₂ : List (List Item)
  pub end₂ : ℕ
  pub read₂ : all_stored 6 (proposal_limits one.inputs pair.symbols 4 16) (due (mask_of two.registers ws 2) 0) ws end₁ ≡ good (read expressions₂ end₂)
  pub registers₂ : pair.registers₂ ≡ registers_of (mask_of two.registers ws 2) 0 expressions₂
  pub read_all : read_facts (proposal_limits one.inputs pair.symbols 4 16) (length pair.facts) ws end₂ ≡ good (read pair.facts (length ws))

abbrev pub PairRead : Type 0
PairRead = (one two : Head) (ws : List ℕ) (pair : Pair) → read_pair one two ws ≡ good pair → PairParts one two ws pair

-- A live claim: both pairs are filed, and the substitution stands behind the paths.
pub record LiveParts (inputs : ℕ) (symbols : List ℕ) (ws : List ℕ) (start end : ℕ) (substitution : List (List Item)) : Type 0 where
  pub start_filed : start < length symbols
  pub end_filed : end < length symbols
  pub read_all : all_stored 7 (proposal_limits inputs (slice_index symbols start) 0 (slice_index symbols end)) (count_from 0 (slice_index symbols end)) ws 3 ≡ good (read substitution (length ws))

abbrev pub LiveRead : Type 0
LiveRead = (inputs : ℕ) (symbols ws : List ℕ) (start end : ℕ) (path₁ path₂ : List Bool) (c : Proposed) → read_claim inputs symbols ws ≡ good c → c.claim ≡ live start end path₁ path₂ → LiveParts inputs symbols ws start end c.substitution
