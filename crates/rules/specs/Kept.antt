-- A pair as it is kept: by the words that were filed, of which pair 0 has none.
use Rattle.std.specs.Prelude.{ℕ, ◌+◌, ◌-◌, ◌≤◌, Bool, true, false, cond, List, [], ◌∷◌, length, ◌==◌}
use Rattle.expression.specs.Words.{number}
use Rattle.machine.specs.Answer.{Answer, good, refused}
use Rattle.proposal.specs.Proposal.{Pair, opening_pair}
use Rattle.machine.specs.Words.{word}
use Rattle.proposal.specs.Reading.{read_pair, pair_head}
use Rattle.rules.specs.declared.counts.Counts.{Counts}
use Rattle.rules.specs.declared.registers.Registers.{Registers}
use Rattle.rules.specs.Expressions.{behind_registers}

abbrev pub is_good : {X : Type 0} → Answer X → Bool
is_good (good x) = true
is_good (refused n m p) = false

abbrev pub good_or : {X : Type 0} → X → Answer X → X
good_or d (good x) = x
good_or d (refused n m p) = d

abbrev pub pair_zero : Counts → Pair
pair_zero c = opening_pair c.shared c.one.registers c.two.registers

-- The pair of these words.
abbrev pub kept_pair : Counts → List ℕ → Pair
kept_pair c [] = pair_zero c
kept_pair c (w ∷ ws) = good_or (pair_zero c) (read_pair c.one c.two (w ∷ ws))

-- Words of a pair: none, or words that were read as one.
abbrev pub is_kept : Counts → List ℕ → Bool
is_kept c [] = true
is_kept c (w ∷ ws) = is_good (read_pair c.one c.two (w ∷ ws))

-- Two machines that were opened together.
pub record Fit (c : Counts) : Type 0 where
  pub registers₁ : c.one.registers ≤ 16
  pub registers₂ : c.two.registers ≤ 16
  pub shared₁ : c.shared ≤ c.one.registers
  pub shared₂ : c.shared ≤ c.two.registers
  pub symbols : c.one.registers + (c.two.registers - c.shared) ≤ 32

-- The number in the word at a place; behind the words it is 0.
abbrev pub number_at : List ℕ → ℕ → ℕ
number_at ws p = number (word ws p)

-- Where the registers of the first machine stand, and from a place on those of the second.
abbrev pub first_registers : List ℕ → Registers
first_registers ws = record { register = 0; mask = number_at ws 1; place = 3; shared = 0; offset = 0 }

abbrev pub second_registers : Counts → List ℕ → ℕ → Registers
second_registers c ws p =
    cond (length ws == 0)
    (record { register = 0; mask = 0; place = p; shared = c.shared; offset = c.one.registers - c.shared })
    (record { register = 0; mask = number_at ws 2; place = p; shared = 0; offset = 0 })

-- The places behind the registers of either machine.
abbrev pub behind_first : Counts → List ℕ → ℕ
behind_first c ws = behind_registers ws c.one.registers (first_registers ws)

abbrev pub behind_second : Counts → List ℕ → ℕ
behind_second c ws = behind_registers ws c.two.registers (second_registers c ws (behind_first c ws))

-- How many facts and symbols the pair has.
abbrev pub fact_count : List ℕ → ℕ
fact_count ws = (pair_head (number_at ws 0)).facts

abbrev pub symbol_count : Counts → List ℕ → ℕ
symbol_count c ws = cond (length ws == 0) (c.one.registers + (c.two.registers - c.shared)) (pair_head (number_at ws 0)).symbols

-- Where the expressions of a substitution stand: each symbol has one.
abbrev pub substitution_registers : Registers
substitution_registers = record { register = 0; mask = 0xffffffff; place = 3; shared = 0; offset = 0 }
