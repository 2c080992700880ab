-- The expressions in the words of a pair or claim, by the places where they are cut.
use Rattle.std.specs.Prelude.{◌≡◌, ℕ, zero, suc, ◌+◌, ◌/◌, ◌%◌, ◌<◌, ◌≤◌, Bool, true, cond, List, [], ◌∷◌, map, length, drop, ◌==◌, nat_lt}
use Rattle.expression.specs.declared.item.Item.{Item}
use Rattle.expression.specs.declared.item.Item.TheVariants.{Symbol}
use Rattle.expression.specs.Words.{item_of}
use Rattle.expression.specs.Shape.{is_expression}
use Rattle.machine.specs.Words.{part}
use Rattle.proposal.specs.declared.cursor.FactAt.{FactAt}
use Rattle.proposal.specs.Proposal.{Fact}
use Rattle.proposal.specs.Cursors.{next_end, fact_places, fact_of}
use Rattle.rules.specs.declared.registers.Registers.{Registers}

-- The place of the word that ends what begins at p.
abbrev pub end_at : List ℕ → ℕ → ℕ
end_at ws p = next_end p (drop p ws)

abbrev pub expression_at : List ℕ → ℕ → List Item
expression_at ws p = map item_of (part ws p (end_at ws p))

-- An expression stands at p, and a word behind it.
pub record ReadableAt (ws : List ℕ) (p : ℕ) : Type 0 where
  pub from : p ≤ end_at ws p
  pub within : end_at ws p < length ws
  pub expression : is_expression (expression_at ws p) ≡ true

-- Whether the register at hand has an expression in words; else it is a symbol.
abbrev pub in_words : Registers → Bool
in_words rs = rs.mask % 2 == 1

abbrev pub own_symbol : Registers → ℕ
own_symbol rs = cond (nat_lt rs.register rs.shared) rs.register (rs.register + rs.offset)

-- The expression of the register at hand.
abbrev pub register_at : List ℕ → Registers → List Item
register_at ws rs = cond (in_words rs) (expression_at ws rs.place) (Symbol (own_symbol rs) ∷ [])

-- One register on.
abbrev pub next_register : List ℕ → Registers → Registers
next_register ws rs = record { register = rs.register + 1; mask = rs.mask / 2; place = cond (in_words rs) (end_at ws rs.place + 1) rs.place; shared = rs.shared; offset = rs.offset }

-- The expressions of n registers, and the place behind those that stand in words.
abbrev pub registers_at : List ℕ → (n : ℕ) → Registers → List (List Item)
registers_at ws zero rs = []
registers_at ws (suc n) rs = register_at ws rs ∷ registers_at ws n (next_register ws rs)

abbrev pub behind_registers : List ℕ → (n : ℕ) → Registers → ℕ
behind_registers ws zero rs = rs.place
behind_registers ws (suc n) rs = behind_registers ws n (next_register ws rs)

-- The register at hand can be worked out.
pub record ReadableRegister (ws : List ℕ) (rs : Registers) : Type 0 where
  pub small : rs.register + rs.offset < 0x10000000
  pub expression : in_words rs ≡ true → ReadableAt ws rs.place

abbrev pub ReadableRegisters : List ℕ → (n : ℕ) → Registers → Type 0
ReadableRegisters ws zero rs = Unit {0}
ReadableRegisters ws (suc n) rs = ReadableRegister ws rs × ReadableRegisters ws n (next_register ws rs)

-- The fact at p.
abbrev pub fact_cut : List ℕ → ℕ → FactAt
fact_cut ws p = fact_places ws p (end_at ws p)

abbrev pub facts_at : List ℕ → (n : ℕ) → ℕ → List Fact
facts_at ws zero p = []
facts_at ws (suc n) p = fact_of ws p (fact_cut ws p) ∷ facts_at ws n ((fact_cut ws p).end + 1)

-- A fact stands at p, and can be worked out.
pub record ReadableFact (ws : List ℕ) (p : ℕ) : Type 0 where
  pub from : p ≤ (fact_cut ws p).cut
  pub before : (fact_cut ws p).cut ≤ (fact_cut ws p).end
  pub within : (fact_cut ws p).end < length ws
  pub left : is_expression (fact_of ws p (fact_cut ws p)).left ≡ true
  pub right : is_expression (fact_of ws p (fact_cut ws p)).right ≡ true

abbrev pub ReadableFacts : List ℕ → (n : ℕ) → ℕ → Type 0
ReadableFacts ws zero p = Unit {0}
ReadableFacts ws (suc n) p = ReadableFact ws p × ReadableFacts ws n ((fact_cut ws p).end + 1)
