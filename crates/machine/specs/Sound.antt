-- What holds of the machine of every accepted table.
use Rattle.std.specs.Prelude.{◌≡◌, ℕ, ◌<◌, ◌≤◌, true, ◌≢◌, List, [], ◌∷◌, length}
use Rattle.expression.specs.declared.item.Item.{Item}
use Rattle.expression.specs.declared.item.Item.TheVariants.{Constant, Register, Input, Symbol, Sum, Difference, Product, Negation}
use Rattle.expression.specs.Shape.{is_expression}
use Rattle.machine.specs.declared.head.Head.{Head}
use Rattle.machine.specs.Machine.{Machine, Action, store, emit, Transition, Row, straight, branch, Each}

-- No action stores this register.
abbrev pub Unstored : ℕ → List Action → Type 0
Unstored r [] = Unit {0}
Unstored r (store s e ∷ rest) = (r ≢ s) × Unstored r rest
Unstored r (emit port e ∷ rest) = Unstored r rest

-- No register is stored twice.
abbrev pub StoresOnce : List Action → Type 0
StoresOnce [] = Unit {0}
StoresOnce (store r e ∷ rest) = Unstored r rest × StoresOnce rest
StoresOnce (emit port e ∷ rest) = StoresOnce rest

module _ (registers inputs : ℕ) where
  -- A constant of 28 bits, a register or an input that is there, or an operation; no symbol.
  abbrev pub ItemStands : Item → Type 0
  ItemStands (Constant n) = n < 0x10000000
  ItemStands (Register n) = n < registers
  ItemStands (Input n) = n < inputs
  ItemStands (Symbol n) = ⊥
  ItemStands Sum = Unit {0}
  ItemStands Difference = Unit {0}
  ItemStands Product = Unit {0}
  ItemStands Negation = Unit {0}

  abbrev pub ExpressionStands : List Item → Type 0
  ExpressionStands e = (is_expression e ≡ true) × Each ItemStands e

  abbrev pub ActionStands : Action → Type 0
  ActionStands (store r e) = (r < registers) × ExpressionStands e
  ActionStands (emit port e) = (port < 16) × ExpressionStands e

  module _ (states : ℕ) where
    pub record TransitionStands (t : Transition) : Type 0 where
      pub target_there : t.target < states
      pub few : length t.actions ≤ 8
      pub each : Each ActionStands t.actions
      pub once : StoresOnce t.actions

    abbrev pub RowStands : Row → Type 0
    RowStands (straight t) = TransitionStands t
    RowStands (branch test left right on_yes on_no) = ExpressionStands left × ExpressionStands right × TransitionStands on_yes × TransitionStands on_no

pub record SoundMachine (m : Machine) : Type 0 where
  pub some : 0 < length m.rows
  pub most : length m.rows ≤ 64
  pub few_registers : m.registers ≤ 16
  pub few_inputs : m.inputs ≤ 8
  pub rows_stand : Each (RowStands m.registers m.inputs (length m.rows)) m.rows

-- The counts of the head are those of the machine.
pub record Counted (h : Head) (m : Machine) : Type 0 where
  pub states : h.states ≡ length m.rows
  pub registers : h.registers ≡ m.registers
  pub inputs : h.inputs ≡ m.inputs
