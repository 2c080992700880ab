-- A machine as data: its counts, and a row for each state.
use Rattle.std.specs.Prelude.{ℕ, Bool, cond, List, [], ◌∷◌, slice_index_or}
use Rattle.expression.specs.declared.item.Item.{Item}
use Rattle.expression.specs.declared.test.Test.{Test}

pub data Action : Type 0 where
  store : (register : ℕ) → List Item → Action
  emit : (port : ℕ) → List Item → Action

pub record Transition : Type 0 where
  pub actions : List Action
  pub target : ℕ

pub data Row : Type 0 where
  straight : Transition → Row
  branch : Test → (left right : List Item) → (on_yes on_no : Transition) → Row

pub record Machine : Type 0 where
  pub registers : ℕ
  pub inputs : ℕ
  pub rows : List Row

-- The row of a state. (A state with no row stays where it is; in an accepted table no go-to leads to one.)
abbrev pub row_at : Machine → ℕ → Row
row_at m s = slice_index_or m.rows s (straight (record { actions = []; target = s }))

-- The transition that a turn selects; `true` is yes.
abbrev pub chosen : Row → Bool → Transition
chosen (straight t) turn = t
chosen (branch test left right on_yes on_no) turn = cond turn on_yes on_no

-- P of each entry of a list.
abbrev pub Each : {A : Type 0} → (A → Type 0) → List A → Type 0
Each P [] = Unit {0}
Each P (x ∷ xs) = P x × Each P xs
