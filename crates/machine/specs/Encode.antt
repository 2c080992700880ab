-- The words of a machine: what a table that stands for it must be.
use Rattle.std.specs.Prelude.{◌≡◌, ℕ, ◌+◌, ◌*◌, ◌≤◌, List, [], ◌∷◌, ◌++◌, map, length}
use Rattle.std.specs.List.{flat_map}
use Rattle.expression.specs.Words.{item_word, test_number}
use Rattle.machine.specs.declared.head.Head.{Head}
use Rattle.machine.specs.Answer.{good}
use Rattle.machine.specs.Machine.{Action, store, emit, Transition, Row, straight, branch, Machine}
use Rattle.machine.specs.Reading.{longest, table, machine}
use Rattle.machine.specs.Sound.{SoundMachine, Counted}

abbrev pub action_words : Action → List ℕ
action_words (store n e) = map item_word e ++ (0x70000000 + n) ∷ []
action_words (emit n e) = map item_word e ++ (0x80000000 + n) ∷ []

abbrev pub transition_words : Transition → List ℕ
transition_words t = flat_map action_words t.actions ++ (0x90000000 + t.target) ∷ []

abbrev pub row_words : Row → List ℕ
row_words (straight t) = transition_words t
row_words (branch test left right on_yes on_no) = (map item_word left ++ map item_word right) ++ (0x60000000 + test_number test) ∷ (transition_words on_yes ++ transition_words on_no)

abbrev pub machine_words : Machine → List ℕ
machine_words m = (length m.rows * 65536 + m.registers * 256 + m.inputs) ∷ flat_map row_words m.rows

-- Accepted words are the words of the machine read from them; so two tables of one machine are one.
abbrev pub ReadsBack : Type 0
ReadsBack = (ws : List ℕ) (m : Machine) → machine ws ≡ good m → machine_words m ≡ ws

-- And the other way: the words of a sound machine, if they are not too many, are accepted and read as that machine.
-- So the accepted tables are exactly the words of sound machines.
abbrev pub Accepts : Type 0
Accepts = (m : Machine) → SoundMachine m → length (machine_words m) ≤ longest → machine (machine_words m) ≡ good m

-- The machine of an accepted table is sound, and the head's counts are its own.
pub record SoundTables : Type 0 where
  pub machines : (ws : List ℕ) (m : Machine) → machine ws ≡ good m → SoundMachine m
  pub heads : (ws : List ℕ) (h : Head) (m : Machine) → table ws ≡ good h → machine ws ≡ good m → Counted h m
