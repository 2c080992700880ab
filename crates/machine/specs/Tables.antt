-- The machine of an accepted table, and its states.
use Rattle.std.specs.Prelude.{◌≡◌, ℕ, ◌<◌, Bool, [], List, length}
use Rattle.machine.specs.Answer.{Answer, good, refused}
use Rattle.machine.specs.Machine.{Machine, Row, chosen}
use Rattle.machine.specs.Reading.{machine}

-- The machine of a table; refused words have one without rows.
abbrev pub machine_or : Answer Machine → Machine
machine_or (good m) = m
machine_or (refused n m p) = record { registers = 0; inputs = 0; rows = [] }

abbrev pub table_machine : List ℕ → Machine
table_machine words = machine_or (machine words)

abbrev pub IsTable : List ℕ → Type 0
IsTable words = machine words ≡ good (table_machine words)

-- A state of the table's machine, and the states that its row goes to.
abbrev pub There : List ℕ → ℕ → Type 0
There words state = state < length (table_machine words).rows

abbrev pub GoesThere : List ℕ → Row → Type 0
GoesThere words row = (turn : Bool) → There words (chosen row turn).target
