-- What a row view and its cursor stand for.
use Rattle.std.specs.Prelude.{◌≡◌, ℕ, ◌+◌, ◌<◌, ◌≤◌, List, [], ◌∷◌, length, drop, Some, None, Option}
use Rattle.machine.specs.declared.row.Row.{Row}
use Rattle.machine.specs.declared.view.Part as declared
use Rattle.machine.specs.declared.view.Part.TheVariants as variants
use Rattle.machine.specs.Answer.{good}
use Rattle.machine.specs.Words.{word, part}
use Rattle.machine.specs.Machine.{Machine, row_at}
use Rattle.machine.specs.Reading.{Part, stores, emits, tests, goes, part_of, parts, machine, row_of}

-- A part as it was read.
abbrev pub seen : declared.Part → Part
seen (variants.Store n e) = stores n e.now
seen (variants.Emit n e) = emits n e.now
seen (variants.Test t l r) = tests t l.now r.now
seen (variants.Goto n) = goes n

-- The parts that the cursor has yet to read.
abbrev pub ahead : Row → List Part
ahead r = parts [] (drop r.cursor r.words.now)

abbrev pub read : Option declared.Part → List Part → List Part
read None ps = []
read (Some p) ps = seen p ∷ ps

-- The parts from p on, where the first ends at q.
abbrev pub parts_cut : List ℕ → ℕ → Option ℕ → List Part
parts_cut ws p None = []
parts_cut ws p (Some q) = part_of (part ws p q) (word ws q) ∷ parts [] (drop (q + 1) ws)

-- A fresh view, as the place of the row and its words.
abbrev pub viewed : Option Row → Option (ℕ × List ℕ)
viewed None = None
viewed (Some r) = Some (r.start, drop r.cursor r.words.now)

-- The view of state s of an accepted table is there exactly where the machine has that row, and its parts are that row.
abbrev pub IsRow : Machine → ℕ → Option Row → Type 0
IsRow m s None = length m.rows ≤ s
IsRow m s (Some r) = (s < length m.rows) × (row_of (ahead r) ≡ row_at m s)

abbrev pub Encodes : List ℕ → ℕ → Option Row → Type 0
Encodes ws s r = (m : Machine) → machine ws ≡ good m → IsRow m s r
