-- An accepted table: its machine, and the states below its count.
use Rattle.std.proofs.Common.{◌≡◌, ℕ, ◌<◌, ◌≤◌, List, length, sym, ap, ◌∙◌, arith}
use Rattle.machine.specs.declared.accepted.Table.{Table}
use Rattle.machine.specs.declared.head.Head.{Head}
use Rattle.machine.specs.Answer.{good, ◌then◌}
use Rattle.machine.specs.Reading.{table, machine, machine_of}
use Rattle.machine.specs.Tables.{IsTable, There, machine_or, table_machine}
use Rattle.machine.proofs.Encodes.{sound_tables}

module _ (words : List ℕ) (h : Head) (accepted : table words ≡ good h) where
  its_machine : machine words ≡ good (machine_of words h)
  its_machine = ap (λ a. a then λ g. good (machine_of words g)) accepted

  pub machine_is : IsTable words
  machine_is = its_machine ∙ ap (λ a. good (machine_or a)) (sym its_machine)

  pub has_state : (s : ℕ) → s < h.states → There words s
  has_state s lt =
      let counted = sound_tables.heads words h (table_machine words) accepted machine_is in
      let c = counted.states in omega arith

  pub lacks_state : (s : ℕ) → h.states ≤ s → length (table_machine words).rows ≤ s
  lacks_state s le =
      let counted = sound_tables.heads words h (table_machine words) accepted machine_is in
      let c = counted.states in omega arith

pub is_table : (t : Table) → IsTable t.words.now
is_table t = machine_is t.words.now t.head t.accepted

pub state_there : (t : Table) (s : ℕ) → s < t.head.states → There t.words.now s
state_there t s lt = has_state t.words.now t.head t.accepted s lt

pub state_beyond : (t : Table) (s : ℕ) → t.head.states ≤ s → length (table_machine t.words.now).rows ≤ s
state_beyond t s le = lacks_state t.words.now t.head t.accepted s le
