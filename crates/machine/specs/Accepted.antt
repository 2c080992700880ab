-- What is told of words that are taken as a table.
use Rattle.std.specs.Prelude.{Result}
use Rattle.machine.specs.declared.accepted.Table.{Table}
use Rattle.machine.specs.declared.head.Head.{Head}
use Rattle.machine.specs.declared.table.TableFault.{TableFault}
use Rattle.machine.specs.Answer.{Answer, good, ◌then◌}
use Rattle.machine.specs.Reading.{told}

-- The counts, or the first fault.
abbrev pub told_counts : Result Table TableFault → Answer Head
told_counts r = told r then λ t. good t.head
