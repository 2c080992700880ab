use Rattle.workspace.specs.Views.{forms}
use Rattle.machine.specs.Which.{which_number}
use Rattle.rules.proofs.Comparing.{Comparing}
use Rattle.rules.proofs.ending.check_registers.Given as goal

abbrev pub invariant-loop-register : goal.invariant-loop-register
invariant-loop-register g l = Comparing g.D.Domain.ops l.symbols l.words l.initial.registers l.reached (which_number l.machine) (forms l.initial.slots) l.register l.registers (forms l.slots)
