use Rattle.workspace.specs.Views.{forms}
use Rattle.rules.proofs.Filling.{Filling}
use Rattle.rules.proofs.registers.work_out_registers.Given as goal

abbrev pub invariant-loop-i : goal.invariant-loop-i
invariant-loop-i g l = Filling g.D.Domain.ops l.words l.initial.registers l.group (forms l.initial.slots) l.i l.registers (forms l.slots)
