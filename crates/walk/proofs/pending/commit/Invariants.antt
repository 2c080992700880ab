use Rattle.workspace.specs.Views.{forms}
use Rattle.walk.proofs.Waiting.{Committing}
use Rattle.walk.proofs.pending.commit.Given as goal

abbrev pub invariant-loop-j : goal.invariant-loop-j
invariant-loop-j g l = Committing l.pending.items l.registers (forms l.initial.slots) (forms l.slots) l.j
