use Rattle.workspace.specs.Views.{forms}
use Rattle.rules.proofs.FactsSettled.{Asking}
use Rattle.rules.proofs.ending.check_facts.Given as goal

abbrev pub invariant-loop-i : goal.invariant-loop-i
invariant-loop-i g l = Asking g.D.Domain.ops l.symbols l.words l.i-end l.initial.at l.known (forms l.initial.slots) l.i l.at (forms l.slots)
