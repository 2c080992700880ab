use Rattle.workspace.specs.Views.{forms}
use Rattle.rules.proofs.FactsKnown.{Noting}
use Rattle.rules.proofs.facts.learn_facts.Given as goal

abbrev pub invariant-loop-i : goal.invariant-loop-i
invariant-loop-i g l = Noting g.D.Domain.ops l.words l.facts l.initial.at (forms l.initial.slots) l.i l.at l.known (forms l.slots)
