use Rattle.std.proofs.Common.{◌≡◌, length}
use Rattle.machine.specs.Reading.{transition_of, behind}
use Rattle.machine.specs.Views.{ahead}
use Rattle.machine.proofs.row.Row.skip_transition.Given as goal

abbrev pub invariant-loop-part : goal.invariant-loop-part
invariant-loop-part l = ((transition_of (ahead l.self)).target ≡ (transition_of (ahead l.initial.self)).target) × (behind (ahead l.self) ≡ behind (ahead l.initial.self)) × (l.self.words ≡ l.initial.self.words) × (l.self.start ≡ l.initial.self.start)

abbrev pub decreases-loop-part : goal.decreases-loop-part
decreases-loop-part l = length (ahead l.self)
