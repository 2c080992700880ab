use Rattle.std.proofs.Common.{◌≡◌, ◌≤◌, length}
use Rattle.machine.specs.Reading.{transition, fresh}
use Rattle.machine.proofs.words.Reader.transition_end.Given as goal

abbrev pub invariant-actions : goal.invariant-actions
invariant-actions l = (l.from ≤ l.p) × (l.p ≤ length l.self.words.now) × (transition l.self.limits l.self.words.now l.left l.stored l.p ≡ transition l.self.limits l.self.words.now 8 fresh l.from)

abbrev pub decreases-actions : goal.decreases-actions
decreases-actions l = l.left
