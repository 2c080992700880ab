use Rattle.std.proofs.Common.{length}
use Rattle.machine.specs.Reading.{transition_of}
use Rattle.machine.specs.Views.{ahead}
use Rattle.workspace.specs.Views.{forms}
use Rattle.walk.proofs.Held.{Holding}
use Rattle.walk.proofs.taking.hold_actions.Given as goal

abbrev pub invariant-loop-part : goal.invariant-loop-part
invariant-loop-part g l =
    Holding g.D.Domain.ops l.side (forms l.initial.slots) (transition_of (ahead l.initial.row)) l.initial.pending l.initial.outputs
    (forms l.slots) (transition_of (ahead l.row)) l.pending l.outputs

abbrev pub decreases-loop-part : goal.decreases-loop-part
decreases-loop-part g l = length (ahead l.row)
