use Rattle.std.proofs.Common.{length}
use Rattle.machine.specs.Views.{ahead}
use Rattle.machine_trials.proofs.rows.show.Given as goal

abbrev pub decreases-loop-part : goal.decreases-loop-part
decreases-loop-part l = length (ahead l.row)
