use Rattle.machine.proofs.Runs.{deterministic}
use Rattle.machine.proofs.laws.runs_deterministic.Goals as goal

pub returns : goal.returns
returns g c = deterministic g.D.Domain.ops
