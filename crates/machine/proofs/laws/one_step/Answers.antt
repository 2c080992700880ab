use Rattle.machine.proofs.Runs.{one_step}
use Rattle.machine.proofs.laws.one_step.Goals as goal

pub returns : goal.returns
returns g c = one_step g.D.Domain.ops
