use Rattle.machine.proofs.Storing.{together}
use Rattle.machine.proofs.laws.stores_together.Goals as goal

pub returns : goal.returns
returns g c = together g.D.Domain.ops
