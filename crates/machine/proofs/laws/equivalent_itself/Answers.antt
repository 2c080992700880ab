use Rattle.machine.proofs.Itself.{reflexive}
use Rattle.machine.proofs.laws.equivalent_itself.Goals as goal

pub returns : goal.returns
returns g c = reflexive g.D.Domain.ops
