use Rattle.expression.proofs.Running.{has_value}
use Rattle.expression.proofs.shape.has_value.Goals as goal

pub returns : goal.returns
returns g c = has_value g.D.Domain.ops
