use Rattle.forms.proofs.Valuing.{value_kept}
use Rattle.forms.proofs.theorems.value_kept.Goals as goal

pub returns : goal.returns
returns g c = value_kept g.met.D.Domain.ring
