use Rattle.forms.proofs.Laws.{lawful}
use Rattle.forms.proofs.theorems.lawful.Goals as goal

pub returns : goal.returns
returns g c = lawful g.met.D.Domain.ring
