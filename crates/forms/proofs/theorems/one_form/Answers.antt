use Rattle.forms.proofs.OneForm.{one_form}
use Rattle.forms.proofs.theorems.one_form.Goals as goal

pub returns : goal.returns
returns g c = one_form g.met.D.Domain.ring
