use Rattle.walk.proofs.SettledLaw.{settles}
use Rattle.walk.proofs.Theories.{theory_of}
use Rattle.walk.proofs.laws.settled_holds.Goals as goal

pub returns : goal.returns
returns g c = settles g.D.Domain.ops g.met.D.Domain.ring (theory_of g.D.Domain.ops g.met.D.Domain.ring)
