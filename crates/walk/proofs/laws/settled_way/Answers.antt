use Rattle.walk.proofs.Following.{second_walk}
use Rattle.walk.proofs.Theories.{theory_of}
use Rattle.walk.proofs.laws.settled_way.Goals as goal

pub returns : goal.returns
returns g c = second_walk g.D.Domain.ops g.met.D.Domain.ring (theory_of g.D.Domain.ops g.met.D.Domain.ring)
