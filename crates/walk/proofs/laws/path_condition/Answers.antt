use Rattle.walk.proofs.Following.{first_walk}
use Rattle.walk.proofs.Theories.{theory_of}
use Rattle.walk.proofs.laws.path_condition.Goals as goal

pub returns : goal.returns
returns g c = first_walk g.D.Domain.ops (theory_of g.D.Domain.ops g.met.D.Domain.ring)
