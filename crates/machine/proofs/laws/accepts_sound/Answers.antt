use Rattle.machine.proofs.Accepts.{accepts}
use Rattle.machine.proofs.laws.accepts_sound.Goals as goal

pub returns : goal.returns
returns c = accepts
