use Rattle.machine.proofs.Encodes.{reads_back}
use Rattle.machine.proofs.laws.reads_back.Goals as goal

pub returns : goal.returns
returns c = reads_back
