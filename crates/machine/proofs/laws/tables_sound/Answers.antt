use Rattle.machine.proofs.Encodes.{sound_tables}
use Rattle.machine.proofs.laws.tables_sound.Goals as goal

pub returns : goal.returns
returns c = sound_tables
