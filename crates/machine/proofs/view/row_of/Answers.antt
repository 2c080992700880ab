use Rattle.machine.proofs.Machines.{encodes}
use Rattle.machine.proofs.view.row_of.Goals as goal

pub returns-clause-encodes : goal.returns-clause-encodes
returns-clause-encodes c = encodes c.args.words.now c.args.state _ c.find_row.ensures
