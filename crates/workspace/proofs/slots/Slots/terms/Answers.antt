use Rattle.workspace.proofs.Laws.{ready}
use Rattle.workspace.proofs.Steps.{form_at}
use Rattle.workspace.proofs.slots.Slots.terms.Goals as goal

pub returns : goal.returns
returns g c = form_at c.args.self.now.lens.of c.args.self.now.row.now c.args.k c.span-s.result (ready c.args.self.now) c.requires c.span-s.ensures
