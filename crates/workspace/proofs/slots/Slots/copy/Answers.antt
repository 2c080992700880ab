use Rattle.std.proofs.Common.{set, ap, ◌∙◌, arith}
use Rattle.workspace.specs.Slots.{slots}
use Rattle.workspace.proofs.Steps.{form_at}
use Rattle.workspace.proofs.Laws.{ready}
use Rattle.workspace.proofs.slots.Slots.copy.Goals as goal

pub returns : goal.returns
returns g c =
    let e = form_at c.args.self.now.lens.of c.args.self.now.row.now c.args.«from» c.span-s.result (ready c.args.self.now) (omega arith) c.span-s.ensures in
    record { forms = c.place.ensures.forms ∙ ap (set (slots c.args.self.now.lens.of c.args.self.now.row.now) c.args.to) e }
