use Rattle.std.proofs.Common.{◌-◌, sym}
use Rattle.forms.specs.Rows.{part}
use Rattle.workspace.proofs.Steps.{length_inside, given}
use Rattle.workspace.proofs.Laws.{ready}
use Rattle.workspace.proofs.slots.Slots.place.Goals as goal

pub returns : goal.returns
returns g c =
    let s = c.args.s in
    let xs = c.args.self.now.row.now in
    let n = sym (length_inside s xs c.requires.s) in
    let p = given c.args.self.now.lens.of xs _ (part s xs) c.args.k (s.to - s.from) (ready c.args.self.now) c.requires.slot n c.requires.few c.copy.ensures.written in
    record { forms = p.1 }
