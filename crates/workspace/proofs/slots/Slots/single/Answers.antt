use Rattle.workspace.proofs.Steps.{given_none, given_one}
use Rattle.workspace.proofs.Laws.{ready}
use Rattle.workspace.proofs.slots.Slots.single.Goals as goal

pub returns-then-same : goal.returns-then-same
returns-then-same g c =
    let p = given_none g.D.Domain.ops c.args.self.now.lens.of c.args.self.now.row.now c.args.to c.args.t (ready c.args.self.now) c.requires.slot (cc (c.if-same.ensures, c.zero.ensures)) in
    record { forms = p.1 }

pub returns : goal.returns
returns g c =
    let p = given_one g.D.Domain.ops c.args.self.now.lens.of c.args.self.now.row.now c.args.to c.args.t (ready c.args.self.now) c.requires.slot (cc (c.if-same.ensures, c.zero.ensures)) in
    record { forms = p.1 }
