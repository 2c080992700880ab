use Rattle.std.proofs.Common.{rules}
use Rattle.workspace.specs.Views.{forms}
use Rattle.walk.specs.Seen.{known_seen, at_hand}
use Rattle.walk.proofs.Looking.{settled_parts}
use Rattle.walk.proofs.settling.is_settled.Goals as goal

pub returns-then-by_constants : goal.returns-then-by_constants
returns-then-by_constants g c =
    let fs = forms c.args.slots.now in
    let e = settled_parts g.D.Domain.ops (known_seen c.args.known.now.items fs 0 c.args.known.now.count) (at_hand fs c.args.asked) in search rules

pub returns-then-same : goal.returns-then-same
returns-then-same g c =
    let fs = forms c.args.slots.now in
    let e = settled_parts g.D.Domain.ops (known_seen c.args.known.now.items fs 0 c.args.known.now.count) (at_hand fs c.args.asked) in search rules

pub returns-else-same : goal.returns-else-same
returns-else-same g c =
    let fs = forms c.args.slots.now in
    let e = settled_parts g.D.Domain.ops (known_seen c.args.known.now.items fs 0 c.args.known.now.count) (at_hand fs c.args.asked) in search rules
