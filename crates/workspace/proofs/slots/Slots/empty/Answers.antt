use Rattle.std.proofs.Common.{ap, ◌∙◌}
use Rattle.workspace.specs.Slots.{slots}
use Rattle.workspace.proofs.Laws.{ready_empty, slots_empty}
use Rattle.workspace.proofs.slots.Slots.empty.Goals as goal

pub invariant_of-result : goal.invariant_of-result
invariant_of-result g c =
    let r = ready_empty c.empty.result.of c.args.row.now c.empty.ensures c.requires in
    record { count = r.count; few = r.few; room = r.room }

pub returns : goal.returns
returns g c = ap (λ ns. slots ns c.args.row.now) c.empty.ensures ∙ slots_empty 162 c.args.row.now
