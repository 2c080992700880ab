use Rattle.std.proofs.Common.{Some, ap, ◌∙◌}
use Rattle.workspace.specs.Views.{forms}
use Rattle.machine.specs.Reading.{transition_of}
use Rattle.machine.specs.Views.{ahead}
use Rattle.walk.specs.Walk.{form_in_table}
use Rattle.walk.specs.Seen.{kept_seen, stored_seen, outputs_seen}
use Rattle.walk.specs.Taking.{acted}
use Rattle.walk.proofs.Held.{made}
use Rattle.walk.proofs.taking.take_transition.Goals as goal

pub returns-clause-acted : goal.returns-clause-acted
returns-clause-acted g c =
    let o = g.D.Domain.ops in
    let e = c.in_ok-state.ensures in
    let side = c.args.side in
    let k = c.commit.ensures in
    let base = forms c.args.slots.now in
    let registers = kept_seen base side.registers.first side.registers.count in
    let form = form_in_table o registers in
    let actions = (transition_of (ahead c.args.row.now)).actions in
    let fs = forms c.hold_actions.new.slots in
    let fs' = forms c.commit.new.slots in
    ap Some (made g.D.Domain.ops c.args.side base fs fs' c.hold_actions.new.pending c.hold_actions.new.outputs e.kept k.kept k.stored) ∙ e.held ∙ ap (λ n. acted o form actions (record { registers = stored_seen c.empty-pending.result.items base n registers; outputs = outputs_seen c.args.outputs.now.items base side.outputs c.args.outputs.now.count })) c.empty-pending.ensures
