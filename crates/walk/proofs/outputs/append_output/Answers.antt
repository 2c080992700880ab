use Rattle.std.proofs.Common.{◌<◌, arith}
use Rattle.workspace.specs.Views.{forms}
use Rattle.walk.proofs.Waiting.{appends_more}
use Rattle.walk.proofs.outputs.append_output.Goals as goal

pub returns-clause-appended : goal.returns-clause-appended
returns-clause-appended g c =
    let w = c.in_ok-work_out.ensures in
    let p = c.args.outputs.now in
    let room : p.count < 16 = omega arith in
    let before = c.args.side.before in
    rw (c.push.ensures.items, c.push.ensures.count) (appends_more p.items (forms c.args.slots.now) (forms c.work_out.new.slots) c.args.side.outputs p.count c.args.port _ p.size room (omega arith) w.value w.kept)
