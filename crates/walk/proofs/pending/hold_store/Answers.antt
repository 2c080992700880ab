use Rattle.workspace.specs.Views.{forms}
use Rattle.walk.proofs.Waiting.{waits_more}
use Rattle.walk.proofs.pending.hold_store.Goals as goal

pub returns-clause-held : goal.returns-clause-held
returns-clause-held g c =
    let w = c.in_ok-work_out.ensures in
    let p = c.args.pending.now in
    let fs = forms c.args.slots.now in
    let fs' = forms c.work_out.new.slots in
    λ registers. rw (c.push.ensures.items, c.push.ensures.count) (waits_more p.items fs fs' p.count c.args.register _ p.size c.requires.room w.value w.kept registers)
