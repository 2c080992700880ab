use Rattle.std.proofs.Common.{map, take, ap, ◌∙◌}
use Rattle.expression.specs.Words.{item_of}
use Rattle.expression.specs.Run.{meaning}
use Rattle.workspace.specs.Slots.{give}
use Rattle.workspace.specs.Views.{forms, named}
use Rattle.workspace.specs.Evaluation.{reading}
use Rattle.workspace.proofs.Laws.{length_slots}
use Rattle.walk.proofs.WorkedOut.{reads, worked}
use Rattle.walk.proofs.working.work_out.Goals as goal

pub returns : goal.returns
returns g c =
    let o = g.D.Domain.ops in
    let fs = forms c.args.slots.now in
    let fs' = forms c.evaluate_into.new.slots in
    let e = map item_of c.args.expression.words.now in
    let long = length_slots c.args.slots.now.lens.of c.args.slots.now.row.now ∙ c.args.slots.now.count in
    let h = c.evaluate_into.ensures.forms
    ∙ ap (λ l. give c.args.to (meaning (reading o l (named fs)) e) (take 154 fs)) c.table_leaves.ensures
    ∙ ap (λ m. give c.args.to m (take 154 fs)) (reads o fs c.args.registers e) in
    let w = worked fs fs' c.args.to c.requires.slot long c.evaluate_into.result _ h in
    record { value = w.0; kept = w.1 }
