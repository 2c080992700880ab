use Rattle.std.proofs.Common.{[], get_or, ap, ◌∙◌, arith}
use Rattle.workspace.specs.Views.{forms}
use Rattle.workspace.proofs.Laws.{length_slots}
use Rattle.walk.specs.Seen.{kept_seen}
use Rattle.walk.proofs.Waiting.{store_there, store_nowhere}
use Rattle.walk.proofs.pending.store_form.Goals as goal

pub returns-then-register-registers-clause-stored : goal.returns-then-register-registers-clause-stored
returns-then-register-registers-clause-stored g c =
    let fs = forms c.args.slots.now in
    let long = length_slots c.args.slots.now.lens.of c.args.slots.now.row.now ∙ c.args.slots.now.count in
    let s = store_there c.args.registers fs c.args.register (get_or fs c.args.from []) long (omega arith) in
    let e = c.copy.ensures.forms in
    ap (λ f. kept_seen f c.args.registers.first c.args.registers.count) e ∙ s.0

pub returns-else-register-registers-clause-stored : goal.returns-else-register-registers-clause-stored
returns-else-register-registers-clause-stored g c =
    let fs = forms c.args.slots.now in
    store_nowhere c.args.registers fs c.args.register (get_or fs c.args.from []) (omega arith)
