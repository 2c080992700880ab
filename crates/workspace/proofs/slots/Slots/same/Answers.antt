use Rattle.std.proofs.Common.{[], get_or, ap, ◌∙◌, arith}
use Rattle.forms.specs.Forms.{same_form}
use Rattle.forms.specs.Rows.{part}
use Rattle.workspace.specs.Slots.{slots}
use Rattle.workspace.proofs.Steps.{form_at}
use Rattle.workspace.proofs.Laws.{ready}
use Rattle.workspace.proofs.slots.Slots.same.Goals as goal

pub returns : goal.returns
returns g c =
    let ns = c.args.self.now.lens.of in
    let xs = c.args.self.now.row.now in
    let p = form_at ns xs c.args.a c.span.result (ready c.args.self.now) (omega arith) c.span.ensures in
    let q = form_at ns xs c.args.b c.span-2.result (ready c.args.self.now) (omega arith) c.span-2.ensures in
    let o = g.D.Domain.ops in
    c.same_parts.ensures ∙ ap (λ x. same_form o x (part c.span-2.result xs)) p ∙ ap (same_form o (get_or (slots ns xs) c.args.a [])) q
