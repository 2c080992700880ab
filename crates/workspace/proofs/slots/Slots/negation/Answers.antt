use Rattle.std.proofs.Common.{set, ap, ◌∙◌, arith}
use Rattle.forms.specs.Rows.{part}
use Rattle.forms.specs.Forms.{negation}
use Rattle.workspace.specs.Slots.{slots}
use Rattle.workspace.proofs.Steps.{form_at, forms_kept, short, length_negation}
use Rattle.workspace.proofs.Laws.{ready}
use Rattle.workspace.proofs.slots.Slots.negation.Goals as goal

pub place-requires-clause-few : goal.place-requires-clause-few
place-requires-clause-few g c =
    let o = g.D.Domain.ops in
    let ns = c.args.self.now.lens.of in
    let xs = c.args.self.now.row.now in
    let p = c.negate-s.ensures in
    let n = length_negation o (part c.span-p.result xs) in
    let a = short ns xs c.args.a c.span-p.result (ready c.args.self.now) c.span-p.ensures in
    let f = p.from in
    let t = p.to in
    omega arith

pub returns : goal.returns
returns g c =
    let o = g.D.Domain.ops in
    let ns = c.args.self.now.lens.of in
    let xs = c.args.self.now.row.now in
    let p = c.negate-s.ensures in
    let a = form_at ns xs c.args.a c.span-p.result (ready c.args.self.now) (omega arith) c.span-p.ensures in
    let k = forms_kept ns xs c.negate-s.new.row (ready c.args.self.now) p.kept in
    record {
      forms = c.place.ensures.forms ∙ ap (λ f. set f c.args.to (part c.negate-s.result c.negate-s.new.row)) k ∙ ap (set (slots ns xs) c.args.to) (p.is ∙ ap (negation o) a);
    }
