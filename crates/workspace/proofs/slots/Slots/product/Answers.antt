use Rattle.std.proofs.Common.{[], get_or, sym, ap, ◌∙◌, arith}
use Rattle.forms.specs.Rows.{part}
use Rattle.forms.specs.Forms as Forms
use Rattle.forms.specs.Forms.{top}
use Rattle.forms.proofs.Limits.{k_is, product_fits, product_over}
use Rattle.workspace.specs.Slots.{slots, give}
use Rattle.workspace.specs.Views.{forms}
use Rattle.workspace.proofs.Steps.{form_at, settled}
use Rattle.workspace.proofs.Laws.{ready}
use Rattle.workspace.proofs.slots.Slots.product.Goals as goal

pub overflow_add-degree_of : goal.overflow_add-degree_of
overflow_add-degree_of g c = omega (arith, k_is, c.degree_of.ensures.few, c.degree_of-2.ensures.few)

pub returns-then-degree_of-gt-HIGHEST : goal.returns-then-degree_of-gt-HIGHEST
returns-then-degree_of-gt-HIGHEST g c =
    let o = g.D.Domain.ops in
    let F = forms c.args.self.now in
    let P = get_or F c.args.a [] in
    let Q = get_or F c.args.b [] in
    let da = c.degree_of.ensures.top ∙ ap top c.terms.ensures in
    let db = c.degree_of-2.ensures.top ∙ ap top c.terms-2.ensures in
    let k = k_is in
    record { forms = sym (ap (λ r. give c.args.to r F) (product_over o P Q (omega arith))) }

pub returns : goal.returns
returns g c =
    let o = g.D.Domain.ops in
    let ns = c.args.self.now.lens.of in
    let xs = c.args.self.now.row.now in
    let a = form_at ns xs c.args.a c.span-p.result (ready c.args.self.now) (omega arith) c.span-p.ensures in
    let b = form_at ns xs c.args.b c.span-q.result (ready c.args.self.now) (omega arith) c.span-q.ensures in
    let da = c.degree_of.ensures.top ∙ ap top c.terms.ensures in
    let db = c.degree_of-2.ensures.top ∙ ap top c.terms-2.ensures in
    let F = slots ns xs in
    let k = k_is in
    record {
      forms =
          settled ns xs c.multiply-s.new.row _ c.args.to c.multiply-s.result _ (ready c.args.self.now) c.multiply-s.ensures.kept c.multiply-s.ensures.is c.settle.ensures.forms
          ∙ ap (λ p. give c.args.to (Forms.limit (Forms.multiplied o p (part c.span-q.result xs))) F) a
          ∙ ap (λ q. give c.args.to (Forms.limit (Forms.multiplied o (get_or F c.args.a []) q)) F) b
          ∙ ap (λ r. give c.args.to r F) (sym (product_fits o (get_or F c.args.a []) (get_or F c.args.b []) (omega arith)));
    }
