use Rattle.std.proofs.Common.{[], get_or, sym, ap, ◌∙◌, arith}
use Rattle.forms.specs.Rows.{part}
use Rattle.forms.specs.Forms as Forms
use Rattle.forms.proofs.Limits.{sum_is}
use Rattle.workspace.specs.Slots.{slots, give}
use Rattle.workspace.proofs.Steps.{form_at, settled}
use Rattle.workspace.proofs.Laws.{ready}
use Rattle.workspace.proofs.slots.Slots.sum.Goals as goal

pub returns : goal.returns
returns g c =
    let o = g.D.Domain.ops in
    let ns = c.args.self.now.lens.of in
    let xs = c.args.self.now.row.now in
    let a = form_at ns xs c.args.a c.span-p.result (ready c.args.self.now) (omega arith) c.span-p.ensures in
    let b = form_at ns xs c.args.b c.span-q.result (ready c.args.self.now) (omega arith) c.span-q.ensures in
    let F = slots ns xs in
    record {
      forms =
          settled ns xs c.merge-s.new.row _ c.args.to c.merge-s.result _ (ready c.args.self.now) c.merge-s.ensures.kept c.merge-s.ensures.is c.settle.ensures.forms
          ∙ ap (λ p. give c.args.to (Forms.limit (Forms.added o p (part c.span-q.result xs))) F) a
          ∙ ap (λ q. give c.args.to (Forms.limit (Forms.added o (get_or F c.args.a []) q)) F) b
          ∙ ap (λ r. give c.args.to r F) (sym (sum_is o (get_or F c.args.a []) (get_or F c.args.b [])));
    }
