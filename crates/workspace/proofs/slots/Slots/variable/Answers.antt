use Rattle.std.proofs.Common.{[], set, sym, ap, ◌∙◌}
use Rattle.forms.specs.Forms.{unless_zero}
use Rattle.forms.proofs.Limits.{variable_is}
use Rattle.workspace.specs.Slots.{slots}
use Rattle.workspace.proofs.slots.Slots.variable.Goals as goal

pub returns : goal.returns
returns g c =
    let o = g.D.Domain.ops in
    let F = slots c.args.self.now.lens.of c.args.self.now.row.now in
    record {
      forms = c.single.ensures.forms ∙ ap (set F c.args.to) ((λ i. unless_zero o (record { coefficient = c.one-coefficient.ensures i; monomial = c.from-monomial.ensures i }) []) ∙ sym (variable_is o c.args.code));
    }
