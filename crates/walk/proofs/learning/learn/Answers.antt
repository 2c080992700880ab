use Rattle.std.proofs.Common.{◌∙◌}
use Rattle.workspace.specs.Views.{forms}
use Rattle.workspace.proofs.Laws.{length_slots}
use Rattle.walk.proofs.Learned.{learned}
use Rattle.walk.proofs.learning.learn.Goals as goal

pub returns-clause-known : goal.returns-clause-known
returns-clause-known g c =
    let k = c.args.known.now in
    let fs = forms c.args.slots.now in
    let f₁ = forms c.copy.new.self in
    let f₂ = forms c.copy-2.new.self in
    let wide = length_slots c.args.slots.now.lens.of c.args.slots.now.row.now ∙ c.args.slots.now.count in
    let wide₁ = length_slots c.copy.new.self.lens.of c.copy.new.self.row.now ∙ c.copy.new.self.count in
    rw (c.push.ensures.items, c.push.ensures.count) (learned k.items fs f₁ f₂ k.count c.args.test k.size wide wide₁ c.requires c.copy.ensures.forms c.copy-2.ensures.forms)
