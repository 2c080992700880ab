use Rattle.std.proofs.Common.{◌≡◌, ◌+◌, ltb, [], get_or, Some, None, sym, ap, ◌∙◌, arith}
use Rattle.std.proofs.lemmas.List.{get_or-take}
use Rattle.std.proofs.lemmas.Bool.{cond-true, lt-ltb}
use Rattle.workspace.specs.Slots.{give}
use Rattle.workspace.specs.Views.{forms, named}
use Rattle.workspace.specs.Evaluation.{group_form}
use Rattle.workspace.proofs.slots.Slots.read.Goals as goal

pub returns : goal.returns
returns g c =
    let F = forms c.args.self.now in
    let q = c.args.group in
    let n = c.args.n in
    let t : group_form (named F) q n ≡ Some (get_or F (q.first + n) []) = cond-true (ltb n q.count) (Some (get_or (named F) (q.first + n) [])) None (lt-ltb n q.count (omega arith)) ∙ ap Some (get_or-take 144 F (q.first + n) [] (omega arith)) in
    record { forms = ap Some c.copy.ensures.forms ∙ sym (ap (λ o. give c.args.to o F) t) }
