use Rattle.workspace.specs.Views.{forms}
use Rattle.workspace.proofs.Evaluating.{placed}
use Rattle.workspace.proofs.evaluator.evaluate_into.Goals as goal

pub returns : goal.returns
returns g c =
    let e = c.in_ok-evaluate.ensures in
    record { forms = placed (forms c.args.slots.now) (forms c.evaluate.new.slots) _ c.args.to _ _ c.requires.slot e.kept e.value c.copy.ensures.forms }
