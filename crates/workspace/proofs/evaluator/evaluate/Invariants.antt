use Rattle.workspace.specs.Views.{forms, named}
use Rattle.workspace.specs.Evaluation.{reading}
use Rattle.workspace.proofs.Evaluating.{Evaluating}
use Rattle.workspace.proofs.evaluator.evaluate.Given as goal

abbrev pub invariant-loop-w : goal.invariant-loop-w
invariant-loop-w g l =
    let base = forms l.initial.slots in
    Evaluating (reading g.D.Domain.ops l.leaves (named base)) base (forms l.slots) l.expression.words.now l.w-index l.depth
