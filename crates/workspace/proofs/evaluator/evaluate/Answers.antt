use Rattle.std.proofs.Common.{ap, ◌∙◌}
use Rattle.std.proofs.lemmas.Result.{err_from_is_err_and}
use Rattle.expression.specs.Run.{step}
use Rattle.workspace.specs.Views.{forms}
use Rattle.workspace.specs.Evaluation.{reading, stack}
use Rattle.workspace.proofs.Evaluating.{started, went, failed, ended, named_kept}
use Rattle.workspace.proofs.evaluator.evaluate.Goals as goal

pub loop-w-init : goal.loop-w-init
loop-w-init g c = started _ _ _ c.args.expression.is

pub loop-w-preserved : goal.loop-w-preserved
loop-w-preserved g c =
    let o = g.D.Domain.ops in
    let fs = forms c.loop-w.slots in
    let inv = c.loop-w.invariant in
    let e = c.in_ok-apply.ensures in
    let s = e.stack ∙ ap (λ f. step (reading o c.args.leaves f) c.from-item.result (stack c.loop-w.depth fs)) (named_kept _ _ _ _ _ _ inv) in
    let w = went _ _ _ _ _ _ inv c.loop-w-test.true c.from-item.result (forms c.apply.new.slots) c.from-item.ensures e.kept s in
    rw c.taken.ensures w

pub returns-in_err-apply-clause-value : goal.returns-in_err-apply-clause-value
returns-in_err-apply-clause-value g c =
    let o = g.D.Domain.ops in
    let fs = forms c.loop-w.slots in
    let inv = c.loop-w.invariant in
    let e = c.in_err-apply.ensures in
    let s = e.stack ∙ ap (λ f. step (reading o c.args.leaves f) c.from-item.result (stack c.loop-w.depth fs)) (named_kept _ _ _ _ _ _ inv) in
    let v = failed _ _ _ _ _ _ inv c.loop-w-test.true c.from-item.result c.from-item.ensures s in
    let p = err_from_is_err_and c.from_residual.result c.from_residual.ensures.1 in
    rw p.1 v

pub returns-clause-value : goal.returns-clause-value
returns-clause-value g c =
    ended _ _ _ _ _ _ c.loop-w.invariant c.loop-w-test.false
