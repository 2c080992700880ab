use Rattle.std.proofs.Common.{ℕ, Ok, Err, Result, ap, ◌∙◌}
use Rattle.std.proofs.lemmas.Result.{err_from_is_err_and}
use Rattle.machine.specs.Answer.{good}
use Rattle.machine.specs.Reading.{transition_of, row_of}
use Rattle.machine.specs.Views.{ahead}
use Rattle.workspace.specs.Views.{forms}
use Rattle.walk.specs.Walk.{step}
use Rattle.walk.specs.Taking.{track_seen}
use Rattle.walk.proofs.Stepped.{learned_step}
use Rattle.walk.proofs.steps.learn_step.Goals as goal

pub returns-in_err-number-clause-steps : goal.returns-in_err-number-clause-steps
returns-in_err-number-clause-steps g c =
    let o = g.D.Domain.ops in
    let number = c.args.state.number in
    let row = row_of (ahead c.row_there-row.result) in
    let fs = forms c.args.slots.now in
    let k = c.args.known.now in
    let out = c.args.outputs.now in
    let e = c.in_ok-test.ensures in
    let l = c.learn_put.ensures in
    let a = c.in_err-number.ensures in
    let none : Result ℕ (Unit {0}) = Err tt in
    let p = err_from_is_err_and c.from_residual-in_err-number.result c.from_residual-in_err-number.ensures.1 in
    let v = learned_step o c.args.side row c.args.turn number k c.learn_put.new.known out c.take_transition.new.outputs c.in_ok-test.test fs (forms c.put_test.new.slots) (forms c.learn_put.new.slots) (forms c.take_transition.new.slots) e.tests e.kept l.known l.kept none (transition_of (ahead c.put_test.new.row)) e.goes tt tt a.acted in
    rw p.1 (v ∙ ap (λ x. step o (λ tests. good tt) x c.args.turn (track_seen c.args.side number k out fs)) c.row_there-row.ensures.row)

pub returns-clause-steps : goal.returns-clause-steps
returns-clause-steps g c =
    let o = g.D.Domain.ops in
    let side = c.args.side in
    let number = c.args.state.number in
    let row = row_of (ahead c.row_there-row.result) in
    let fs = forms c.args.slots.now in
    let f₁ = forms c.put_test.new.slots in
    let f₂ = forms c.learn_put.new.slots in
    let f₃ = forms c.take_transition.new.slots in
    let e = c.in_ok-test.ensures in
    let l = c.learn_put.ensures in
    let a = c.in_ok-number.ensures in
    let t = transition_of (ahead c.put_test.new.row) in
    let k = c.args.known.now in
    let k' = c.learn_put.new.known in
    let out = c.args.outputs.now in
    let out' = c.take_transition.new.outputs in
    let test = c.in_ok-test.test in
    let left : Result ℕ (Unit {0}) = Ok c.in_ok-number.number in
    learned_step o side row c.args.turn number k k' out out' test fs f₁ f₂ f₃ e.tests e.kept l.known l.kept left t e.goes a.target a.kept a.acted
    ∙ ap (λ x. step o (λ tests. good tt) x c.args.turn (track_seen side number k out fs)) c.row_there-row.ensures.row
