use Rattle.std.proofs.Common.{ℕ, Ok, Err, Result, ap, ◌∙◌, rules}
use Rattle.std.proofs.lemmas.Result.{err_from_is_err_and}
use Rattle.machine.specs.Reading.{transition_of, row_of}
use Rattle.machine.specs.Views.{ahead}
use Rattle.workspace.specs.Views.{forms}
use Rattle.walk.specs.Walk.{step, must}
use Rattle.walk.specs.Seen.{known_seen}
use Rattle.walk.specs.Taking.{only_reached, beside, reached_seen}
use Rattle.walk.proofs.Stepped.{unsettled, settled_step}
use Rattle.walk.proofs.steps.settled_step.Goals as goal

pub returns-then-not-is_put_settled-clause-steps : goal.returns-then-not-is_put_settled-clause-steps
returns-then-not-is_put_settled-clause-steps g c =
    let o = g.D.Domain.ops in
    let side = c.args.side in
    let k = c.args.known.now in
    let fs = forms c.args.slots.now in
    let f₁ = forms c.put_test.new.slots in
    let e = c.in_ok-test.ensures in
    let not : _ = c.is_put_settled.ensures in
    let v = unsettled o side (row_of (ahead c.row_there-row.result)) c.args.turn c.args.state.number c.args.index k c.args.outputs.now c.in_ok-test.test fs f₁ e.tests e.kept (search rules) in
    λ tests. v tests ∙ ap (λ x. only_reached (step o (must o (known_seen k.items fs 0 k.count) c.args.index) x c.args.turn (beside tests (reached_seen side c.args.state.number c.args.outputs.now fs)))) c.row_there-row.ensures.row

pub returns-in_err-number-clause-steps : goal.returns-in_err-number-clause-steps
returns-in_err-number-clause-steps g c =
    let o = g.D.Domain.ops in
    let side = c.args.side in
    let k = c.args.known.now in
    let fs = forms c.args.slots.now in
    let f₁ = forms c.put_test.new.slots in
    let e = c.in_ok-test.ensures in
    let a = c.in_err-number.ensures in
    let none : Result ℕ (Unit {0}) = Err tt in
    let row = row_of (ahead c.row_there-row.result) in
    let v = settled_step o side row c.args.turn c.args.state.number c.args.index k c.args.outputs.now c.in_ok-test.test fs f₁ e.tests e.kept c.take_transition.new.outputs (forms c.take_transition.new.slots) none (transition_of (ahead c.put_test.new.row)) e.goes tt tt a.acted (search rules) in
    let p = err_from_is_err_and c.from_residual-in_err-number.result c.from_residual-in_err-number.ensures.1 in
    rw (p.1, p.2) (λ tests. v tests ∙ ap (λ x. only_reached (step o (must o (known_seen k.items fs 0 k.count) c.args.index) x c.args.turn (beside tests (reached_seen side c.args.state.number c.args.outputs.now fs)))) c.row_there-row.ensures.row)

pub returns-clause-steps : goal.returns-clause-steps
returns-clause-steps g c =
    let o = g.D.Domain.ops in
    let side = c.args.side in
    let k = c.args.known.now in
    let fs = forms c.args.slots.now in
    let f₁ = forms c.put_test.new.slots in
    let f₃ = forms c.take_transition.new.slots in
    let e = c.in_ok-test.ensures in
    let a = c.in_ok-number.ensures in
    let left : Result ℕ (Unit {0}) = Ok c.in_ok-number.number in
    let row = row_of (ahead c.row_there-row.result) in
    let t = transition_of (ahead c.put_test.new.row) in
    let v = settled_step o side row c.args.turn c.args.state.number c.args.index k c.args.outputs.now c.in_ok-test.test fs f₁ e.tests e.kept c.take_transition.new.outputs f₃ left t e.goes a.target a.kept a.acted (search rules) in
    λ tests. v tests ∙ ap (λ x. only_reached (step o (must o (known_seen k.items fs 0 k.count) c.args.index) x c.args.turn (beside tests (reached_seen side c.args.state.number c.args.outputs.now fs)))) c.row_there-row.ensures.row
