use Rattle.std.proofs.Common.{false, get_or, ap, ◌∙◌}
use Rattle.std.proofs.lemmas.Result.{err_from_is_err_and}
use Rattle.machine.specs.Answer.{good}
use Rattle.machine.specs.Machine.{row_at}
use Rattle.machine.specs.Tables.{table_machine}
use Rattle.workspace.specs.Views.{forms}
use Rattle.walk.specs.Walk.{step}
use Rattle.walk.specs.Taking.{track_seen}
use Rattle.walk.proofs.Followed.{one_step, one_over, at_end}
use Rattle.walk.proofs.path.follow.Goals as goal

pub returns-in_err-state-clause-walks : goal.returns-in_err-state-clause-walks
returns-in_err-state-clause-walks g c =
    let o = g.D.Domain.ops in
    let turn = get_or c.args.path.now c.loop-turn.turn-index false in
    let here = track_seen c.args.side c.loop-turn.state.number c.loop-turn.known c.loop-turn.outputs (forms c.loop-turn.slots) in
    let e = c.in_err-state.ensures in
    let p = err_from_is_err_and c.from_residual.result c.from_residual.ensures.1 in
    let steps = e.steps ∙ ap (λ t. step o (λ tests. good tt) (row_at (table_machine t.words.now) c.loop-turn.state.number) turn here) c.loop-turn.invariant.1 in
    let v = one_over o c.args.side c.args.start.table.words.now c.args.path.now c.args.start.number _ _ _ c.loop-turn.turn-index c.loop-turn.state.number _ _ _ c.loop-turn.invariant.0 c.loop-turn-test.true steps in
    rw p.1 v

pub loop-turn-preserved : goal.loop-turn-preserved
loop-turn-preserved g c =
    let o = g.D.Domain.ops in
    let turn = get_or c.args.path.now c.loop-turn.turn-index false in
    let here = track_seen c.args.side c.loop-turn.state.number c.loop-turn.known c.loop-turn.outputs (forms c.loop-turn.slots) in
    let e = c.in_ok-state.ensures in
    let steps = e.steps ∙ ap (λ t. step o (λ tests. good tt) (row_at (table_machine t.words.now) c.loop-turn.state.number) turn here) c.loop-turn.invariant.1 in (
      one_step o c.args.side c.args.start.table.words.now c.args.path.now c.args.start.number _ _ _ c.loop-turn.turn-index c.loop-turn.state.number _ _ _ c.loop-turn.invariant.0
          c.in_ok-state.state.number c.learn_step.new.known c.learn_step.new.outputs (forms c.learn_step.new.slots) c.loop-turn-test.true steps e.count e.kept,
      e.table ∙ c.loop-turn.invariant.1,
    )

pub returns-clause-walks : goal.returns-clause-walks
returns-clause-walks g c =
    at_end g.D.Domain.ops c.args.side c.args.start.table.words.now c.args.path.now c.args.start.number _ _ _ c.loop-turn.turn-index c.loop-turn.state.number _ _ _ c.loop-turn.invariant.0 c.loop-turn-test.false
