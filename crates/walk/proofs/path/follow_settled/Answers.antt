use Rattle.std.proofs.Common.{◌<◌, ◌≤◌, false, length, get_or, refl, ap, ◌∙◌, arith}
use Rattle.std.proofs.lemmas.Result.{err_from_is_err_and}
use Rattle.machine.specs.Machine.{row_at}
use Rattle.machine.specs.Tables.{table_machine}
use Rattle.workspace.specs.Views.{forms}
use Rattle.walk.specs.Walk.{step, must}
use Rattle.walk.specs.Seen.{known_seen}
use Rattle.walk.specs.Taking.{only_reached, beside, reached_seen}
use Rattle.walk.proofs.Followed.{settled_start, settled_on, settled_fault, settled_end}
use Rattle.walk.proofs.path.follow_settled.Goals as goal

pub loop-index-init : goal.loop-index-init
loop-index-init g c = (settled_start g.D.Domain.ops c.args.side c.args.start.table.words.now c.args.path.now c.args.start.number c.args.known.now c.args.outputs.now (forms c.args.slots.now), refl)

pub returns-in_err-state-clause-walks : goal.returns-in_err-state-clause-walks
returns-in_err-state-clause-walks g c =
    let o = g.D.Domain.ops in
    let known = c.args.known.now in
    let fs = forms c.loop-index.slots in
    let turn = get_or c.args.path.now c.loop-index.index false in
    let here = reached_seen c.args.side c.loop-index.state.number c.loop-index.outputs fs in
    let e = c.in_err-state.ensures in
    let p = err_from_is_err_and c.from_residual.result c.from_residual.ensures.1 in
    let lt : c.loop-index.index < length c.args.path.now = omega arith in
    let v = settled_fault o c.args.side c.args.start.table.words.now c.args.path.now c.args.start.number known _ _ c.loop-index.index c.loop-index.state.number _ _ c.loop-index.invariant.0 _ _ _ lt
    (λ tests. e.steps tests ∙ ap (λ t. only_reached (step o (must o (known_seen known.items fs 0 known.count) c.loop-index.index) (row_at (table_machine t.words.now) c.loop-index.state.number) turn (beside tests here))) c.loop-index.invariant.1) in
    rw (p.1, p.2) v

pub loop-index-preserved : goal.loop-index-preserved
loop-index-preserved g c =
    let o = g.D.Domain.ops in
    let known = c.args.known.now in
    let fs = forms c.loop-index.slots in
    let turn = get_or c.args.path.now c.loop-index.index false in
    let here = reached_seen c.args.side c.loop-index.state.number c.loop-index.outputs fs in
    let e = c.in_ok-state.ensures in
    let lt : c.loop-index.index < length c.args.path.now = omega arith in (
      settled_on o c.args.side c.args.start.table.words.now c.args.path.now c.args.start.number known _ _ c.loop-index.index c.loop-index.state.number _ _ c.loop-index.invariant.0
          c.in_ok-state.state.number c.settled_step.new.outputs (forms c.settled_step.new.slots) lt
          (λ tests. e.steps tests ∙ ap (λ t. only_reached (step o (must o (known_seen known.items fs 0 known.count) c.loop-index.index) (row_at (table_machine t.words.now) c.loop-index.state.number) turn (beside tests here))) c.loop-index.invariant.1)
          e.kept,
      e.table ∙ c.loop-index.invariant.1,
    )

pub returns-clause-walks : goal.returns-clause-walks
returns-clause-walks g c =
    let past : length c.args.path.now ≤ c.loop-index.index = omega arith in
    settled_end g.D.Domain.ops c.args.side c.args.start.table.words.now c.args.path.now c.args.start.number c.args.known.now _ _ c.loop-index.index c.loop-index.state.number _ _ c.loop-index.invariant.0 past
