use Rattle.std.proofs.Common.{sym, ap, ◌∙◌}
use Rattle.std.proofs.lemmas.Result.{err_from_is_err_and}
use Rattle.machine.specs.Answer.{◌then◌}
use Rattle.machine.specs.Machine.{row_at}
use Rattle.machine.specs.Tables.{table_machine}
use Rattle.workspace.specs.Views.{forms}
use Rattle.walk.specs.Taking.{track_seen}
use Rattle.correspondence.specs.Judgement.{other_settled, never_taken}
use Rattle.judgement.proofs.NeverTaken.{no_step, up_to_last}
use Rattle.judgement.proofs.infeasible.check_infeasible.Goals as goal

pub returns-in_default : goal.returns-in_default
returns-in_default g c = sym (no_step g.D.Domain.ops (table_machine c.args.start.table.words.now) c.args.path.now _ c.in_default.ensures.cases)

pub returns-in_err-state : goal.returns-in_err-state
returns-in_err-state g c =
    let o = g.D.Domain.ops in
    let last = c.in-Some.last.now in
    let front = c.in-Some.front.now in
    let m = table_machine c.args.start.table.words.now in
    let t = track_seen c.args.side c.args.start.number c.args.known.now c.args.outputs.now (forms c.args.slots.now) in
    let p = err_from_is_err_and c.from_residual.result c.from_residual.ensures.1 in
    rw (p.1, p.2) (ap (λ a. a then λ u. other_settled o (row_at m u.state) last u) c.in_err-state.ensures.walks ∙ sym (up_to_last o m 0 front last t) ∙ ap (λ path. never_taken o m path t) (sym c.in-Some.ensures.cases.0))

pub returns : goal.returns
returns g c =
    let o = g.D.Domain.ops in
    let last = c.in-Some.last.now in
    let front = c.in-Some.front.now in
    let m = table_machine c.args.start.table.words.now in
    let t = track_seen c.args.side c.args.start.number c.args.known.now c.args.outputs.now (forms c.args.slots.now) in
    let u = track_seen c.args.side c.in_ok-state.state.number c.follow.new.known c.follow.new.outputs (forms c.follow.new.slots) in
    c.check_other.ensures
    ∙ ap (λ table. other_settled o (row_at (table_machine table.words.now) u.state) last u) c.in_ok-state.ensures.table
    ∙ ap (λ a. a then λ u. other_settled o (row_at m u.state) last u) c.in_ok-state.ensures.walks
    ∙ sym (up_to_last o m 0 front last t)
    ∙ ap (λ path. never_taken o m path t) (sym c.in-Some.ensures.cases.0)
