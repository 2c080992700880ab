use Rattle.std.proofs.Common.{ℕ, [], sym, subst}
use Rattle.std.proofs.lemmas.Result.{err_from_is_err_and}
use Rattle.workspace.specs.Views.{forms}
use Rattle.machine.specs.Answer.{good, refused}
use Rattle.machine.specs.Tables.{There, table_machine}
use Rattle.rules.specs.Kept.{kept_pair}
use Rattle.judgement.proofs.Standing.{opened_of, first_there, second_there}
use Rattle.judgement.proofs.Walking.{never_started, first_walk_over, second_walk_fault, both_walked}
use Rattle.judgement.proofs.walks.walk_both.Goals as goal

pub returns-in_err-known : goal.returns-in_err-known
returns-in_err-known g c =
    let t = c.args.tables in
    let p = err_from_is_err_and c.from_residual.result c.from_residual.ensures.1 in
    rw (p.1, p.2) (never_started g.D.Domain.ops (table_machine t.first.words.now) (table_machine t.second.words.now) (kept_pair t.counts c.args.pair.now) c.args.first.now c.args.second.now c.in_err-known.ensures.starts)

pub invariant_of-follow : goal.invariant_of-follow
invariant_of-follow g c =
    let t = c.args.tables in
    let P : ℕ → Type 0 = λ s. There t.first.words.now s in
    record { there = subst P (sym c.states_of-from.ensures.first) (first_there t.first.words.now t.second.words.now t.counts (opened_of c.args.tables) c.args.pair.now c.requires.kept) }

pub returns-in_err-first : goal.returns-in_err-first
returns-in_err-first g c =
    let t = c.args.tables in
    let p = err_from_is_err_and c.from_residual-in_err-first.result c.from_residual-in_err-first.ensures.1 in
    rw (p.1, p.2) (first_walk_over g.D.Domain.ops (table_machine t.first.words.now) (table_machine t.second.words.now) t.counts c.args.tables.fit (kept_pair t.counts c.args.pair.now) c.args.first.now c.args.second.now c.in_ok-known.known (forms c.start.new.slots) c.in_ok-known.ensures.starts
    c.side_of-one.result c.side_of-one.ensures c.states_of-from.result.first c.states_of-from.ensures.first c.empty-seen.result c.empty-seen.ensures c.in_err-first.ensures.walks)

pub invariant_of-follow_settled : goal.invariant_of-follow_settled
invariant_of-follow_settled g c =
    let t = c.args.tables in
    let P : ℕ → Type 0 = λ s. There t.second.words.now s in
    record { there = subst P (sym c.states_of-from.ensures.second) (second_there t.first.words.now t.second.words.now t.counts (opened_of c.args.tables) c.args.pair.now c.requires.kept) }

pub returns-in_err-second : goal.returns-in_err-second
returns-in_err-second g c =
    let t = c.args.tables in
    let p = err_from_is_err_and c.from_residual-in_err-second.result c.from_residual-in_err-second.ensures.1 in
    rw (p.1, p.2) (second_walk_fault g.D.Domain.ops (table_machine t.first.words.now) (table_machine t.second.words.now) t.counts c.args.tables.fit (kept_pair t.counts c.args.pair.now) c.args.first.now c.args.second.now c.in_ok-known.known (forms c.start.new.slots) c.in_ok-known.ensures.starts
    c.side_of-one.result c.side_of-one.ensures c.states_of-from.result.first c.states_of-from.ensures.first c.empty-seen.result c.empty-seen.ensures
    c.in_ok-first.first.number c.follow.new.known c.follow.new.outputs (forms c.follow.new.slots) c.in_ok-first.ensures.walks c.in_ok-first.ensures.kept
    c.side_of-two.result c.side_of-two.ensures c.states_of-from.result.second c.states_of-from.ensures.second c.empty-other.result c.empty-other.ensures _ _ (c.in_err-second.ensures.walks []))

pub returns-in_err-compare_outputs : goal.returns-in_err-compare_outputs
returns-in_err-compare_outputs g c =
    let t = c.args.tables in
    let p = err_from_is_err_and c.from_residual-in_err-compare_outputs.result c.from_residual-in_err-compare_outputs.ensures.1 in
    rw (p.1, p.2) (both_walked g.D.Domain.ops (table_machine t.first.words.now) (table_machine t.second.words.now) t.counts c.args.tables.fit (kept_pair t.counts c.args.pair.now) c.args.first.now c.args.second.now c.in_ok-known.known (forms c.start.new.slots) c.in_ok-known.ensures.starts
    c.side_of-one.result c.side_of-one.ensures c.states_of-from.result.first c.states_of-from.ensures.first c.empty-seen.result c.empty-seen.ensures
    c.in_ok-first.first.number c.follow.new.known c.follow.new.outputs (forms c.follow.new.slots) c.in_ok-first.ensures.walks c.in_ok-first.ensures.kept
    c.side_of-two.result c.side_of-two.ensures c.states_of-from.result.second c.states_of-from.ensures.second c.empty-other.result c.empty-other.ensures
    c.in_ok-second.second.number c.follow_settled.new.outputs (forms c.follow_settled.new.slots) (c.in_ok-second.ensures.walks []) c.in_ok-second.ensures.kept (refused 15 0 c.in_err-compare_outputs.field-0.0.place) c.in_err-compare_outputs.ensures)

pub returns : goal.returns
returns g c =
    let t = c.args.tables in
    both_walked g.D.Domain.ops (table_machine t.first.words.now) (table_machine t.second.words.now) t.counts c.args.tables.fit (kept_pair t.counts c.args.pair.now) c.args.first.now c.args.second.now c.in_ok-known.known (forms c.start.new.slots) c.in_ok-known.ensures.starts
    c.side_of-one.result c.side_of-one.ensures c.states_of-from.result.first c.states_of-from.ensures.first c.empty-seen.result c.empty-seen.ensures
    c.in_ok-first.first.number c.follow.new.known c.follow.new.outputs (forms c.follow.new.slots) c.in_ok-first.ensures.walks c.in_ok-first.ensures.kept
    c.side_of-two.result c.side_of-two.ensures c.states_of-from.result.second c.states_of-from.ensures.second c.empty-other.result c.empty-other.ensures
    c.in_ok-second.second.number c.follow_settled.new.outputs (forms c.follow_settled.new.slots) (c.in_ok-second.ensures.walks []) c.in_ok-second.ensures.kept (good tt) c.in_ok-compare_outputs.ensures
