use Rattle.std.proofs.Common.{ℕ, sym, ap, ◌∙◌, subst}
use Rattle.std.proofs.lemmas.Result.{err_from_is_err_and}
use Rattle.workspace.specs.Views.{forms}
use Rattle.walk.specs.Seen.{kept_seen, known_seen}
use Rattle.machine.specs.Tables.{There, table_machine}
use Rattle.walk.specs.Taking.{track_seen}
use Rattle.correspondence.specs.Judgement.{Started, never_taken}
use Rattle.rules.specs.Kept.{kept_pair}
use Rattle.judgement.proofs.Standing.{opened_of, first_there}
use Rattle.judgement.proofs.Walking.{first_start, infeasible_over, infeasible_by}
use Rattle.judgement.proofs.walks.infeasible_rules.Goals as goal

pub returns-in_err-known : goal.returns-in_err-known
returns-in_err-known g c =
    let p = err_from_is_err_and c.from_residual.result c.from_residual.ensures.1 in
    rw (p.1, p.2) (infeasible_over g.D.Domain.ops (table_machine c.args.tables.first.words.now) (kept_pair c.args.tables.counts c.args.pair.now) c.args.path.now c.in_err-known.ensures.starts)

pub invariant_of-check_infeasible : goal.invariant_of-check_infeasible
invariant_of-check_infeasible g c =
    let t = c.args.tables in
    let P : ℕ → Type 0 = λ s. There t.first.words.now s in
    record { there = subst P (sym c.states_of-from.ensures.first) (first_there t.first.words.now t.second.words.now t.counts (opened_of c.args.tables) c.args.pair.now c.requires.kept) }

pub returns : goal.returns
returns g c =
    let o = g.D.Domain.ops in
    let counts = c.args.tables.counts in
    let m = table_machine c.args.tables.first.words.now in
    let p = kept_pair counts c.args.pair.now in
    let fs = forms c.start.new.slots in
    let known = c.in_ok-known.known in
    let out = c.empty-outputs.result in
    let s : Started o = record { registers₁ = kept_seen fs 0 counts.one.registers; registers₂ = kept_seen fs 16 counts.two.registers; known = known_seen known.items fs 0 known.count } in
    c.check_infeasible.ensures
    ∙ ap (λ side. never_taken o m c.args.path.now (track_seen side c.states_of-from.result.first known out fs)) c.side_of-one.ensures
    ∙ infeasible_by o m p c.args.path.now s c.in_ok-known.ensures.starts _ (first_start o counts c.args.tables.fit p c.states_of-from.result.first out c.empty-outputs.ensures fs known c.states_of-from.ensures.first)
