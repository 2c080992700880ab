use Rattle.std.proofs.Common.{◌≡◌, ◌⊎◌, sym, refl, ap, ◌∙◌, inl, inr}
use Rattle.std.proofs.lemmas.Result.{err_from_is_err_and}
use Rattle.workspace.specs.Views.{forms}
use Rattle.machine.specs.Tables.{table_machine}
use Rattle.machine.specs.Answer.{Figures, refused}
use Rattle.rules.specs.declared.fault.EndFault.{EndFault}
use Rattle.rules.specs.declared.fault.EndFault.TheVariants.{OverLimits, Register, Fact}
use Rattle.rules.specs.Kept.{kept_pair}
use Rattle.rules.specs.Told.{end_figures}
use Rattle.judgement.specs.Faults.{of_end, rule_figures}
use Rattle.judgement.specs.Walks.{first_end, second_end, walked_seen}
use Rattle.judgement.proofs.Judged.{walks_refused, ended_elsewhere, ended_there}
use Rattle.judgement.proofs.judging.live_rules.Goals as goal

-- A fault at the end tells the same among the faults of the rules.
end_told : (e : EndFault) → rule_figures (of_end e) ≡ end_figures e
end_told OverLimits = refl
end_told (Register machine register) = refl
end_told (Fact place) = refl

pub returns-in_err-ends : goal.returns-in_err-ends
returns-in_err-ends g c = λ substitution holds.
    let t = c.args.tables in
    let p = err_from_is_err_and c.from_residual.result c.from_residual.ensures.1 in
    rw (p.1, p.2) (walks_refused g.D.Domain.ops (table_machine t.first.words.now) (table_machine t.second.words.now) (kept_pair t.counts c.args.claim.start.now) (kept_pair t.counts c.args.claim.end.now) c.args.first.now c.args.second.now substitution _ _ _ c.in_err-ends.ensures)

pub returns-then-ends-there : goal.returns-then-ends-there
returns-then-ends-there g c = λ substitution holds.
    let t = c.args.tables in
    let e = walked_seen g.D.Domain.ops c.in_ok-ends.ends (forms c.walk_both.new.slots) t.counts in
    let q = kept_pair t.counts c.args.claim.end.now in
    let there = c.states_of-there.ensures in
    let elsewhere : (e.state₁ ≡ q.state₁ → ⊥) ⊎ (e.state₂ ≡ q.state₂ → ⊥) = elim c.then-ends-there.either [
      | inl n ↦ inl (λ is. n (is ∙ sym there.first))
      | inr n ↦ inr (λ is. n.1 (is ∙ sym there.second))
    ] in
    ended_elsewhere g.D.Domain.ops (table_machine t.first.words.now) (table_machine t.second.words.now) (kept_pair t.counts c.args.claim.start.now) q c.args.first.now c.args.second.now substitution e c.in_ok-ends.ensures elsewhere

pub returns-in_err-check_end : goal.returns-in_err-check_end
returns-in_err-check_end g c = λ substitution holds.
    let t = c.args.tables in
    let e = walked_seen g.D.Domain.ops c.in_ok-ends.ends (forms c.walk_both.new.slots) t.counts in
    let p = err_from_is_err_and c.from_residual-in_err-check_end.result c.from_residual-in_err-check_end.ensures.1 in
    rw (p.1, p.2) (ap (λ (f : Figures). refused f.number f.machine f.place) (end_told c.in_err-check_end.field-0.0) ∙ ended_there g.D.Domain.ops (table_machine t.first.words.now) (table_machine t.second.words.now) (kept_pair t.counts c.args.claim.start.now) (kept_pair t.counts c.args.claim.end.now) c.args.first.now c.args.second.now substitution
    e c.in_ok-ends.ensures (c.if-ends-there.false ∙ c.states_of-there.ensures.first) (c.if-ends-there-2.false ∙ c.states_of-there.ensures.second) _ (c.in_err-check_end.ensures holds.0 substitution (first_end e) (second_end e) holds.1 refl refl refl))

pub returns : goal.returns
returns g c = λ substitution holds.
    let t = c.args.tables in
    let e = walked_seen g.D.Domain.ops c.in_ok-ends.ends (forms c.walk_both.new.slots) t.counts in
    ended_there g.D.Domain.ops (table_machine t.first.words.now) (table_machine t.second.words.now) (kept_pair t.counts c.args.claim.start.now) (kept_pair t.counts c.args.claim.end.now) c.args.first.now c.args.second.now substitution
    e c.in_ok-ends.ensures (c.if-ends-there.false ∙ c.states_of-there.ensures.first) (c.if-ends-there-2.false ∙ c.states_of-there.ensures.second) _ (c.in_ok-check_end.ensures holds.0 substitution (first_end e) (second_end e) holds.1 refl refl refl)
