use Rattle.std.proofs.lemmas.Result.{err_from_is_err_and}
use Rattle.workspace.specs.Views.{forms}
use Rattle.rules.specs.Expressions.{fact_cut}
use Rattle.rules.proofs.FactSides.{second_over, both}
use Rattle.rules.proofs.facts.work_out_fact.Goals as goal

pub returns-in_err-work_out-2-clause-value : goal.returns-in_err-work_out-2-clause-value
returns-in_err-work_out-2-clause-value g c =
    let ws = c.args.words.now in
    let e = c.in_ok-work_out.ensures in
    let v = second_over g.D.Domain.ops c.args.symbols ws c.args.place c.fact_at-fact.result (fact_cut ws c.args.place) c.fact_at-fact.ensures.place (forms c.args.slots.now) (forms c.work_out.new.slots) e.kept e.value c.in_err-work_out-2.ensures.value in
    let p = err_from_is_err_and c.from_residual-in_err-work_out-2.result c.from_residual-in_err-work_out-2.ensures.1 in
    rw p.1 v

pub returns-clause-value : goal.returns-clause-value
returns-clause-value g c =
    let o = g.D.Domain.ops in
    let ws = c.args.words.now in
    let at = c.args.place in
    let fs = forms c.args.slots.now in
    let f₁ = forms c.work_out.new.slots in
    let f₂ = forms c.work_out-2.new.slots in
    let e = c.in_ok-work_out.ensures in
    let f = c.in_ok-work_out-2.ensures in
    let is = c.fact_at-fact.ensures.place in
    both o c.args.symbols ws at c.fact_at-fact.result (fact_cut ws at) is fs f₁ e.kept e.value f₂ f.kept f.value
