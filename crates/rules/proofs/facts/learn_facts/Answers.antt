use Rattle.std.proofs.lemmas.Result.{err_from_is_err_and}
use Rattle.workspace.specs.Views.{forms}
use Rattle.rules.proofs.FactsKnown.{facts_more, note_more, note_over}
use Rattle.rules.proofs.facts.learn_facts.Goals as goal

pub work_out_fact-requires : goal.work_out_fact-requires
work_out_fact-requires g c = record {
  readable = (facts_more c.args.words.now c.loop-i.at c.loop-i.i c.args.facts c.loop-i-test.true c.loop-i.invariant.readable).0;
}

pub returns-in_err-fact-clause-known : goal.returns-in_err-fact-clause-known
returns-in_err-fact-clause-known g c =
    let p = err_from_is_err_and c.from_residual.result c.from_residual.ensures.1 in
    let v = note_over g.D.Domain.ops c.args.words.now c.args.facts c.args.place (forms c.args.slots.now) c.loop-i.i c.loop-i.at c.loop-i.known (forms c.loop-i.slots) c.loop-i.invariant c.loop-i-test.true c.in_err-fact.ensures.value in
    rw p.1 v

pub loop-i-preserved : goal.loop-i-preserved
loop-i-preserved g c =
    let e = c.in_ok-fact.ensures in
    note_more g.D.Domain.ops c.args.words.now c.args.facts c.args.place (forms c.args.slots.now) c.loop-i.i c.loop-i.at c.loop-i.known (forms c.loop-i.slots) c.loop-i.invariant c.loop-i-test.true
    c.in_ok-fact.fact (forms c.work_out_fact.new.slots) (forms c.learn.new.slots) c.learn.new.known e.value e.kept.0 e.kept.1 c.learn.ensures.known c.learn.ensures.count c.learn.ensures.kept
