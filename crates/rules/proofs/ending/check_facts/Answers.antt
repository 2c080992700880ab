use Rattle.std.proofs.lemmas.Result.{err_from_is_err_and}
use Rattle.workspace.specs.Views.{forms}
use Rattle.rules.proofs.FactsKnown.{facts_more}
use Rattle.rules.proofs.FactsSettled.{ask_over, ask_unsettled, ask_more, ask_end}
use Rattle.rules.proofs.ending.check_facts.Goals as goal

pub work_out_fact-requires : goal.work_out_fact-requires
work_out_fact-requires g c = record {
  readable = (facts_more c.args.words.now c.loop-i.at c.loop-i.i c.args.facts c.loop-i-test.true c.loop-i.invariant.readable).0;
}

pub returns-in_err-fact : goal.returns-in_err-fact
returns-in_err-fact g c =
    let p = err_from_is_err_and c.from_residual.result c.from_residual.ensures.1 in
    let v = ask_over g.D.Domain.ops c.args.symbols c.args.words.now c.args.facts c.args.place c.args.known.now (forms c.args.slots.now) c.loop-i.i c.loop-i.at (forms c.loop-i.slots) c.loop-i.invariant c.loop-i-test.true c.in_err-fact.ensures.value in
    rw (p.1, p.2) (record { settles = v })

pub returns-then-not-is_settled : goal.returns-then-not-is_settled
returns-then-not-is_settled g c =
    let e = c.in_ok-fact.ensures in
    record {
      settles = ask_unsettled g.D.Domain.ops c.args.symbols c.args.words.now c.args.facts c.args.place c.args.known.now (forms c.args.slots.now) c.loop-i.i c.loop-i.at (forms c.loop-i.slots) c.loop-i.invariant c.loop-i-test.true
          c.in_ok-fact.fact e.kept.0 (forms c.work_out_fact.new.slots) e.value e.kept.1 c.is_settled.result c.is_settled.ensures c.if-not-is_settled.true;
    }

pub loop-i-preserved : goal.loop-i-preserved
loop-i-preserved g c =
    let e = c.in_ok-fact.ensures in
    ask_more g.D.Domain.ops c.args.symbols c.args.words.now c.args.facts c.args.place c.args.known.now (forms c.args.slots.now) c.loop-i.i c.loop-i.at (forms c.loop-i.slots) c.loop-i.invariant c.loop-i-test.true
    c.in_ok-fact.fact e.kept.0 (forms c.work_out_fact.new.slots) e.value e.kept.1 c.is_settled.result c.is_settled.ensures c.if-not-is_settled.false

pub returns : goal.returns
returns g c = record { settles = ask_end g.D.Domain.ops c.args.symbols c.args.words.now c.args.facts c.args.place c.args.known.now (forms c.args.slots.now) c.loop-i.i c.loop-i.at (forms c.loop-i.slots) c.loop-i.invariant c.loop-i-test.false }
