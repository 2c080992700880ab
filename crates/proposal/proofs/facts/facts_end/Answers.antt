use Rattle.std.proofs.Common.{arith, rules}
use Rattle.proposal.proofs.FactRows.{facts_more, facts_all}
use Rattle.proposal.proofs.facts.facts_end.Goals as goal

pub returns-in_err-place : goal.returns-in_err-place
returns-in_err-place c = let e = facts_more c.args.reader.now.limits c.args.reader.now.words.now c.loop-i.i c.args.facts c.loop-i.place (omega arith) in search rules

pub loop-i-preserved : goal.loop-i-preserved
loop-i-preserved c = let e = facts_more c.args.reader.now.limits c.args.reader.now.words.now c.loop-i.i c.args.facts c.loop-i.place (omega arith) in search rules

pub returns : goal.returns
returns c = let e = facts_all c.args.reader.now.limits c.args.reader.now.words.now c.args.facts c.loop-i.place in search rules
