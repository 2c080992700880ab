use Rattle.std.proofs.Common.{refl, arith}
use Rattle.judgement.proofs.Spelling.{spelt_none, spelt_more, spelt_all}
use Rattle.judgement.proofs.turns.spell_turns.Goals as goal

pub loop-i-init : goal.loop-i-init
loop-i-init c = spelt_none c.args.path.length c.args.path.turns c.args.turns.now c.told-turns

pub loop-i-preserved : goal.loop-i-preserved
loop-i-preserved c = spelt_more c.args.path.length c.args.path.turns c.loop-i.i c.loop-i.left c.loop-i.turns _ c.loop-i-test.true c.requires refl c.loop-i.invariant

pub returns : goal.returns
returns c = spelt_all c.args.path.length c.args.path.turns c.loop-i.i c.loop-i.left c.loop-i.turns (omega arith) c.loop-i.invariant
