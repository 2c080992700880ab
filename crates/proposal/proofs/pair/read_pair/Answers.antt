use Rattle.std.proofs.Common.{rules}
use Rattle.proposal.proofs.Bodies.{pair_told_by}
use Rattle.proposal.proofs.pair.read_pair.Goals as goal

pub returns-in_default : goal.returns-in_default
returns-in_default c = let e = pair_told_by c.args.one.now c.args.two.now c.args.words.now in search rules

pub returns-in_err-head : goal.returns-in_err-head
returns-in_err-head c = let e = pair_told_by c.args.one.now c.args.two.now c.args.words.now in search rules

pub returns : goal.returns
returns c = let e = pair_told_by c.args.one.now c.args.two.now c.args.words.now in search rules
