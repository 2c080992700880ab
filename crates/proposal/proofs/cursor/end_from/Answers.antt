use Rattle.std.proofs.Common.{rules}
use Rattle.proposal.proofs.Ends.{end_is}
use Rattle.proposal.proofs.cursor.end_from.Goals as goal

pub returns-clause-place : goal.returns-clause-place
returns-clause-place c = let e = end_is c.args.words.now c.args.from _ c.next_end.ensures in search rules
