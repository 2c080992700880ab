use Rattle.std.proofs.Common.{rules}
use Rattle.proposal.proofs.Cuts.{cut_below}
use Rattle.proposal.proofs.cursor.find_fact.Goals as goal

pub overflow_add-cut : goal.overflow_add-cut
overflow_add-cut c = let e = cut_below c.args.words.now c.args.from c.end_from-end.result c.end_from-end.ensures.after in search rules
