use Rattle.std.proofs.Common.{sym, subst}
use Rattle.proposal.specs.Cursors.{CutsFact}
use Rattle.proposal.proofs.Cuts.{cuts_fact}
use Rattle.proposal.proofs.cursor.fact_at.Goals as goal

pub returns-clause-cuts : goal.returns-clause-cuts
returns-clause-cuts c = subst (CutsFact c.args.words.now c.args.from) (sym c.find_fact.ensures) (cuts_fact c.args.words.now c.args.from)
