use Rattle.std.proofs.Common.{sym, subst}
use Rattle.proposal.specs.Cursors.{CutsStored}
use Rattle.proposal.proofs.Cuts.{cuts_stored}
use Rattle.proposal.proofs.cursor.expression_end.Goals as goal

pub returns-clause-cuts : goal.returns-clause-cuts
returns-clause-cuts c = subst (CutsStored c.args.words.now c.args.from) (sym c.end_from.ensures.place) (cuts_stored c.args.words.now c.args.from)
