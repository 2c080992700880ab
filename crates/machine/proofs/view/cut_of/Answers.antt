use Rattle.std.proofs.Common.{rules}
use Rattle.machine.proofs.Cuts.{cut_within}
use Rattle.machine.proofs.view.cut_of.Goals as goal

pub returns-clause-within : goal.returns-clause-within
returns-clause-within c = let e = cut_within c.args.items.now in search rules
