use Rattle.proposal.proofs.Accepted.{pair_read}
use Rattle.proposal.proofs.laws.pair_parts.Goals as goal

pub returns : goal.returns
returns c = pair_read
