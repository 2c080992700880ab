use Rattle.proposal.proofs.Accepted.{live_read}
use Rattle.proposal.proofs.laws.live_parts.Goals as goal

pub returns : goal.returns
returns c = live_read
