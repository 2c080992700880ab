use Rattle.std.proofs.Common.{rules}
use Rattle.proposal.specs.Reading.{read_mask}
use Rattle.proposal.proofs.pair.mask_at.Goals as goal

pub returns-then-not-is_of-clause-reads : goal.returns-then-not-is_of-clause-reads
unfolding read_mask
returns-then-not-is_of-clause-reads c = search rules

pub returns-clause-reads : goal.returns-clause-reads
unfolding read_mask
returns-clause-reads c = search rules
