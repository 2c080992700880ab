use Rattle.std.proofs.Common.{rules}
use Rattle.proposal.specs.Reading.{read_path}
use Rattle.proposal.proofs.claim.path_at.Goals as goal

pub returns-then-not-is_of : goal.returns-then-not-is_of
unfolding read_path
returns-then-not-is_of c = search rules

pub returns : goal.returns
unfolding read_path
returns c = search rules
