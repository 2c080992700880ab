use Rattle.std.proofs.Common.{rules}
use Rattle.proposal.specs.Reading.{read_claim}
use Rattle.proposal.proofs.claim.read_claim.Goals as goal

pub returns-in_default : goal.returns-in_default
unfolding read_claim
returns-in_default c = search rules

pub returns-in_err-head : goal.returns-in_err-head
unfolding read_claim
returns-in_err-head c = search rules

pub returns-in_err-path : goal.returns-in_err-path
unfolding read_claim
returns-in_err-path c = search rules

pub returns-in-Infeasible : goal.returns-in-Infeasible
unfolding read_claim
returns-in-Infeasible c = search rules

pub returns-in-Live : goal.returns-in-Live
unfolding read_claim
returns-in-Live c = search rules
