-- What the claims of the code stand for.
use Rattle.std.specs.Prelude.{ℕ, Bool, true, false, not, List, map, Result}
use Rattle.machine.specs.Answer.{Answer, good, ◌then◌}
use Rattle.proposal.specs.declared.claim.Path as declared_path
use Rattle.proposal.specs.declared.claim.ClaimHead.{ClaimHead}
use Rattle.proposal.specs.declared.claim.ClaimHead.TheVariants as heads
use Rattle.proposal.specs.declared.claim.Claim as declared
use Rattle.proposal.specs.declared.claim.Claim.TheVariants as variants
use Rattle.proposal.specs.declared.fault.ClaimFault.{ClaimFault}
use Rattle.proposal.specs.Proposal.{Claim, live, infeasible}
use Rattle.proposal.specs.Reading.{bits, word_at, HeadOfClaim, read_path, Proposed}
use Rattle.proposal.specs.Places.{claim_told}

-- The turns of a path; `true` is yes.
abbrev pub turns_of : declared_path.Path → List Bool
turns_of path = map not (bits path.length path.turns)

abbrev pub claim_of : declared.Claim → Claim
claim_of (variants.Live start end first second) = live start end (turns_of first) (turns_of second)
claim_of (variants.Infeasible start first) = infeasible start (turns_of first)

abbrev pub live_head : (start end : ℕ) → HeadOfClaim
live_head s e = record { start = s; end = e; infeasible = false }

-- An infeasible claim has no end pair.
abbrev pub infeasible_head : (start : ℕ) → HeadOfClaim
infeasible_head s = record { start = s; end = 0; infeasible = true }

abbrev pub head_seen : ClaimHead → HeadOfClaim
head_seen (heads.Live s e) = live_head s e
head_seen (heads.Infeasible s) = infeasible_head s

-- What a result says, seen as the definitions have it.
abbrev pub claim_head_told : Result ClaimHead ClaimFault → Answer HeadOfClaim
claim_head_told r = claim_told r then λ h. good (head_seen h)

abbrev pub path_told : Result declared_path.Path ClaimFault → Answer (List Bool)
path_told r = claim_told r then λ p. good (turns_of p)

abbrev pub told : Result declared.Claim ClaimFault → Answer Claim
told r = claim_told r then λ c. good (claim_of c)

-- The path at a place.
abbrev pub path_word : (which : ℕ) → List ℕ → (place : ℕ) → Answer (List Bool)
path_word which ws p = word_at 7 ws p then λ w. read_path which p w

-- The claim alone, without its substitution.
abbrev pub the_claim : Answer Proposed → Answer Claim
the_claim a = a then λ c. good c.claim
