-- Claims whose first path is a given one, or goes on behind it.
use Rattle.std.specs.Prelude.{ℕ, zero, suc, ◌/◌, ◌%◌, Bool, true, false, cond, ◌&&◌, List, map, ◌==◌}
use Rattle.std.specs.Bool.{beq}
use Rattle.walk.specs.Settled.{any}
use Rattle.proposal.specs.declared.claim.Path.{Path}
use Rattle.proposal.specs.declared.claim.Claim as declared
use Rattle.proposal.specs.declared.claim.Claim.TheVariants as variants
use Rattle.proposal.specs.Proposal.{Claim}
use Rattle.proposal.specs.Claims.{turns_of, claim_of}
use Rattle.coverage.specs.declared.matching.Along.{Along}
use Rattle.coverage.specs.declared.matching.Along.TheVariants.{Itself, Longer}
use Rattle.correspondence.specs.Coverage.{is_path, begins, claim_start, claim_path}

-- The first n turns are the same.
abbrev pub same_turns : (n : ℕ) → (v w : ℕ) → Bool
same_turns zero v w = true
same_turns (suc n) v w = beq (v % 2 == 1) (w % 2 == 1) && same_turns n (v / 2) (w / 2)

-- The start pair of a claim, and its first path.
abbrev pub start_of : declared.Claim → ℕ
start_of (variants.Live start end first second) = start
start_of (variants.Infeasible start first) = start

abbrev pub path_of : declared.Claim → Path
path_of (variants.Live start end first second) = first
path_of (variants.Infeasible start first) = first

-- Whether longer paths are asked for.
abbrev pub is_longer : Along → Bool
is_longer Itself = false
is_longer Longer = true

-- A claim from this pair along this path, or, if so asked, along a longer one that begins with it.
abbrev pub matches : (longer : Bool) → (pair : ℕ) → List Bool → Claim → Bool
matches longer p path c = claim_start c == p && cond longer (begins path (claim_path c)) (is_path path (claim_path c))

abbrev pub any_matches : (longer : Bool) → List declared.Claim → (pair : ℕ) → Path → Bool
any_matches longer claims p path = any (matches longer p (turns_of path)) (map claim_of claims)
