-- The tree of turns from a pair, as the code goes through it.
use Rattle.std.specs.Prelude.{◌≡◌, ℕ, ◌^◌, ◌<◌, Bool, List, [], map, Option}
use Rattle.std.specs.Option.{option_map}
use Rattle.machine.specs.Tables.{table_machine}
use Rattle.proposal.specs.declared.claim.Path.{Path}
use Rattle.proposal.specs.declared.claim.Claim.{Claim}
use Rattle.proposal.specs.Claims.{turns_of, claim_of}
use Rattle.correspondence.specs.State.{Open, pair_at}
use Rattle.correspondence.specs.Coverage.{led, unmatched}

-- The turns of a path, if there is one.
abbrev pub path_seen : Option Path → Option (List Bool)
path_seen r = option_map turns_of r

-- A path has no turn behind its length.
abbrev pub Tidy : Path → Type 0
Tidy path = path.turns < 2 ^ path.length

-- These are the claims and the first table of an open comparison.
pub record Holds (b : Open) (claims : List Claim) (words : List ℕ) : Type 0 where
  pub claims_are : b.claims ≡ map claim_of claims
  pub machine_is : b.machine₁ ≡ table_machine words

-- From a path on, of which n turns more are looked at: the first that is unmatched, in whatever comparison has these claims and this table, where the path leads to this state.
abbrev pub Finds : (claims : List Claim) (words : List ℕ) (pair state : ℕ) (path : Path) (n : ℕ) → Option Path → Type 0
Finds claims words p s path n r = (b : Open) → Holds b claims words → led b.machine₁ (pair_at b p).state₁ (turns_of path) ≡ s → path_seen r ≡ unmatched b p n (turns_of path)

-- The first path of a pair that is unmatched, whose first machine is in this state.
abbrev pub Lacks : (claims : List Claim) (words : List ℕ) (pair state : ℕ) → Option Path → Type 0
Lacks claims words p s r = (b : Open) → Holds b claims words → (pair_at b p).state₁ ≡ s → path_seen r ≡ unmatched b p 17 []
