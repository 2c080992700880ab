-- What an open comparison holds.
use Rattle.std.specs.Prelude.{ℕ, ◌+◌, List, [], ◌∷◌, ◌++◌, length, slice_index_or}
use Rattle.machine.specs.declared.head.Head.{Head}
use Rattle.machine.specs.Machine.{Machine}
use Rattle.proposal.specs.Proposal.{Pair, opening_pair, Claim}

-- An open comparison: two machines, how many registers they share, what was filed, and how many words the filed pairs had.
pub record Open : Type 0 where
  pub machine₁ : Machine
  pub machine₂ : Machine
  pub shared : ℕ
  pub pairs : List Pair
  pub claims : List Claim
  pub words : ℕ

abbrev pub first_pair : Open → Pair
first_pair b = opening_pair b.shared b.machine₁.registers b.machine₂.registers

abbrev pub pair_at : Open → ℕ → Pair
pair_at b p = slice_index_or b.pairs p (first_pair b)

abbrev pub with_pair : Open → Pair → (words : ℕ) → Open
with_pair b q words = record { machine₁ = b.machine₁; machine₂ = b.machine₂; shared = b.shared; pairs = b.pairs ++ (q ∷ []); claims = b.claims; words = b.words + words }

abbrev pub with_claim : Open → Claim → Open
with_claim b c = record { machine₁ = b.machine₁; machine₂ = b.machine₂; shared = b.shared; pairs = b.pairs; claims = b.claims ++ (c ∷ []); words = b.words }

-- The counts of a machine, as the head of its table has them.
abbrev pub counts_of : Machine → Head
counts_of m = record { states = length m.rows; registers = m.registers; inputs = m.inputs }

-- How many symbols each filed pair has.
abbrev pub symbols_of : List Pair → List ℕ
symbols_of [] = []
symbols_of (q ∷ pairs) = q.symbols ∷ symbols_of pairs
