use Rattle.std.proofs.Common.{◌≡◌, ℕ, ◌+◌, ◌^◌, ◌<◌}
use lib.Count.{ones}
use Rattle.proposal.specs.Reading.{all_stored, bits, due}
use Rattle.proposal.specs.Places.{behind}
use Rattle.proposal.proofs.stored.masked_end.Given as goal

abbrev pub invariant-loop-i : goal.invariant-loop-i
invariant-loop-i l =
    (l.i + ones l.left ≡ ones l.mask) × ((n : ℕ) → l.mask < 2 ^ n → (l.left < 2 ^ n) × (behind (all_stored 6 l.reader.limits (due (bits n l.left) 0) l.reader.words.now l.place) ≡ behind (all_stored 6 l.reader.limits (due (bits n l.mask) 0) l.reader.words.now l.from)))
