use Rattle.std.proofs.Common.{◌≡◌, ℕ, ◌<◌, ◌≤◌, false, slice_index}
use Rattle.machine.specs.Words.{stops}
use Rattle.machine.proofs.words.Reader.ending_at.Given as goal

abbrev pub invariant-loop-place : goal.invariant-loop-place
invariant-loop-place l = (k : ℕ) → l.from ≤ k → k < l.place → stops l.self.limits (slice_index l.words k) ≡ false
