use Rattle.std.proofs.Common.{◌≡◌, length}
use Rattle.records.specs.Files.{parts_of, before, seen_parts}
use Rattle.records.proofs.reading.parts_of.Given as goal

abbrev pub invariant-loop-rest : goal.invariant-loop-rest
invariant-loop-rest l = parts_of l.words ≡ before (seen_parts l.parts) (parts_of l.rest)

abbrev pub decreases-loop-rest : goal.decreases-loop-rest
decreases-loop-rest l = length l.rest
