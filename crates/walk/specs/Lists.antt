-- The lists of a walk: at most 24 known tests, 16 outputs by their ports, and 8 stores that wait by their registers.
use Rattle.std.specs.Prelude.{ℕ}
use Rattle.walk.specs.declared.bounded.Bounded.{Bounded}
use Rattle.walk.specs.declared.known.Noted.{Noted}

abbrev pub KnownTests : Type 0
KnownTests = Bounded Noted 24

abbrev pub Outputs : Type 0
Outputs = Bounded ℕ 16

abbrev pub Pending : Type 0
Pending = Bounded ℕ 8
