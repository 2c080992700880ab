-- Where known tests are kept.
use Rattle.std.specs.Prelude.{ℕ}

-- the first slot of known tests
abbrev pub known_first : ℕ
known_first = 96
