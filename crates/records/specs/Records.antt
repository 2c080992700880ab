-- The types of records.
use Rattle.std.specs.Prelude.{ℕ}
use Rattle.records.specs.declared.record.RecordType.{RecordType}
use Rattle.records.specs.declared.record.RecordType.TheVariants.{Start, FirstTable, SecondTable, Pair, Claim}

-- The upper half of the first word of a record.
abbrev pub mark : RecordType → ℕ
mark Start = 0xF000
mark FirstTable = 0xF100
mark SecondTable = 0xF200
mark Pair = 0xF300
mark Claim = 0xF400
