-- What is printed. Each line consists of words and decimal figures, with single spaces between them; the line feed is not named here.
use Rattle.std.specs.Prelude.{ℕ, List, ◌++◌, codes, decimal}
use Rattle.records.specs.declared.file.Values.{Values}
use Rattle.records.specs.declared.file.Values.TheVariants as values
use Rattle.records.specs.declared.file.FileFault.{FileFault}
use Rattle.records.specs.declared.file.FileFault.TheVariants as faults
use Rattle.records.specs.declared.line.Line.{Line}
use Rattle.records.specs.declared.line.Line.TheVariants.{Opened, Pair, Claim, Refused, Equivalent, Unmatched, BadFile}

abbrev pub line_bytes : Line → List ℕ
line_bytes Opened = codes "opened"
line_bytes (Pair n) = codes "pair " ++ decimal n
line_bytes (Claim n) = codes "claim " ++ decimal n
line_bytes (Refused number machine place) = codes "refused " ++ (decimal number ++ (codes " " ++ (decimal machine ++ (codes " " ++ decimal place))))
line_bytes Equivalent = codes "equivalent"
line_bytes (Unmatched pair length turns) = codes "unmatched " ++ (decimal pair ++ (codes " " ++ (decimal length ++ (codes " " ++ decimal turns))))
line_bytes BadFile = codes "bad file"

-- The name of a domain.
abbrev pub values_bytes : Values → List ℕ
values_bytes values.Words = codes "words"
values_bytes values.Bytes = codes "bytes"

abbrev pub fault_bytes : FileFault → List ℕ
fault_bytes faults.BadFile = codes "bad file"
fault_bytes faults.NoMemory = codes "no memory"
