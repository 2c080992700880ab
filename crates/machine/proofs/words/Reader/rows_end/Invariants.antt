use Rattle.std.proofs.Common.{◌≡◌, ◌≤◌, length}
use Rattle.machine.specs.Answer.{good}
use Rattle.machine.specs.Reading.{rows}
use Rattle.machine.proofs.words.Reader.rows_end.Given as goal

abbrev pub invariant-loop-row : goal.invariant-loop-row
invariant-loop-row l = (1 ≤ l.p) × (l.p ≤ length l.self.words.now) × (rows l.self.limits l.self.words.now l.row ≡ good l.p)
