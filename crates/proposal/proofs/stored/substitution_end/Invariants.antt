use Rattle.std.proofs.Common.{◌≡◌, ◌-◌}
use Rattle.proposal.specs.Reading.{all_stored, count_from}
use Rattle.proposal.specs.Places.{behind}
use Rattle.proposal.proofs.stored.substitution_end.Given as goal

abbrev pub invariant-loop-symbol : goal.invariant-loop-symbol
invariant-loop-symbol l = behind (all_stored 7 l.reader.limits (count_from l.symbol (l.symbols - l.symbol)) l.reader.words.now l.place) ≡ behind (all_stored 7 l.reader.limits (count_from 0 l.symbols) l.reader.words.now l.from)
