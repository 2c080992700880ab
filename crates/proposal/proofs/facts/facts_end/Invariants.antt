use Rattle.std.proofs.Common.{◌≡◌, ◌-◌}
use Rattle.proposal.specs.Reading.{read_facts}
use Rattle.proposal.specs.Places.{behind}
use Rattle.proposal.proofs.facts.facts_end.Given as goal

abbrev pub invariant-loop-i : goal.invariant-loop-i
invariant-loop-i l = behind (read_facts l.reader.limits (l.facts - l.i) l.reader.words.now l.place) ≡ behind (read_facts l.reader.limits l.facts l.reader.words.now l.from)
