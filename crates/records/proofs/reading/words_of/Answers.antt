use Rattle.std.proofs.Common.{rules}
use Rattle.records.proofs.Scanning.{words_read, words_odd}
use Rattle.records.proofs.reading.words_of.Goals as goal

pub returns-then-not-is_empty : goal.returns-then-not-is_empty
returns-then-not-is_empty c = search (rules, words_odd)

pub returns : goal.returns
returns c = search (rules, words_read)
