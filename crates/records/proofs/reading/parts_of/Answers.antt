use Rattle.std.proofs.Common.{rules}
use Rattle.std.proofs.lemmas.List.{map-append}
use Rattle.records.specs.Files.{seen_next}
use Rattle.records.proofs.Parts.{next_shorter, parts_more, parts_end, parts_bad}
use Rattle.records.proofs.reading.parts_of.Goals as goal

pub returns-in_err-part : goal.returns-in_err-part
returns-in_err-part c = search (rules, parts_bad)

pub loop-rest-smaller : goal.loop-rest-smaller
loop-rest-smaller c = search (rules, next_shorter)

pub loop-rest-preserved : goal.loop-rest-preserved
loop-rest-preserved c =
    rw (c.in_ok-push.ensures.items, map-append)
    (parts_more c.args.words.now _ c.loop-rest.rest.now (seen_next c.in_ok-part.field-0) (search rules) c.in_ok-part.ensures c.loop-rest.invariant)

pub returns : goal.returns
returns c = search (rules, parts_end)
