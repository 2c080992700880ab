use Rattle.std.proofs.Common.{arith, rules}
use Rattle.proposal.proofs.Stores.{counted_more, counted_end}
use Rattle.proposal.proofs.stored.substitution_end.Goals as goal

pub returns-in_err-place : goal.returns-in_err-place
returns-in_err-place c =
    let e = counted_more 7 c.args.reader.now.limits c.args.reader.now.words.now c.loop-symbol.symbol c.args.symbols c.loop-symbol.place (omega arith) in
    let f = c.in_err-place.ensures.reads 7 in search rules

pub loop-symbol-preserved : goal.loop-symbol-preserved
loop-symbol-preserved c =
    let e = counted_more 7 c.args.reader.now.limits c.args.reader.now.words.now c.loop-symbol.symbol c.args.symbols c.loop-symbol.place (omega arith) in
    let f = c.in_ok-place.ensures.reads 7 in search rules

pub returns : goal.returns
returns c = let e = counted_end 7 c.args.reader.now.limits c.args.reader.now.words.now c.args.symbols c.loop-symbol.place in search rules
