use Rattle.std.proofs.Common.{◌^◌, ◌<◌, arith, rules}
use lib.Count.{ones}
use Rattle.proposal.proofs.Walk.{ones_positive, ones_cleared, no_ones, cleared_below}
use Rattle.proposal.proofs.Stores.{masked_more, masked_end}
use Rattle.proposal.proofs.stored.masked_end.Goals as goal

pub returns-in_err-place : goal.returns-in_err-place
returns-in_err-place c = λ n h.
    (let some : 0 < ones c.loop-i.left = omega arith in
    let short : c.loop-i.left < 2 ^ 32 = (c.loop-i.invariant.1 32 (omega arith)).0 in
    let inv = c.loop-i.invariant.1 n h in
    let e = masked_more 6 c.args.reader.now.limits c.args.reader.now.words.now n c.loop-i.left c.loop-i.place (ones_positive c.loop-i.left some) short inv.0 in
    let f = c.in_err-place.ensures.reads 6 in search rules)

pub loop-i-preserved : goal.loop-i-preserved
loop-i-preserved c =
    let some : 0 < ones c.loop-i.left = omega arith in
    let short : c.loop-i.left < 2 ^ 32 = (c.loop-i.invariant.1 32 (omega arith)).0 in
    let positive = ones_positive c.loop-i.left some in
    let fewer = ones_cleared 32 c.loop-i.left positive short in (
      omega arith,
      λ n h.
          (let inv = c.loop-i.invariant.1 n h in
          let e = masked_more 6 c.args.reader.now.limits c.args.reader.now.words.now n c.loop-i.left c.loop-i.place positive short inv.0 in
          let f = c.in_ok-place.ensures.reads 6 in (cleared_below c.loop-i.left (2 ^ n) inv.0, search rules)),
    )

pub returns : goal.returns
returns c = λ n h.
    (let short : c.loop-i.left < 2 ^ 32 = (c.loop-i.invariant.1 32 (omega arith)).0 in
    let inv = c.loop-i.invariant.1 n h in
    let e = masked_end 6 c.args.reader.now.limits c.args.reader.now.words.now n c.loop-i.left c.loop-i.place (no_ones c.loop-i.left short (omega arith)) in search rules)
