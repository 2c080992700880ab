use Rattle.std.proofs.Common.{rules, ◌<◌, ◌-◌, length, get_or, arith, sym, ap, ◌∙◌}
use Rattle.std.specs.Bool.{then_some}
use Rattle.expression.specs.Words.{item_of, takes}
use Rattle.expression.proofs.Splits.{after, wants, takes_few, wants_more, wants_end, not_here, none_more, not_before_here, none_splits, split_here}
use Rattle.expression.proofs.shape.split_of.Goals as goal

pub loop-k-init : goal.loop-k-init
loop-k-init c =
    let end = wants_end c.args.words.now in
    (omega arith, omega arith, omega (arith, end), λ j le lt. absurd (omega arith))

pub overflow_add-wanted : goal.overflow_add-wanted
overflow_add-wanted c = search (rules)

pub overflow_sub-wanted : goal.overflow_sub-wanted
overflow_sub-wanted c = let p = c.loop-k.invariant.0 in omega arith

pub returns-then-wanted-eq0 : goal.returns-then-wanted-eq0
returns-then-wanted-eq0 c =
    let ws = c.args.words.now in
    let k = c.loop-k.k in
    let i = c.loop-k.invariant in
    let t = c.taken.ensures ∙ ap takes c.from.ensures in
    let more = wants_more ws k c.loop-k-test.true c.loop-k.auto.k in
    let none = c.if-wanted-eq0.true in
    let few : wants (after ws (k - 1)) < length ws - (k - 1) = omega (arith, i.0, i.2, t, more, none) in
    c.then_some.ensures ∙ ap (λ b. then_some b (k - 1)) c.splits_at.ensures
    ∙ split_here ws (k - 1) (omega arith) (λ j lt. not_before_here ws j (k - 1) lt (omega arith) few) (λ j lt h. i.3 j (omega arith) h)

pub loop-k-preserved : goal.loop-k-preserved
loop-k-preserved c =
    let ws = c.args.words.now in
    let k = c.loop-k.k in
    let i = c.loop-k.invariant in
    let t = c.taken.ensures ∙ ap takes c.from.ensures in
    let two = takes_few (item_of (get_or ws (k - 1) 0)) in
    let more = wants_more ws k c.loop-k-test.true c.loop-k.auto.k in
    let some = c.if-wanted-eq0.false in
    let here = not_here ws (k - 1) (omega (arith, i.0, i.2, t, more, some)) in
    (omega (arith, some), omega (arith, t, two, i.1), omega (arith, i.0, i.2, t, more), none_more ws k here i.3)

pub returns : goal.returns
returns c = sym (none_splits c.args.words.now (λ j lt. c.loop-k.invariant.3 j (omega arith) lt))
