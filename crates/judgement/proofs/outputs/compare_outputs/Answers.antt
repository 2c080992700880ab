use Rattle.std.proofs.Common.{◌≡◌, ℕ, Bool, true, false, None, Some, arith, rules, tests}
use Rattle.std.proofs.lemmas.Iterator.{first_from_Range}
use Rattle.workspace.specs.Views.{forms}
use Rattle.judgement.specs.Seen.{output_at, same_output}
use Rattle.judgement.proofs.Emitted.{same_below, not_same, as_many, uneven}
use Rattle.judgement.proofs.outputs.compare_outputs.Goals as goal

pub returns-in-Some : goal.returns-in-Some
returns-in-Some g c =
    let o = g.D.Domain.ops in
    let fs = forms c.args.slots.now in
    let one = c.args.first.now in
    let two = c.args.second.now in
    let same : ℕ → Bool = λ j. same_output o (output_at one.items fs 64 j) (output_at two.items fs 80 j) in
    let (l, lt, differs, before) = first_from_Range _ _ _ (Some c.in-Some.j) (λ j. same j ≡ false) (λ j. same j ≡ true) c.in-Some.ensures.ran (λ x q k. search (rules, tests)) (λ x q k. search (rules, tests)) in
    not_same o one.items two.items fs one.count two.count c.in-Some.j (omega arith) (omega arith) differs (same_below o one.items two.items fs one.count two.count c.in-Some.j (omega arith) (omega arith) before)

pub returns-then-first-second : goal.returns-then-first-second
returns-then-first-second g c =
    let o = g.D.Domain.ops in
    let fs = forms c.args.slots.now in
    let one = c.args.first.now in
    let two = c.args.second.now in
    let n = c.min-common.result in
    let same : ℕ → Bool = λ j. same_output o (output_at one.items fs 64 j) (output_at two.items fs 80 j) in
    let all = first_from_Range _ _ _ None (λ j. same j ≡ false) (λ j. same j ≡ true) c.in_default.ensures.ran (λ x q k. search (rules, tests)) (λ x q k. search (rules, tests)) in
    as_many o one.items two.items fs one.count two.count n (omega arith) (omega arith) (same_below o one.items two.items fs one.count two.count n (omega arith) (omega arith) all)

pub returns-else-first-second : goal.returns-else-first-second
returns-else-first-second g c =
    let o = g.D.Domain.ops in
    let fs = forms c.args.slots.now in
    let one = c.args.first.now in
    let two = c.args.second.now in
    let n = c.min-common.result in
    let same : ℕ → Bool = λ j. same_output o (output_at one.items fs 64 j) (output_at two.items fs 80 j) in
    let all = first_from_Range _ _ _ None (λ j. same j ≡ false) (λ j. same j ≡ true) c.in_default.ensures.ran (λ x q k. search (rules, tests)) (λ x q k. search (rules, tests)) in
    uneven o one.items two.items fs one.count two.count n (omega arith) (omega arith) (omega arith) c.if-first-second.false (same_below o one.items two.items fs one.count two.count n (omega arith) (omega arith) all)
