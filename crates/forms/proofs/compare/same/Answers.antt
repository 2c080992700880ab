use Rattle.std.proofs.Common.{◌≡◌, Decides, rules, tests}
use Rattle.std.proofs.lemmas.Iterator.{YieldsList-from_slice, YieldsList-from_zip, same_from_all}
use Rattle.forms.proofs.Comparing.{same_by}
use Rattle.forms.proofs.compare.same.Goals as goal

pub returns-then-p-q : goal.returns-then-p-q
returns-then-p-q g c =
    let xs = c.args.p.now in
    let ys = c.args.q.now in
    let d : Decides c.all.result (xs ≡ ys) = same_from_all c.all.new.self _ _ _ _ c.all.ensures.ran (YieldsList-from_zip (YieldsList-from_slice xs cc) (YieldsList-from_slice ys cc)) (search rules) (λ x q k. search (rules, tests)) (λ x q k. search (rules, tests)) in
    record { is = same_by g.met.D.Domain.ring _ xs ys d; decides = d }

pub returns-else-p-q-clause-is : goal.returns-else-p-q-clause-is
returns-else-p-q-clause-is g c =
    same_by g.met.D.Domain.ring _ c.args.p.now c.args.q.now (search (rules, tests))
