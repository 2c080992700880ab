use Rattle.std.proofs.Common.{arith}
use Rattle.forms.specs.Rows.{part}
use Rattle.forms.proofs.Scaling.{length_scaled}
use Rattle.forms.proofs.Turns.{length_part, step_back, turn, length_turn}
use Rattle.forms.proofs.product.multiply.Goals as goal

pub merge-m-requires-clause-room : goal.merge-m-requires-clause-room
merge-m-requires-clause-room g c =
    let n = length_scaled g.D.Domain.ops c.index-row-i.result (part c.args.b c.loop-i.row) in
    let m = length_part c.args.b c.loop-i.row in
    omega arith

pub loop-i-preserved : goal.loop-i-preserved
loop-i-preserved g c =
    let o = g.D.Domain.ops in
    let i = c.loop-i.invariant in
    let base = c.args.row.now in
    let x = c.index-row-i.result in
    let xs = part (record { from = c.loop-i.i; to = c.args.a.to }) base in
    let ys = part c.args.b base in
    let e = step_back c.args.at base c.loop-i.row c.loop-i.i c.args.a.to x i.0.kept (omega arith) (omega arith) c.requires.a.below (omega arith) c.index-row-i.is in
    let t = turn o c.args.at base c.loop-i.row c.scale-s.new.row c.merge-m.new.row c.copy-acc.new.row c.args.b c.loop-i.acc c.scale-s.result c.merge-m.result c.copy-acc.result x xs c.requires.b i.0 c.scale-s.ensures c.merge-m.ensures c.copy-acc.ensures.put in
    let n = length_turn o c.args.at base x xs ys in
    let m = length_part c.args.b base in
    (rw e t, omega arith, rw e (omega arith))
