use Rattle.std.proofs.Common.{◌≡◌, ◌≤◌, ◌++◌, length, take, drop}
use Rattle.forms.specs.Forms.{scaled}
use Rattle.forms.proofs.product.scale.Given as goal

abbrev pub invariant-loop-y : goal.invariant-loop-y
invariant-loop-y g l =
    let o = g.D.Domain.ops in
    (take l.n l.target ++ scaled o l.x (drop l.y-index l.y-items) ≡ scaled o l.x l.y-items) × (l.n ≤ l.y-index) × (length l.y-items ≤ length l.target)
