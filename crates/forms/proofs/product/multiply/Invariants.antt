use Rattle.std.proofs.Common.{◌-◌, ◌*◌, ◌≤◌, length}
use Rattle.forms.specs.Rows.{part, Put}
use Rattle.forms.specs.Forms.{multiplied}
use Rattle.forms.proofs.product.multiply.Given as goal

abbrev pub invariant-loop-i : goal.invariant-loop-i
invariant-loop-i g l =
    let o = g.D.Domain.ops in
    let base = l.initial.row in
    let out = multiplied o (part (record { from = l.i; to = l.fn.a.to }) base) (part l.b base) in
    Put l.at base out l.row l.acc × (l.fn.a.from ≤ l.i) × (length out ≤ 16 * (l.fn.a.to - l.i))
