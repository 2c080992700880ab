use Rattle.std.proofs.Common.{◌≡◌, ◌++◌, take, drop}
use Rattle.forms.specs.Forms.{negation}
use Rattle.forms.proofs.rows.negate.Given as goal

abbrev pub invariant-loop-t : goal.invariant-loop-t
invariant-loop-t g l =
    let o = g.D.Domain.ops in
    take l.t-index l.t-items ++ negation o (drop l.t-index l.t-items) ≡ negation o l.initial.t-items
