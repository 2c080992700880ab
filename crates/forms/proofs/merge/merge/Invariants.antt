use Rattle.std.proofs.Common.{◌≡◌, ◌+◌, ◌≤◌, ◌++◌, length, take}
use Rattle.forms.specs.Forms.{added}
use Rattle.forms.proofs.merge.merge.Given as goal

abbrev pub invariant-loop-p : goal.invariant-loop-p
invariant-loop-p g l =
    let o = g.D.Domain.ops in
    (take l.n l.target ++ added o l.p l.q ≡ added o l.initial.p l.initial.q) × (l.n + (length l.p + length l.q) ≤ length l.target)

abbrev pub decreases-loop-p : goal.decreases-loop-p
decreases-loop-p g l = length l.p + length l.q
