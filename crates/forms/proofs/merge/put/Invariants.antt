use Rattle.std.proofs.Common.{◌≡◌, ◌+◌, ◌++◌, take, drop}
use Rattle.forms.proofs.merge.put.Given as goal

abbrev pub invariant-loop-t : goal.invariant-loop-t
invariant-loop-t g l =
    (take l.n l.row ++ drop l.t-index l.terms ≡ take l.at l.initial.row ++ l.terms) × (l.n ≡ l.at + l.t-index)
