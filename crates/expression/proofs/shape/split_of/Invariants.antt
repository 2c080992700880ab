use Rattle.std.proofs.Common.{◌≡◌, ℕ, ◌+◌, ◌-◌, ◌<◌, ◌≤◌, false, map, length, drop}
use Rattle.expression.specs.Words.{item_of}
use Rattle.expression.proofs.Splits.{both, wants}
use Rattle.expression.proofs.shape.split_of.Given as goal

abbrev pub invariant-loop-k : goal.invariant-loop-k
invariant-loop-k l =
    let ws = l.words in
    (0 < l.wanted) × (l.wanted ≤ 1 + (length ws - l.k)) × (l.wanted + (length ws - l.k) ≡ 1 + wants (map item_of (drop l.k ws))) × ((j : ℕ) → l.k ≤ j → j < length ws → both ws j ≡ false)
