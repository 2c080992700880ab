use Rattle.std.proofs.Common.{◌≡◌, ◌≤◌, map, drop}
use Rattle.expression.specs.Words.{item_of}
use Rattle.expression.specs.Shape.{lands}
use Rattle.expression.proofs.shape.is_expression.Given as goal

abbrev pub invariant-loop-w : goal.invariant-loop-w
invariant-loop-w l = (l.depth ≤ 8) × (lands l.depth (map item_of (drop l.w-index l.words)) ≡ lands 0 (map item_of l.words))
