use Rattle.std.proofs.Common.{◌≡◌}
use Rattle.walk.proofs.Ordered.{Ordering}
use Rattle.walk.proofs.order.check_order.Given as goal

abbrev pub invariant-loop-index : goal.invariant-loop-index
invariant-loop-index l = Ordering l.start.table.words.now l.path l.start.number l.index l.state.number × (l.state.table ≡ l.start.table)
