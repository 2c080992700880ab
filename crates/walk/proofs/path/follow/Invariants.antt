use Rattle.std.proofs.Common.{◌≡◌}
use Rattle.workspace.specs.Views.{forms}
use Rattle.walk.proofs.Followed.{Following}
use Rattle.walk.proofs.path.follow.Given as goal

abbrev pub invariant-loop-turn : goal.invariant-loop-turn
invariant-loop-turn g l =
    Following g.D.Domain.ops l.side l.start.table.words.now l.path l.start.number l.initial.known l.initial.outputs (forms l.initial.slots)
    l.turn-index l.state.number l.known l.outputs (forms l.slots)
    × (l.state.table ≡ l.start.table)
