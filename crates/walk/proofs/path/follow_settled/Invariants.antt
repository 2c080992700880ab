use Rattle.std.proofs.Common.{◌≡◌}
use Rattle.workspace.specs.Views.{forms}
use Rattle.walk.proofs.Followed.{FollowingSettled}
use Rattle.walk.proofs.path.follow_settled.Given as goal

abbrev pub invariant-loop-index : goal.invariant-loop-index
invariant-loop-index g l =
    FollowingSettled g.D.Domain.ops l.side l.start.table.words.now l.path l.start.number l.known l.initial.outputs (forms l.initial.slots)
    l.index l.state.number l.outputs (forms l.slots)
    × (l.state.table ≡ l.start.table)
