use Rattle.std.proofs.Common.{rules}
use Rattle.proposal.specs.Places.{body_places}
use Rattle.proposal.proofs.pair.expressions_end.Goals as goal

pub returns-in_err-behind_first : goal.returns-in_err-behind_first
unfolding body_places
returns-in_err-behind_first c = λ m n h k. (let e = c.in_err-behind_first.ensures m h in search rules)

pub returns-in_err-behind_second : goal.returns-in_err-behind_second
unfolding body_places
returns-in_err-behind_second c = λ m n h k. (let e = c.in_ok-behind_first.ensures m h in let f = c.in_err-behind_second.ensures n k in search rules)

pub returns : goal.returns
unfolding body_places
returns c = λ m n h k. (let e = c.in_ok-behind_first.ensures m h in let f = c.in_ok-behind_second.ensures n k in search rules)
