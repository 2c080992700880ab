use Rattle.std.proofs.Common.{◌≡◌, sym, ap, ◌∙◌, subst}
use Rattle.proposal.specs.declared.pair.PairHead.{PairHead}
use Rattle.proposal.specs.Reading.{pair_head}
use Rattle.proposal.specs.Places.{head_of}
use Rattle.rules.specs.Kept.{kept_pair}
use Rattle.judgement.specs.Walks.{StandsAt, head_at}
use Rattle.judgement.proofs.Standing.{stands}
use Rattle.judgement.proofs.states.states_of.Goals as goal

pub returns : goal.returns
returns c =
    let is : c.from.result ≡ head_at c.args.pair.now = c.from.ensures ∙ ap (λ n. head_of (pair_head n)) c.number_at.ensures in
    let P : PairHead → Type 0 = λ h. StandsAt h (kept_pair c.args.counts c.args.pair.now) in
    subst P (sym is) (stands c.args.counts c.args.pair.now c.requires)
