use Rattle.std.proofs.Common.{refl, ◌∙◌, rules, tests, arith}
use Rattle.std.proofs.lemmas.Iterator.{YieldsList-from_range}
use Rattle.std.proofs.lemmas.Iterator.Search.{any_from_yields_List}
use Rattle.workspace.specs.Views.{forms}
use Rattle.walk.specs.Settled.{twin}
use Rattle.walk.specs.Seen.{known_at, at_hand}
use Rattle.walk.proofs.Looking.{any_seen}
use Rattle.walk.proofs.settling.is_known.Goals as goal

pub returns : goal.returns
returns g c =
    let fs = forms c.args.slots.now in
    let known = c.args.known.now in
    let test = twin g.D.Domain.ops (at_hand fs c.args.asked) in
    any_from_yields_List (λ j. test (known_at known.items fs j)) _ _ _ c.any.ensures.ran (YieldsList-from_range 0 known.count known.count refl (omega arith)) (λ x b q k. search (rules, tests))
    ∙ any_seen test known.items fs 0 known.count
