use Rattle.std.proofs.Common.{◌∙◌, rules, tests}
use Rattle.std.proofs.lemmas.Iterator.{YieldsList-from_slice}
use Rattle.std.proofs.lemmas.Iterator.Search.{any_from_yields_List}
use Rattle.proposal.specs.Claims.{turns_of, claim_of}
use Rattle.coverage.specs.Matching.{is_longer, matches}
use Rattle.coverage.proofs.Agreeing.{any_filed}
use Rattle.coverage.proofs.matching.any_match.Goals as goal

pub returns : goal.returns
returns c =
    let test = matches (is_longer c.args.along) c.args.pair (turns_of c.args.path) in
    any_from_yields_List (λ x. test (claim_of x)) _ _ _ c.any.ensures.ran (YieldsList-from_slice c.args.claims.now cc) (λ x b q k. search (rules, tests))
    ∙ any_filed test c.args.claims.now
