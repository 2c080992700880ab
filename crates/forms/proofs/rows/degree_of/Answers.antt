use Rattle.std.proofs.Common.{ap, ◌∙◌, rules, tests}
use Rattle.std.specs.Option.{unwrap_or}
use Rattle.std.proofs.lemmas.Iterator.{YieldsList-from_slice, YieldsList-from_map}
use Rattle.std.proofs.lemmas.Iterator.Consumers.{reduce_from_yields_List}
use Rattle.std.proofs.lemmas.List.Folds.{max_of_map}
use Rattle.forms.specs.Monomials.{degree}
use Rattle.forms.proofs.Digits.{top_fold}
use Rattle.forms.proofs.rows.degree_of.Goals as goal

pub returns-clause-top : goal.returns-clause-top
returns-clause-top g c =
    let xs = c.args.terms.now in
    let e = reduce_from_yields_List _ c.map.result c.max.result c.max.ensures.ran (YieldsList-from_map _ (λ t. degree t.monomial) (YieldsList-from_slice xs cc) c.map.ensures.closure (λ x r q k. search (rules, tests))) in
    c.unwrap_or.ensures ∙ ap (λ r. unwrap_or r 0) e ∙ max_of_map (λ t. degree t.monomial) xs ∙ top_fold xs
