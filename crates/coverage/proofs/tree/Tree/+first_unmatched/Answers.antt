use Rattle.std.proofs.Common.{None, Some, ◌-◌, rules}
use Rattle.coverage.proofs.Searching.{in_table, at_depth, when_filed, when_not_begun, when_yes, when_straight, when_no}
use Rattle.coverage.proofs.tree.Tree.+first_unmatched.Goals as goal

pub returns-then-left-eq0-clause-found : goal.returns-then-left-eq0-clause-found
returns-then-left-eq0-clause-found t c = search (rules, at_depth)

pub returns-then-any_match-clause-found : goal.returns-then-any_match-clause-found
returns-then-any_match-clause-found t c = search (rules, when_filed)

pub returns-then-not-any_match-clause-found : goal.returns-then-not-any_match-clause-found
returns-then-not-any_match-clause-found t c = search (rules, when_not_begun)

pub returns-in-Some-clause-found : goal.returns-in-Some-clause-found
returns-in-Some-clause-found t c =
    let found = in_table c.args.self.now.claims.now c.args.self.now.pair c.in_ok-yes.yes.number c.extended.result (c.args.left - 1) (Some c.in-Some.found) _ _ c.in_ok-yes.ensures.table c.in-Some.ensures.found in
    when_yes _ _ _ _ _ _ (search rules) c.if-any_match.ensures c.if-not-any_match.ensures _ _ c.in_ok-yes.ensures.target c.extended.ensures.turns _ found

pub returns-in_err-no-clause-found : goal.returns-in_err-no-clause-found
returns-in_err-no-clause-found t c =
    let nothing = in_table c.args.self.now.claims.now c.args.self.now.pair c.in_ok-yes.yes.number c.extended.result (c.args.left - 1) None _ _ c.in_ok-yes.ensures.table c.in_default.ensures.found in
    rw c.from_residual-in_err-no.ensures
    (when_straight _ _ _ _ _ _ (search rules) c.if-any_match.ensures c.if-not-any_match.ensures _ _ c.in_ok-yes.ensures.target c.extended.ensures.turns nothing c.in_err-no.ensures.target)

pub returns-clause-found : goal.returns-clause-found
returns-clause-found t c =
    let nothing = in_table c.args.self.now.claims.now c.args.self.now.pair c.in_ok-yes.yes.number c.extended.result (c.args.left - 1) None _ _ c.in_ok-yes.ensures.table c.in_default.ensures.found in
    let found = in_table c.args.self.now.claims.now c.args.self.now.pair c.in_ok-no.no.number c.extended-2.result (c.args.left - 1) c.first_unmatched-2.result _ _ c.in_ok-no.ensures.table c.first_unmatched-2.ensures.found in
    when_no _ _ _ _ _ _ (search rules) c.if-any_match.ensures c.if-not-any_match.ensures _ _ c.in_ok-yes.ensures.target c.extended.ensures.turns nothing _ _ _ c.in_ok-no.ensures.target c.extended-2.ensures.turns found
