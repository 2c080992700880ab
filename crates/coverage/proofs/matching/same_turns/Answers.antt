use Rattle.std.proofs.Common.{◌≡◌, ◌≤◌, ◌^◌, eqb, sym, ◌∙◌, ap₂, arith}
use Rattle.std.proofs.Math.Nat.{mod-eq_of_lt}
use Rattle.std.proofs.Math.Pow.{pow_mono}
use Rattle.std.proofs.lemmas.Nat.{one_shl}
use Rattle.coverage.proofs.Agreeing.{turns_below}
use Rattle.coverage.proofs.matching.same_turns.Goals as goal

pub returns-in-Some : goal.returns-in-Some
returns-in-Some c =
    let is : c.in-Some.behind ≡ 2 ^ c.args.count = c.in-Some.ensures.1 ∙ one_shl c.args.count 32 c.in-Some.ensures.0 in
    rw is (sym (turns_below c.args.count c.args.one c.args.two))

pub returns-in-None : goal.returns-in-None
returns-in-None c =
    let wide : 2 ^ 32 ≤ 2 ^ c.args.count = pow_mono {i = 32} {j = c.args.count} (omega (arith, c.in-None.ensures)) in
    sym (turns_below c.args.count c.args.one c.args.two ∙ ap₂ eqb (mod-eq_of_lt (omega arith)) (mod-eq_of_lt (omega arith)))
