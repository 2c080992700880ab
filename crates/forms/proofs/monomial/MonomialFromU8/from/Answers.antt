use Rattle.std.proofs.Common.{◌≡◌, ◌*◌, ◌%◌, arith}
use Rattle.forms.specs.Monomials.{K}
use Rattle.forms.proofs.monomial.MonomialFromU8.from.Goals as goal

pub returns : goal.returns
unfolding K
returns c =
    let e : (c.args.code * 16777216) % 4294967296 ≡ c.args.code * 16777216 = omega arith in
    λ i. record { 0 = e i }
