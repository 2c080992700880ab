use mathlib.Core.Path.{sym, ap, ◌∙◌}
use mathlib.Core.Logic.{⊎_elim}
use native.Mathlib.Omega.{arith}
use Rattle.domain.specs.Fips.{byte_times}
use Rattle.domain.specs.Shifts.{zero_byte_times, byte_times_zero}
use Rattle.domain.specs.Products.{logs_byte_times}
use Rattle.domain.proofs.fips.product.Goals as goal

pub returns-then-a-eq0 : goal.returns-then-a-eq0
returns-then-a-eq0 c =
    ⊎_elim (λ e. sym (ap (λ w. byte_times w c.args.b) e ∙ zero_byte_times c.args.b))
    (λ e. sym (ap (byte_times c.args.a) e.1 ∙ byte_times_zero c.args.a)) c.then-a-eq0.either

pub returns : goal.returns
returns c =
    c.power.ensures
    ∙ logs_byte_times c.args.a c.args.b _ _ (c.logarithm.ensures.power (omega arith)) (c.logarithm-2.ensures.power (omega arith))
