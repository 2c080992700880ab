use Rattle.domain.specs.Tables.{logs}
use Rattle.domain.specs.Rule.{log, log_lt, log_rule, log_zero}
use Rattle.domain.proofs.fips.logarithm.Goals as goal

pub returns : goal.returns
unfolding log logs
returns c =
    record { below = log_lt c.args.a c.ranges.a.fits; power = log_rule c.args.a c.ranges.a.fits; unused = log_zero c.args.a }
