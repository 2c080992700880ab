use Rattle.domain.specs.Tables.{powers}
use Rattle.domain.specs.Rule.{power, power_rule}
use Rattle.domain.proofs.fips.power.Goals as goal

pub returns : goal.returns
unfolding power powers
returns c = power_rule c.args.k c.requires
