use mathlib.Core.Path.{refl}
use Rattle.domain.specs.Fips.{byte_times, xtime}
use Rattle.domain.proofs.points.points_hold.Goals as goal

pub returns : goal.returns
unfolding byte_times xtime
returns c = record { product = refl; words_below = refl; bytes_not_below = refl }
