use Rattle.std.proofs.Common.{refl}
use Rattle.domain.specs.Fips.{byte_times, xtime}
use Rattle.expression.specs.Run.{meaning}
use Rattle.forms.specs.Monomials.{K, degree, times_word}
use Rattle.forms.specs.Forms.{sum, difference, product, constant_form, variable}
use Rattle.forms.proofs.points.points_hold.Goals as goal

pub returns : goal.returns
unfolding meaning sum difference product constant_form variable K degree times_word byte_times xtime
returns c = record {
  squares_words = refl;
  squares_bytes = refl;
  fourth_words = refl;
  fourth_bytes = refl;
  fifth_words = refl;
  fifth_bytes = refl;
  domains = c.points_hold.ensures;
}
