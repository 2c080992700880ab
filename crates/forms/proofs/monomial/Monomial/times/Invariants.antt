use Rattle.std.proofs.Common.{◌≡◌, ◌-◌, ◌^◌, ◌<◌}
use Rattle.forms.specs.Monomials.{K, merged_codes}
use Rattle.forms.proofs.monomial.Monomial.times.Given as goal

abbrev pub invariant-loop : goal.invariant-loop
invariant-loop l = (merged_codes K (K - l.counter) l.x l.y l.out ≡ merged_codes K K l.initial.x l.initial.y 0) × (l.out < 256 ^ l.counter)
