use Rattle.std.proofs.Common.{◌≡◌, replicate}
use Rattle.samples.specs.Samples.{zero_term}
use Rattle.samples.proofs.zero_terms.Given as goal

abbrev pub invariant-loop : goal.invariant-loop
invariant-loop g l = l.terms.items ≡ replicate l.counter (zero_term g.D.Domain.ops)
