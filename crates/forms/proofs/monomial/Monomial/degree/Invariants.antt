use Rattle.std.proofs.Common.{◌≡◌, ◌+◌, ◌-◌, ◌≤◌}
use Rattle.forms.specs.Monomials.{K, filled}
use Rattle.forms.proofs.monomial.Monomial.degree.Given as goal

abbrev pub invariant-loop : goal.invariant-loop
invariant-loop l = (l.count + filled K (K - l.counter) l.word ≡ filled K K l.initial.word) × (l.count ≤ l.counter)
