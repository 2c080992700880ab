-- The numbers of the domains.
use Rattle.std.specs.Prelude.{◌≡◌, ℕ, ◌<◌, Result, MatchResult}
use Rattle.records.specs.declared.file.Values.{Values}
use Rattle.records.specs.declared.file.Values.TheVariants.{Words, Bytes}
use Rattle.records.specs.declared.file.UnknownDomain.{UnknownDomain}

abbrev pub domain_number : Values → ℕ
domain_number Words = 0
domain_number Bytes = 1

-- The domain with this number, or an error with a number that no domain has.
abbrev pub NamesDomain : ℕ → Result Values UnknownDomain → Type 0
NamesDomain n r = MatchResult r (λ v. domain_number v ≡ n) (λ e. (e.0 ≡ n) × (1 < n))
