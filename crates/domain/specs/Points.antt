-- Worked points of the two domains.
use Rattle.std.specs.Prelude.{◌≡◌, Bool, true, false}
use Rattle.domain.specs.Ring.{Ops}
use Rattle.domain.specs.Fips.{byte_times}
use Rattle.domain.specs.Words.{word_ops}
use Rattle.domain.specs.Bytes.{byte_ops}

-- whether 0 - 1 is below 0
abbrev pub minus_one_below : {V : Type 0} → Ops V → Bool
minus_one_below o = o.below (o.add o.zero (o.neg o.one)) o.zero

pub record DomainPoints : Type 0 where
  -- hex 57 times 83 is c1
  pub product : byte_times 0x57 0x83 ≡ 0xc1
  -- 0 - 1 is below 0 over words, and not over bytes
  pub words_below : minus_one_below word_ops ≡ true
  pub bytes_not_below : minus_one_below byte_ops ≡ false
