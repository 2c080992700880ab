-- One more fact of a row of them.
use Rattle.std.proofs.Common.{◌≡◌, ℕ, suc, ◌+◌, ◌-◌, ◌<◌, List, ◌∷◌, arith}
use Rattle.machine.specs.declared.words.Limits.{Limits}
use Rattle.machine.specs.Answer.{good, ◌then◌}
use Rattle.proposal.specs.Reading.{read_fact, read_facts}
use Rattle.proposal.specs.Places.{behind}
use Rattle.proposal.proofs.Chain.{behind_both}

module _ (l : Limits) (ws : List ℕ) where
  one_more : (m p : ℕ) → behind (read_facts l (suc m) ws p) ≡ (behind (read_fact l ws p) then λ q. behind (read_facts l m ws q))
  unfolding read_facts
  one_more m p = behind_both (read_fact l ws p) (λ q. read_facts l m ws q) (λ x y. x.value ∷ y.value)

  pub facts_more : (i m p : ℕ) → i < m → behind (read_facts l (m - i) ws p) ≡ (behind (read_fact l ws p) then λ q. behind (read_facts l (m - (i + 1)) ws q))
  facts_more i m p h = let one : m - i ≡ suc (m - (i + 1)) = omega arith in rw one (one_more (m - (i + 1)) p)

  pub facts_all : (m p : ℕ) → behind (read_facts l (m - m) ws p) ≡ good p
  unfolding read_facts
  facts_all m p = let z : m - m ≡ 0 = omega arith in rw z
