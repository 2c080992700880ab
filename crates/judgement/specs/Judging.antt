-- A claim judged.
use Rattle.std.specs.Prelude.{◌≡◌, ℕ, Bool, List, length, Result}
use Rattle.domain.specs.Ring.{Ops}
use Rattle.expression.specs.declared.item.Item.{Item}
use Rattle.machine.specs.declared.words.Limits.{Limits}
use Rattle.machine.specs.Answer.{Answer, good, ◌then◌}
use Rattle.machine.specs.Machine.{Machine}
use Rattle.walk.specs.Walk.{in_order}
use Rattle.machine.specs.Tables.{table_machine}
use Rattle.proposal.specs.Proposal.{Pair}
use Rattle.proposal.specs.Reading.{read, all_stored, count_from}
use Rattle.rules.specs.declared.counts.Counts.{Counts}
use Rattle.correspondence.specs.Judgement.{live_rules, infeasible_rules}
use Rattle.rules.specs.Kept.{kept_pair}
use Rattle.judgement.specs.declared.fault.RuleFault.{RuleFault}
use Rattle.judgement.specs.Faults.{told_rule}

-- The words of a claim hold this substitution for the symbols of its end pair.
abbrev pub HoldsSubstitution : (c : Counts) (end claim : List ℕ) → List (List Item) → Type 0
HoldsSubstitution c end claim substitution = (l : Limits) × (all_stored 7 l (count_from 0 (kept_pair c end).symbols) claim 3 ≡ good (read substitution (length claim)))

-- The result is that of the rules, with whatever substitution the words of the claim hold.
abbrev pub JudgesRules : {D : Type 0} → Ops D → (first second : List ℕ) (c : Counts) (start end claim : List ℕ) (path₁ path₂ : List Bool) → Result (Unit {0}) RuleFault → Type 0
JudgesRules o first second c start end claim path₁ path₂ r = (substitution : List (List Item)) → HoldsSubstitution c end claim substitution → told_rule r ≡ live_rules o (table_machine first) (table_machine second) (kept_pair c start) (kept_pair c end) path₁ path₂ substitution

module _ {D : Type 0} (o : Ops D) where
  -- Impossible steps (12, first path first), and the rules.
  abbrev pub judged_live : (one two : Machine) (p q : Pair) (path₁ path₂ : List Bool) (substitution : List (List Item)) → Answer (Unit {0})
  judged_live one two p q path₁ path₂ substitution =
      in_order 1 one 0 p.state₁ path₁ then λ _.
      in_order 2 two 0 p.state₂ path₂ then λ _.
      live_rules o one two p q path₁ path₂ substitution

  abbrev pub judged_infeasible : (one : Machine) (p : Pair) (path₁ : List Bool) → Answer (Unit {0})
  judged_infeasible one p path₁ =
      in_order 1 one 0 p.state₁ path₁ then λ _.
      infeasible_rules o one p path₁

-- The same of the judgement.
abbrev pub JudgesLive : {D : Type 0} → Ops D → (first second : List ℕ) (c : Counts) (start end claim : List ℕ) (path₁ path₂ : List Bool) → Result (Unit {0}) RuleFault → Type 0
JudgesLive o first second c start end claim path₁ path₂ r = (substitution : List (List Item)) → HoldsSubstitution c end claim substitution → told_rule r ≡ judged_live o (table_machine first) (table_machine second) (kept_pair c start) (kept_pair c end) path₁ path₂ substitution
