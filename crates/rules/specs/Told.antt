-- What the judgement tells of the start and the end of a claim.
use Rattle.std.specs.Prelude.{◌≡◌, ℕ, List, length, Ok, Err, Result}
use Rattle.domain.specs.Ring.{Ops}
use Rattle.expression.specs.declared.item.Item.{Item}
use Rattle.forms.specs.Forms.{Form}
use Rattle.machine.specs.declared.words.Limits.{Limits}
use Rattle.machine.specs.Which.{which_number}
use Rattle.machine.specs.Answer.{Answer, good, refused, ◌then◌, Figures, told_by}
use Rattle.proposal.specs.Reading.{read, all_stored, count_from}
use Rattle.walk.specs.Walk.{Track}
use Rattle.walk.specs.Lists.{KnownTests}
use Rattle.walk.specs.Seen.{kept_seen, known_seen}
use Rattle.rules.specs.declared.counts.Counts.{Counts}
use Rattle.rules.specs.declared.fault.EndFault.{EndFault}
use Rattle.rules.specs.declared.fault.EndFault.TheVariants.{OverLimits, Register, Fact}
use Rattle.correspondence.specs.Judgement.{Started, end_holds}
use Rattle.rules.specs.Kept.{kept_pair}

-- The registers of both machines in their slots, and what is known.
abbrev pub told_started : {D E : Type 0} → (o : Ops D) → Result KnownTests E → List (Form D) → Counts → Answer (Started o)
told_started o (Ok known) fs c = good (record { registers₁ = kept_seen fs 0 c.one.registers; registers₂ = kept_seen fs 16 c.two.registers; known = known_seen known.items fs 0 known.count })
told_started o (Err e) fs c = refused 11 0 0

abbrev pub end_figures : EndFault → Figures
end_figures OverLimits = record { number = 11; machine = 0; place = 0 }
end_figures (Register machine register) = record { number = 17; machine = which_number machine; place = register }
end_figures (Fact place) = record { number = 18; machine = 0; place = place }

abbrev pub told_end : {X : Type 0} → Result X EndFault → Answer X
told_end r = told_by end_figures r

-- What was found on the way through a check.
abbrev pub found_by : {X : Type 0} → Answer (Unit {0}) → X → Answer X
found_by a x = a then λ _. good x

-- The words of a claim from the fourth on were read as a substitution for n symbols.
pub record Substituted (n : ℕ) (ws : List ℕ) : Type 0 where
  pub limits : Limits
  pub substitution : List (List Item)
  pub read_all : all_stored 7 limits (count_from 0 n) ws 3 ≡ good (read substitution (length ws))

-- The end pair is judged by its rules, whatever walks led to the registers in these slots and to what is known.
abbrev pub JudgesEnd : {D : Type 0} (o : Ops D) (c : Counts) (pair claim : List ℕ) (known : KnownTests) (fs : List (Form D)) → Result (Unit {0}) EndFault → Type 0
JudgesEnd {D} o c pair claim known fs r = (l : Limits) (substitution : List (List Item)) (t u : Track D) →
    all_stored 7 l (count_from 0 (kept_pair c pair).symbols) claim 3 ≡ good (read substitution (length claim)) →
    t.registers ≡ kept_seen fs 0 c.one.registers → t.known ≡ known_seen known.items fs 0 known.count → u.registers ≡ kept_seen fs 16 c.two.registers →
    told_end r ≡ end_holds o (kept_pair c pair) substitution t u
