-- The guarantee, whole.
use Rattle.std.proofs.Common.{◌≡◌, ℕ, ◌≤◌, ◌&&◌, eqb, leb, List, sym, ◌∙◌, subst, subst₂}
use Rattle.std.proofs.lemmas.Bool.{and_parts, leb-true}
use Rattle.domain.specs.Ring.{Ops, Laws}
use Rattle.machine.specs.Answer.{Answer, good, refused, of_machine}
use Rattle.machine.specs.Machine.{Machine}
use Rattle.machine.specs.Reading.{machine}
use Rattle.machine.specs.Runs.{Equivalent}
use Rattle.machine.specs.Encode.{SoundTables}
use Rattle.walk.proofs.Chains.{refused_good, good_same, split, split_check}
use Rattle.walk.proofs.SettledLaw.{Theory}
use Rattle.correspondence.specs.State.{Open}
use Rattle.correspondence.specs.Coverage.{equivalent}
use Rattle.correspondence.specs.Calls.{opened, fit_together, opening, ask_verdict, says, answer, after, CleanCovers, parts_of, calls_of, Roomy, IdleBesides, PartsAccepted}
use Rattle.correspondence.specs.Itself.{self_proposal, NoneOver}
use Rattle.correspondence.specs.Guarantee.{Guarantee}
use Rattle.correspondence.proofs.Histories.{history_sound, history_complete}
use Rattle.correspondence.proofs.SelfFiling.{own_proposal}

of_good : {X : Type 0} (which : ℕ) (a : Answer X) (x : X) → of_machine which a ≡ good x → a ≡ good x
of_good which (good y) x e = e
of_good which (refused n m p) x e = absurd (refused_good n which p x e)

-- What an accepted opening opens.
pub record Opened (first second : List ℕ) (shared : ℕ) (b : Open) : Type 0 where
  pub one : Machine
  pub two : Machine
  pub reads₁ : machine first ≡ good one
  pub reads₂ : machine second ≡ good two
  pub fits₁ : shared ≤ one.registers
  pub fits₂ : shared ≤ two.registers
  pub is : opened one two shared ≡ b

pub opens : (first second : List ℕ) (shared : ℕ) (b : Open) → opening first second shared ≡ good b → Opened first second shared b
unfolding opening
opens first second shared b e =
    let x = split (of_machine 1 (machine first)) _ b e in
    let y = split (of_machine 2 (machine second)) _ b x.2 in
    let one = x.0 in
    let two = y.0 in
    let f = split (fit_together one two shared) _ b y.2 in
    let c = split_check (eqb one.inputs two.inputs && (leb shared one.registers && leb shared two.registers)) 4 0 0 _ tt f.1 in
    let p = and_parts (eqb one.inputs two.inputs) _ c.0 in
    let q = and_parts (leb shared one.registers) _ p.1 in
    record { one = one; two = two; reads₁ = of_good 1 (machine first) one x.1; reads₂ = of_good 2 (machine second) two y.1; fits₁ = leb-true shared _ q.0; fits₂ = leb-true shared _ q.1; is = good_same _ b f.2 }

module _ {D : Type 0} (o : Ops D) (laws : Laws o) (theory : Theory o) (tables : SoundTables) where
  pub guaranteed : Guarantee o
  guaranteed = record {
    sound = λ first second shared b e history v. (
        let x = opens first second shared b e in
        let P : Open → Type 0 = λ z. answer o (after o z history) ask_verdict ≡ good (says equivalent) → Equivalent o z.machine₁ z.machine₂ shared in
        subst P x.is (history_sound o laws theory x.one x.two shared x.fits₁ x.fits₂ history) v);
    complete = λ first second shared b e events. (
        let x = opens first second shared b e in
        let P : Open → Type 0 = λ z. CleanCovers o z (parts_of events) → Roomy events → IdleBesides o z events → PartsAccepted o z events × (answer o (after o z (calls_of events)) ask_verdict ≡ good (says equivalent)) in
        subst P x.is (history_complete o laws theory x.one x.two shared x.fits₁ x.fits₂ events));
    itself = λ words shared b e all_shared none_over. (
        let x = opens words words shared b e in
        let P : Open → Type 0 = λ z. shared ≡ z.machine₁.registers → NoneOver o z.machine₁ → CleanCovers o z (self_proposal z.machine₁) in
        let same : x.one ≡ x.two = good_same x.one x.two (sym x.reads₁ ∙ x.reads₂) in
        let own : P (opened x.one x.two shared) = λ all none. subst₂ (λ n m. CleanCovers o (opened x.one m n) (self_proposal x.one)) (sym all) same (own_proposal o theory x.one (tables.machines words x.one x.reads₁) none) in
        subst P x.is own all_shared none_over);
  }
