-- What a check answers: what it found, or a refusal with its number, machine and place.
use Rattle.std.specs.Prelude.{ℕ, Bool, true, false, Ok, Err, Result}

pub data Answer (X : Type 0) : Type 0 where
  good : X → Answer X
  refused : (number machine place : ℕ) → Answer X

-- One check after another: the first refusal counts.
infixr 10 ◌then◌
abbrev pub ◌then◌ : {X Y : Type 0} → Answer X → (X → Answer Y) → Answer Y
(good x) then k = k x
(refused n m p) then k = refused n m p

-- A yes-or-no check, and the refusal that it meets.
abbrev pub check : Bool → (number machine place : ℕ) → Answer (Unit {0})
check true n m p = good tt
check false n m p = refused n m p

-- The same answer, a refusal of it being of this machine, or having this number.
abbrev pub of_machine : {X : Type 0} → ℕ → Answer X → Answer X
of_machine which (good x) = good x
of_machine which (refused n m p) = refused n which p

abbrev pub numbered : {X : Type 0} → ℕ → Answer X → Answer X
numbered number (good x) = good x
numbered number (refused n m p) = refused number m p

-- The figures that a refusal tells.
pub record Figures : Type 0 where
  pub number : ℕ
  pub machine : ℕ
  pub place : ℕ

-- What a result of the code says, where each of its faults tells these figures.
abbrev pub told_by : {X F : Type 0} → (F → Figures) → Result X F → Answer X
told_by figures (Ok x) = good x
told_by figures (Err f) = refused (figures f).number (figures f).machine (figures f).place
