-- A transition taken in the slots.
use Rattle.std.specs.Prelude.{◌≡◌, ℕ, ◌+◌, ◌<◌, ◌≤◌, Bool, true, cond, ◌⊎◌, List, [], ◌∷◌, length, Some, None, Ok, Err, Option, Result, slice_index_or}
use Rattle.domain.specs.Ring.{Ops}
use Rattle.expression.specs.declared.item.Item.{Item}
use Rattle.expression.specs.declared.test.Test.{Test}
use Rattle.expression.specs.Shape.{is_expression}
use Rattle.forms.specs.Forms.{Form}
use Rattle.machine.specs.declared.accepted.State.{State}
use Rattle.machine.specs.Answer.{Answer, good, refused}
use Rattle.machine.specs.Machine.{Machine, Action, store, emit, Transition, Row, straight, branch, chosen, Each}
use Rattle.workspace.specs.Layout.{left_at}
use Rattle.walk.specs.declared.fault.WalkFault.{WalkFault}
use Rattle.walk.specs.declared.fault.WalkFault.TheVariants.{OverLimits, Unsettled}
use Rattle.walk.specs.Lists.{KnownTests}
use Rattle.walk.specs.Lists.{Outputs}
use Rattle.walk.specs.Lists.{Pending}
use Rattle.walk.specs.declared.order.ImpossibleStep.{ImpossibleStep}
use Rattle.walk.specs.declared.side.Side.{Side}
use Rattle.walk.specs.Walk.{Acted, act, Track, step, walk, must, allows, in_order}
use Rattle.walk.specs.Settled.{Known}
use Rattle.walk.specs.Seen.{kept_seen, stored_seen, outputs_seen, known_seen, at_hand}
use Rattle.walk.specs.Places.{known_first}

abbrev pub ReadableAction : Action → Type 0
ReadableAction (store r e) = is_expression e ≡ true
ReadableAction (emit port e) = is_expression e ≡ true

-- A transition whose actions can be worked out, with n stores waiting before them.
pub record Readable (n : ℕ) (t : Transition) : Type 0 where
  pub few : n + length t.actions ≤ 8
  pub each : Each ReadableAction t.actions

-- The registers as they will be after the stores that wait, and the outputs so far.
abbrev pub held_seen : {D : Type 0} → Side → Pending → Outputs → (registers fs : List (Form D)) → Acted D
held_seen side pending outputs registers fs = record {
  registers = stored_seen pending.items fs pending.count registers;
  outputs = outputs_seen outputs.items fs side.outputs outputs.count;
}

-- The registers and the outputs so far.
abbrev pub acted_seen : {D : Type 0} → Side → Outputs → (fs : List (Form D)) → Acted D
acted_seen side outputs fs = record {
  registers = kept_seen fs side.registers.first side.registers.count;
  outputs = outputs_seen outputs.items fs side.outputs outputs.count;
}

-- What actions leave of registers and outputs.
abbrev pub acted : {D : Type 0} → Ops D → (form : List Item → Option (Form D)) → List Action → Acted D → Option (Acted D)
acted o form actions t = act o form actions t.registers t.outputs

-- A row whose test, if it has one, and actions can be worked out.
abbrev pub ReadableRow : Row → Type 0
ReadableRow (straight t) = Readable 0 t
ReadableRow (branch test left right on_yes on_no) = (is_expression left ≡ true) × (is_expression right ≡ true) × Readable 0 on_yes × Readable 0 on_no

-- The test that was put, if any, with the answer that a turn gives it.
abbrev pub put_seen : {D : Type 0} → Option Test → Bool → List (Form D) → List (Known D)
put_seen None turn fs = []
put_seen (Some test) turn fs = at_hand fs (record { test = test; says = turn }) ∷ []

abbrev pub put_told : {D E : Type 0} → Result (Option Test) E → Bool → List (Form D) → Option (List (Known D))
put_told (Ok test) turn fs = Some (put_seen test turn fs)
put_told (Err e) turn fs = None

-- Every slot below those of the test at hand is as before.
abbrev pub KeptBelowTest : {X : Type 0} → (before after : List (List X)) → Type 0
KeptBelowTest before after = (i : ℕ) → i < left_at → slice_index_or after i [] ≡ slice_index_or before i []

-- Where a path stands: the state, the registers, the known tests and the outputs so far.
abbrev pub track_seen : {D : Type 0} → Side → (state : ℕ) → KnownTests → Outputs → (fs : List (Form D)) → Track D
track_seen side state known outputs fs = record {
  state = state;
  registers = kept_seen fs side.registers.first side.registers.count;
  known = known_seen known.items fs 0 known.count;
  outputs = outputs_seen outputs.items fs side.outputs outputs.count;
}

-- What a call leaves whose one refusal is over the limits (11).
abbrev pub told_over : {A X E : Type 0} → Result A E → (A → X) → Answer X
told_over (Ok s) f = good (f s)
told_over (Err e) f = refused 11 0 0

-- Every slot before the known tests is as before, but for the registers and the outputs of this side.
abbrev pub KeptOtherSide : {X : Type 0} → Side → (before after : List (List X)) → Type 0
KeptOtherSide side before after = (i : ℕ) → i < known_first → (i < side.registers.first) ⊎ (side.registers.first + side.registers.count ≤ i) → (i < side.outputs) ⊎ (side.outputs + 16 ≤ i) → slice_index_or after i [] ≡ slice_index_or before i []

-- Where a path of the second machine stands: its own tests never become known.
pub record Reached (D : Type 0) : Type 0 where
  pub state : ℕ
  pub registers : List (Form D)
  pub outputs : List (ℕ × Form D)

abbrev pub reached : {D : Type 0} → Track D → Reached D
reached t = record { state = t.state; registers = t.registers; outputs = t.outputs }

abbrev pub only_reached : {D : Type 0} → Answer (Track D) → Answer (Reached D)
only_reached (good t) = good (reached t)
only_reached (refused n m p) = refused n m p

abbrev pub reached_seen : {D : Type 0} → Side → (state : ℕ) → Outputs → (fs : List (Form D)) → Reached D
reached_seen side state outputs fs = record {
  state = state;
  registers = kept_seen fs side.registers.first side.registers.count;
  outputs = outputs_seen outputs.items fs side.outputs outputs.count;
}

-- The same with any list of tests beside it.
abbrev pub beside : {D : Type 0} → List (Known D) → Reached D → Track D
beside tests r = record { state = r.state; registers = r.registers; known = tests; outputs = r.outputs }

-- What a walk of the second machine leaves: its refusals are over the limits (11), and a turn that is not settled (14, of machine 2 at its step).
abbrev pub told_walk : {A X : Type 0} → Result A WalkFault → (A → X) → Answer X
told_walk (Ok s) f = good (f s)
told_walk (Err OverLimits) f = refused 11 0 0
told_walk (Err (Unsettled i)) f = refused 14 2 i

-- A step, and a walk, whose every turn is settled by what is known, whatever tests stand beside.
abbrev pub SettledStep : {D A : Type 0} → Ops D → List (Known D) → (index : ℕ) → Row → Bool → Result A WalkFault → (before : Reached D) → (after : A → Reached D) → Type 0
SettledStep o known index row turn r before after = (tests : List (Known _)) → told_walk r after ≡ only_reached (step o (must o known index) row turn (beside tests before))

abbrev pub SettledWalk : {D A : Type 0} → Ops D → List (Known D) → (m : Machine) → (index : ℕ) → List Bool → Result A WalkFault → (before : Reached D) → (after : A → Reached D) → Type 0
SettledWalk o known m index path r before after = (tests : List (Known _)) → told_walk r after ≡ only_reached (walk o (must o known) m index path (beside tests before))

-- A state by its number.
abbrev pub numbered : Option State → Option ℕ
numbered None = None
numbered (Some s) = Some s.number

-- The state that a turn leads to; a straight row has no turn no.
abbrev pub allowed_target : Row → Bool → Option ℕ
allowed_target row turn = cond (allows row turn) (Some (chosen row turn).target) None

-- What the check of a path says: an impossible step is refused (12), of this machine at that step.
abbrev pub told_order : {U : Type 0} → (which : ℕ) → Result U ImpossibleStep → Answer (Unit {0})
told_order which (Ok u) = good tt
told_order which (Err e) = refused 12 which e.step

abbrev pub InOrder : {U : Type 0} → Machine → (state : ℕ) → List Bool → Result U ImpossibleStep → Type 0
InOrder m state path r = (which : ℕ) → told_order which r ≡ in_order which m 0 state path
