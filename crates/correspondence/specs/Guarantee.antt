-- The guarantee, whole: what equivalent means, that clean proposals earn it, and that every table can earn it beside itself.
use Rattle.std.specs.Prelude.{◌≡◌, ℕ, List}
use Rattle.domain.specs.Ring.{Ops}
use Rattle.machine.specs.Answer.{good}
use Rattle.machine.specs.Runs.{Equivalent}
use Rattle.correspondence.specs.State.{Open}
use Rattle.correspondence.specs.Coverage.{equivalent}
use Rattle.correspondence.specs.Calls.{opening, Call, ask_verdict, says, answer, after, CleanCovers, Event, parts_of, calls_of, Roomy, IdleBesides, PartsAccepted}
use Rattle.correspondence.specs.Itself.{self_proposal, NoneOver}

pub record Guarantee {D : Type 0} (o : Ops D) : Type 0 where
  -- Wherever in a history the verdict is equivalent, the two machines are: over any number of rounds, from equal shared registers and equal inputs, both complete or neither does, with equal outputs and equal shared registers after.
  pub sound : (first second : List ℕ) (shared : ℕ) (b : Open) → opening first second shared ≡ good b → (history : List Call) → answer o (after o b history) ask_verdict ≡ good (says equivalent) → Equivalent o b.machine₁ b.machine₂ shared
  -- A clean proposal that covers every pair, filed in order, each claim with room, refused calls in between or not: nothing of it is refused, and the verdict then is equivalent.
  pub complete : (first second : List ℕ) (shared : ℕ) (b : Open) → opening first second shared ≡ good b → (events : List Event) → CleanCovers o b (parts_of events) → Roomy events → IdleBesides o b events → PartsAccepted o b events × (answer o (after o b (calls_of events)) ask_verdict ≡ good (says equivalent))
  -- A table beside itself with all registers shared, none of its expressions over the limits: its own proposal is clean and covers every pair.
  pub itself : (words : List ℕ) (shared : ℕ) (b : Open) → opening words words shared ≡ good b → shared ≡ b.machine₁.registers → NoneOver o b.machine₁ → CleanCovers o b (self_proposal b.machine₁)
