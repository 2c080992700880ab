-- What a walk says of the machine.
use Rattle.std.specs.Prelude.{◌≡◌, ℕ, ◌<◌, Bool, ◌↔◌, List, [], ◌∷◌, ◌++◌, length, slice_index_or}
use Rattle.domain.specs.Ring.{Ops}
use Rattle.expression.specs.Values.{Bank}
use Rattle.forms.specs.Forms.{Form}
use Rattle.forms.specs.Values.{Normal, value}
use Rattle.machine.specs.Answer.{good}
use Rattle.machine.specs.Machine.{Machine, Each}
use Rattle.machine.specs.Runs.{Place, Outputs, turns, after, outputs}
use Rattle.walk.specs.Settled.{Known, Holds}
use Rattle.walk.specs.Walk.{Track, in_order, walk, learn, must}

module _ {D : Type 0} (o : Ops D) (inputs symbols : Bank D) where
  -- Each register has a normal form, and the machine's holds its value.
  pub record Match (forms : List (Form D)) (registers : Bank D) : Type 0 where
    pub normal : Each (Normal o) forms
    pub holds : (r : ℕ) → r < length forms → registers r ≡ value o inputs symbols (slice_index_or forms r [])

  -- outputs as ports and values
  abbrev pub values_of : List (ℕ × Form D) → Outputs D
  values_of [] = []
  values_of (x ∷ out) = (x.0, value o inputs symbols x.1) ∷ values_of out

  -- The machine goes the path's way from c, and where it arrives its state, registers and outputs are the values of the walk's.
  pub record Goes (m : Machine) (path : List Bool) (t u : Track D) (c : Place D) : Type 0 where
    pub takes : turns o m inputs (length path) c ≡ path
    pub state : (after o m inputs (length path) c).state ≡ u.state
    pub registers : Match u.registers (after o m inputs (length path) c).registers
    pub outputs_are : values_of u.outputs ≡ values_of t.outputs ++ outputs o m inputs (length path) c

  -- A machine that stands where a track says.
  pub record At (t : Track D) (c : Place D) : Type 0 where
    pub state : c.state ≡ t.state
    pub registers : Match t.registers c.registers

-- The path condition and the data transformation: under any values of symbols and inputs, the machine takes the path's turns
-- exactly when every recorded test has its noted answer, and then it does what the walk says.
pub record PathCondition {D : Type 0} (o : Ops D) (inputs symbols : Bank D) (m : Machine) (path : List Bool) (t u : Track D) : Type 0 where
  pub tests : List (Known D)
  pub recorded : u.known ≡ t.known ++ tests
  pub condition : (c : Place D) → At o inputs symbols t c → (turns o m inputs (length path) c ≡ path) ↔ Each (Holds o inputs symbols) tests
  pub transforms : (c : Place D) → At o inputs symbols t c → turns o m inputs (length path) c ≡ path → Goes o inputs symbols m path t u c

module _ {D : Type 0} (o : Ops D) where
  abbrev pub FirstWalk : Type 0
  FirstWalk = (m : Machine) (which : ℕ) (path : List Bool) (t u : Track D) → in_order which m 0 t.state path ≡ good tt → walk o (learn o) m 0 path t ≡ good u → (inputs symbols : Bank D) → PathCondition o inputs symbols m path t u

  -- Where all known tests have their answers, the walk of the second kind is the machine's way.
  abbrev pub SecondWalk : Type 0
  SecondWalk = (m : Machine) (which : ℕ) (path : List Bool) (known : List (Known D)) (t u : Track D) → in_order which m 0 t.state path ≡ good tt → walk o (must o known) m 0 path t ≡ good u → (inputs symbols : Bank D) → Each (Holds o inputs symbols) known → (c : Place D) → At o inputs symbols t c → Goes o inputs symbols m path t u c
