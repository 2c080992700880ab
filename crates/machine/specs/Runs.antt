-- What a machine does: steps, rounds, runs of any number of rounds, and when two machines are equivalent.
use Rattle.std.specs.Prelude.{◌≡◌, ℕ, zero, suc, ◌<◌, ◌≤◌, Bool, true, false, cond, ◌≢◌, ◌↔◌, List, [], ◌∷◌, ◌++◌, ◌==◌}
use mathlib.Core.List.{Memᴰ}
use Rattle.domain.specs.Ring.{Ops}
use Rattle.expression.specs.declared.item.Item.{Item}
use Rattle.expression.specs.declared.test.Test.{Test}
use Rattle.expression.specs.Values.{Bank, in_table, answer}
use Rattle.machine.specs.Machine.{Machine, Action, store, emit, Transition, Row, straight, branch, row_at, chosen}
use Rattle.machine.specs.Sound.{Unstored, StoresOnce, SoundMachine}

-- Ports and values, in the order emitted.
abbrev pub Outputs : Type 0 → Type 0
Outputs V = List (ℕ × V)

-- Where a machine stands: its state, and what its registers hold.
pub record Place (V : Type 0) : Type 0 where
  pub state : ℕ
  pub registers : Bank V

-- State 0 is reset.
abbrev pub reset : {V : Type 0} → Bank V → Place V
reset registers = record { state = 0; registers = registers }

-- What actions do, where `value` is what an expression comes to over the registers as they were before the step.
module _ {V : Type 0} (value : List Item → V) where
  abbrev pub stored : List Action → Bank V → Bank V
  stored [] registers = registers
  stored (store r e ∷ rest) registers = stored rest (λ i. cond (i == r) (value e) (registers i))
  stored (emit port e ∷ rest) registers = stored rest registers

  abbrev pub emits : List Action → Outputs V
  emits [] = []
  emits (store r e ∷ rest) = emits rest
  emits (emit port e ∷ rest) = (port, value e) ∷ emits rest

  -- The turn at a row: the answer of its test. A straight row counts as yes.
  abbrev pub turn_at : Ops V → Row → Bool
  turn_at o (straight t) = true
  turn_at o (branch test left right on_yes on_no) = answer o test (value left) (value right)

  -- Where a transition leads.
  abbrev pub led_by : Transition → Bank V → Place V
  led_by t registers = record { state = t.target; registers = stored t.actions registers }

module _ {V : Type 0} (o : Ops V) (m : Machine) (inputs : Bank V) where
  -- One step: the turn that it takes, the transition, where that leads, what it emits.
  abbrev pub turn : Place V → Bool
  turn c = turn_at (in_table o c.registers inputs) o (row_at m c.state)

  abbrev pub taken : Place V → Transition
  taken c = chosen (row_at m c.state) (turn c)

  abbrev pub next : Place V → Place V
  next c = led_by (in_table o c.registers inputs) (taken c) c.registers

  abbrev pub emitted : Place V → Outputs V
  emitted c = emits (in_table o c.registers inputs) (taken c).actions

  -- The first n steps: their turns, where they lead, what they emit.
  unfoldable pub turns : ℕ → Place V → List Bool
  turns zero c = []
  turns (suc n) c = turn c ∷ turns n (next c)

  unfoldable pub after : ℕ → Place V → Place V
  after zero c = c
  after (suc n) c = after n (next c)

  unfoldable pub outputs : ℕ → Place V → Outputs V
  outputs zero c = []
  outputs (suc n) c = emitted c ++ outputs n (next c)

  -- Of the first n steps only the last may enter state 0.
  abbrev pub Clear : ℕ → Place V → Type 0
  Clear n c = (k : ℕ) → 0 < k → k < n → (after k c).state ≢ 0

  -- One step or more lead from c to state 0, for the first time. They emit `out`, and leave the registers `left`.
  pub record Returns (c : Place V) (out : Outputs V) (left : Bank V) : Type 0 where
    pub steps : ℕ
    pub some : 0 < steps
    pub clear : Clear steps c
    pub arrived : (after steps c).state ≡ 0
    pub out_is : out ≡ outputs steps c
    pub left_is : left ≡ (after steps c).registers

-- A run from the registers `start` completes a round for each of these inputs. Its outputs over them are the last list but one, and it leaves the last registers.
pub data Rounds {V : Type 0} (o : Ops V) (m : Machine) : List (Bank V) → (start : Bank V) → Outputs V → Bank V → Type 0 where
  no_round : {start : Bank V} → Rounds o m [] start [] start
  round : {inputs : Bank V} {rest : List (Bank V)} {start between left : Bank V} {out out' : Outputs V} → Returns o m inputs (reset start) out between → Rounds o m rest between out' left → Rounds o m (inputs ∷ rest) start (out ++ out') left

module _ {V : Type 0} (o : Ops V) where
  abbrev pub Completes : Machine → List (Bank V) → Bank V → Type 0
  Completes m rounds start = (out : Outputs V) × (left : Bank V) × Rounds o m rounds start out left

  abbrev pub Agree : (shared : ℕ) → Bank V → Bank V → Type 0
  Agree shared one two = (r : ℕ) → r < shared → one r ≡ two r

  pub record Alike (one two : Machine) (shared : ℕ) (rounds : List (Bank V)) (start₁ start₂ : Bank V) : Type 0 where
    pub complete : Completes one rounds start₁ ↔ Completes two rounds start₂
    pub agree : (out₁ out₂ : Outputs V) (left₁ left₂ : Bank V) → Rounds o one rounds start₁ out₁ left₁ → Rounds o two rounds start₂ out₂ left₂ → (out₁ ≡ out₂) × Agree shared left₁ left₂

  -- Start both machines in reset with equal shared registers, any private ones, and equal inputs round by round.
  -- One completes as many rounds as there are inputs exactly when the other does. If they do, their outputs over them are equal, and so are their shared registers afterwards.
  abbrev pub Equivalent : (one two : Machine) (shared : ℕ) → Type 0
  Equivalent one two shared = (start₁ start₂ : Bank V) → Agree shared start₁ start₂ → (rounds : List (Bank V)) → Alike one two shared rounds start₁ start₂

  -- Laws of these definitions

  -- Which transition a row takes.
  pub data Selects (value : List Item → V) : Row → Transition → Type 0 where
    straight_on : {t : Transition} → Selects value (straight t) t
    yes_side : {test : Test} {left right : List Item} {y n : Transition} → answer o test (value left) (value right) ≡ true → Selects value (branch test left right y n) y
    no_side : {test : Test} {left right : List Item} {y n : Transition} → answer o test (value left) (value right) ≡ false → Selects value (branch test left right y n) n

  -- A step as a relation: from a place, by the transition selected there, to the outputs and the place after it.
  pub data Steps (m : Machine) (inputs : Bank V) (c : Place V) : Outputs V → Place V → Type 0 where
    by : (t : Transition) → Selects (in_table o c.registers inputs) (row_at m c.state) t → Steps m inputs c (emits (in_table o c.registers inputs) t.actions) (led_by (in_table o c.registers inputs) t c.registers)

  -- From every place there is a step, and only one.
  pub record OneStep : Type 0 where
    pub exists : (m : Machine) (inputs : Bank V) (c : Place V) → Steps m inputs c (emitted o m inputs c) (next o m inputs c)
    pub unique : (m : Machine) (inputs : Bank V) (c : Place V) (out : Outputs V) (d : Place V) → Steps m inputs c out d → (out ≡ emitted o m inputs c) × (d ≡ next o m inputs c)

  -- Stores take effect together: where no register is stored twice, each store leaves its value in its register, whatever the order, and every other register keeps what it held.
  pub record Together : Type 0 where
    pub stores : (value : List Item → V) (actions : List Action) (before : Bank V) (r : ℕ) (e : List Item) → StoresOnce actions → Memᴰ (store r e) actions → stored value actions before r ≡ value e
    pub keeps : (value : List Item → V) (actions : List Action) (before : Bank V) (r : ℕ) → Unstored r actions → stored value actions before r ≡ before r

  -- Runs over the same inputs from the same registers have the same outputs and leave the same registers.
  abbrev pub Deterministic : Type 0
  Deterministic = (m : Machine) (rounds : List (Bank V)) (start : Bank V) (out₁ out₂ : Outputs V) (left₁ left₂ : Bank V) → Rounds o m rounds start out₁ left₁ → Rounds o m rounds start out₂ left₂ → (out₁ ≡ out₂) × (left₁ ≡ left₂)

  -- A machine is equivalent to itself where the registers that it reads are shared. (With a private one it need not be: two runs may start with different values in it.)
  abbrev pub Reflexive : Type 0
  Reflexive = (m : Machine) (shared : ℕ) → SoundMachine m → m.registers ≤ shared → Equivalent m m shared
