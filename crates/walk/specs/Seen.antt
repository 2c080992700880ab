-- What stands in the slots of a workspace: registers, outputs and known tests as lists.
use Rattle.std.specs.Prelude.{◌≡◌, ℕ, zero, suc, ◌+◌, ◌*◌, ◌<◌, ◌≤◌, false, cond, ◌≢◌, ◌⊎◌, List, [], ◌∷◌, ◌++◌, length, Some, None, Option, Result, nat_lt, slice_index, slice_index_or, slice_set}
use Rattle.expression.specs.declared.test.Test.TheVariants.{Same}
use Rattle.expression.specs.Run.{and_then}
use Rattle.forms.specs.Forms.{Form}
use Rattle.workspace.specs.Layout.{stack_at, pending_at, left_at, right_at}
use Rattle.workspace.specs.Slots.{told}
use Rattle.workspace.specs.declared.group.Group.{Group}
use Rattle.workspace.specs.declared.leaves.Leaves.{Leaves}
use Rattle.workspace.specs.declared.leaves.Symbols.TheVariants.{Kept}
use Rattle.workspace.specs.Evaluation.{no_group}
use Rattle.walk.specs.Places.{known_first}
use Rattle.walk.specs.declared.known.Noted.{Noted}
use Rattle.walk.specs.declared.side.Side.{Side}
use Rattle.walk.specs.Settled.{Known}

-- the forms of n slots from the first on
abbrev pub kept_seen : {X : Type 0} → List (List X) → (first n : ℕ) → List (List X)
kept_seen fs first zero = []
kept_seen fs first (suc n) = slice_index_or fs first [] ∷ kept_seen fs (suc first) n

abbrev pub noted_at : List Noted → ℕ → Noted
noted_at noted j = slice_index_or noted j (record { test = Same; says = false })

-- known test j, with the forms of its sides
abbrev pub known_at : {D : Type 0} → List Noted → List (Form D) → ℕ → Known D
known_at noted fs j = record { test = (noted_at noted j).test; left = slice_index_or fs (known_first + 2 * j) []; right = slice_index_or fs (known_first + 2 * j + 1) []; says = (noted_at noted j).says }

-- the n known tests from j on
abbrev pub known_seen : {D : Type 0} → List Noted → List (Form D) → (j n : ℕ) → List (Known D)
known_seen noted fs j zero = []
known_seen noted fs j (suc n) = known_at noted fs j ∷ known_seen noted fs (suc j) n

-- the test at hand, with the answer that is asked about
abbrev pub at_hand : {D : Type 0} → List (Form D) → Noted → Known D
at_hand fs asked = record { test = asked.test; left = slice_index_or fs left_at []; right = slice_index_or fs right_at []; says = asked.says }

-- What an expression of a table reads: registers in a group of slots, and no symbols.
abbrev pub table_leaves : Group → Leaves
table_leaves g = record { registers = g; symbols = Kept no_group }

-- Every slot below the stack is as before, but one.
abbrev pub KeptBut : {X : Type 0} → ℕ → (before after : List (List X)) → Type 0
KeptBut to before after = (i : ℕ) → i < stack_at → i ≢ to → slice_index_or after i [] ≡ slice_index_or before i []

-- the registers after the first n stores that wait: store j is for register `targets j`, with the form in slot j of those pending
abbrev pub stored_seen : {X : Type 0} → (targets : List ℕ) → List (List X) → (n : ℕ) → (registers : List (List X)) → List (List X)
stored_seen targets fs zero registers = registers
stored_seen targets fs (suc n) registers = slice_set (stored_seen targets fs n registers) (slice_index targets n) (slice_index_or fs (pending_at + n) [])

-- n outputs: output j goes to `ports j`, with the form in slot j of the group
abbrev pub outputs_seen : {X : Type 0} → (ports : List ℕ) → List (List X) → (first n : ℕ) → List (ℕ × List X)
outputs_seen ports fs first zero = []
outputs_seen ports fs first (suc n) = outputs_seen ports fs first n ++ ((slice_index ports n, slice_index_or fs (first + n) []) ∷ [])

-- Every slot that an expression may read is as before.
abbrev pub KeptNamed : {X : Type 0} → (before after : List (List X)) → Type 0
KeptNamed before after = (i : ℕ) → i < pending_at → slice_index_or after i [] ≡ slice_index_or before i []

-- One more store waits, with the form of its expression: whatever the registers are, it is made behind the others.
abbrev pub Waits : {X U E : Type 0} → Result U E → Option (List X) → (register : ℕ) → (before after : List (List X) → List (List X)) → Type 0
Waits r form register before after = (registers : List (List _)) → told r (after registers) ≡ and_then form (λ f. Some (slice_set (before registers) register f))

-- One more output, with the form of its expression, if there are fewer than sixteen.
abbrev pub Appends : {X U E : Type 0} → Result U E → Option (List X) → (port : ℕ) → (before after : List (ℕ × List X)) → Type 0
Appends r form port before after = told r after ≡ and_then form (λ f. cond (nat_lt (length before) 16) (Some (before ++ ((port, f) ∷ []))) None)

-- Every slot outside a group is as before.
abbrev pub KeptOutside : {X : Type 0} → Group → (before after : List (List X)) → Type 0
KeptOutside g before after = (i : ℕ) → (i < g.first) ⊎ (g.first + g.count ≤ i) → slice_index_or after i [] ≡ slice_index_or before i []

-- Every slot that an expression may read is as before, but for the outputs of this side.
abbrev pub KeptBeside : {X : Type 0} → Side → (before after : List (List X)) → Type 0
KeptBeside side before after = (i : ℕ) → i < pending_at → (i < side.outputs) ⊎ (side.outputs + 16 ≤ i) → slice_index_or after i [] ≡ slice_index_or before i []

-- Every slot that an expression may read is as before, but for the registers and the outputs of this side.
abbrev pub KeptApart : {X : Type 0} → Side → (before after : List (List X)) → Type 0
KeptApart side before after = (i : ℕ) → i < pending_at → (i < side.registers.first) ⊎ (side.registers.first + side.registers.count ≤ i) → (i < side.outputs) ⊎ (side.outputs + 16 ≤ i) → slice_index_or after i [] ≡ slice_index_or before i []

-- Every slot before the known tests is as before.
abbrev pub KeptBeforeKnown : {X : Type 0} → (before after : List (List X)) → Type 0
KeptBeforeKnown before after = (i : ℕ) → i < known_first → slice_index_or after i [] ≡ slice_index_or before i []
