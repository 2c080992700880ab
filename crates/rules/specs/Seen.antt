-- What the forms in the slots say of a proposal.
use Rattle.std.specs.Prelude.{◌≡◌, ℕ, ◌+◌, ◌<◌, ◌≤◌, ◌⊎◌, List, [], Some, None, Ok, Err, Option, Result, slice_index_or}
use Rattle.domain.specs.Ring.{Ops}
use Rattle.forms.specs.Forms.{Form, symbol_form}
use Rattle.workspace.specs.Layout.{stack_at}
use Rattle.workspace.specs.declared.group.Group.{Group}
use Rattle.workspace.specs.declared.leaves.Leaves.{Leaves}
use Rattle.workspace.specs.declared.leaves.Symbols.{Symbols}
use Rattle.workspace.specs.declared.leaves.Symbols.TheVariants.{Own, Kept}
use Rattle.workspace.specs.Evaluation.{no_group}
use Rattle.walk.specs.Walk.{nth}
use Rattle.walk.specs.Settled.{Known}
use Rattle.walk.specs.Seen.{kept_seen, known_seen}
use Rattle.walk.specs.declared.known.Noted.{Noted}
use Rattle.walk.specs.Lists.{KnownTests}
use Rattle.proposal.specs.declared.cursor.FactAt.{FactAt}

-- What an expression of a proposal reads: no registers, and symbols as said.
abbrev pub proposal_leaves : Symbols → Leaves
proposal_leaves s = record { registers = no_group; symbols = s }

-- What symbols stand for: themselves, or the forms of a group of slots.
abbrev pub symbols_seen : {D : Type 0} → Ops D → Symbols → List (Form D) → ℕ → Option (Form D)
symbols_seen o Own fs = symbol_form o
symbols_seen o (Kept g) fs = nth (kept_seen fs g.first g.count)

-- Every slot below the stack and outside a group is as before.
abbrev pub KeptButSlots : {X : Type 0} → (first count : ℕ) → (before after : List (List X)) → Type 0
KeptButSlots first count before after = (i : ℕ) → i < stack_at → (i < first) ⊎ (first + count ≤ i) → slice_index_or after i [] ≡ slice_index_or before i []

abbrev pub KeptButGroup : {X : Type 0} → Group → (before after : List (List X)) → Type 0
KeptButGroup g before after = KeptButSlots g.first g.count before after

-- The test of a fact, with its answer.
abbrev pub noted_fact : FactAt → Noted
noted_fact f = record { test = f.test; says = f.says }

-- The tests that are known, if the values are within the limits.
abbrev pub told_known : {D E : Type 0} → Result KnownTests E → List (Form D) → Option (List (Known D))
told_known (Ok known) fs = Some (known_seen known.items fs 0 known.count)
told_known (Err e) fs = None
