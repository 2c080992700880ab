-- What the leaves of an expression stand for, and the stack on which it is worked out.
use Rattle.std.proofs.Common.{arith}
use Rattle.std.specs.Prelude.{ℕ, zero, suc, ◌+◌, ◌-◌, ◌<◌, ◌≤◌, cond, List, [], ◌∷◌, Some, None, Option, nat_lt, slice_index_or}
use Rattle.domain.specs.Ring.{Ops}
use Rattle.expression.specs.Run.{Algebra}
use Rattle.expression.specs.Words.{takes}
use Rattle.expression.specs.declared.item.Item.{Item}
use Rattle.forms.specs.Forms.{Form, symbol_form}
use Rattle.forms.specs.Limited.{limited}
use Rattle.workspace.specs.Layout.{stack_at}
use Rattle.workspace.specs.declared.group.Group.{Group}
use Rattle.workspace.specs.declared.leaves.Leaves.{Leaves}
use Rattle.workspace.specs.declared.leaves.Symbols.{Symbols}
use Rattle.workspace.specs.declared.leaves.Symbols.TheVariants.{Own, Kept}

-- the form in place n of a group of slots, if there are so many
abbrev pub group_form : {X : Type 0} → List (List X) → Group → ℕ → Option (List X)
group_form fs g n = cond (nat_lt n g.count) (Some (slice_index_or fs (g.first + n) [])) None

-- what symbol n stands for: itself, or the form in a slot
abbrev pub symbol_forms : {D : Type 0} → Ops D → List (Form D) → Symbols → ℕ → Option (Form D)
symbol_forms o fs Own = symbol_form o
symbol_forms o fs (Kept g) = group_form fs g

-- normal forms within the limits, where the leaves stand for forms of the slots
abbrev pub reading : {D : Type 0} → Ops D → Leaves → List (Form D) → Algebra (Form D)
reading o l fs = limited o (group_form fs l.registers) (symbol_forms o fs l.symbols)

-- no slots
abbrev pub no_group : Group
no_group = record { first = 0; count = 0; below = omega arith }

-- the stack of d values, the last first
unfoldable pub stack : {X : Type 0} → ℕ → List (List X) → List (List X)
stack zero fs = []
stack (suc d) fs = slice_index_or fs (stack_at + d) [] ∷ stack d fs

-- an item that may be worked out where the stack has d values
pub record Stands (d : ℕ) (i : Item) : Type 0 where
  pub deep : d ≤ 8
  pub values : takes i ≤ d
  pub room : d - takes i < 8
