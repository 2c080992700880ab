-- The forms in slots, as a list.
use Rattle.std.specs.Prelude.{List, take}
use Rattle.forms.specs.Forms.{Form}
use Rattle.workspace.specs.Layout.{stack_at, pending_at}
use Rattle.workspace.specs.Slots.{slots}
use Rattle.workspace.specs.declared.slots.Slots.{Slots}

-- the form in each slot
abbrev pub forms : {D : Type 0} → Slots D → List (Form D)
forms s = slots s.lens.of s.row.now

-- those below the stack
abbrev pub below_stack : {X : Type 0} → List X → List X
below_stack fs = take stack_at fs

-- those that an expression may read
abbrev pub named : {X : Type 0} → List X → List X
named fs = take pending_at fs
