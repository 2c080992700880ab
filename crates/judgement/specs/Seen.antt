-- What the slots and results of a judgement say.
use Rattle.std.specs.Prelude.{ℕ, ◌+◌, Bool, ◌&&◌, List, [], Ok, Err, Result, ◌==◌, slice_index, slice_index_or}
use Rattle.domain.specs.Ring.{Ops}
use Rattle.forms.specs.Forms.{Form, same_form}
use Rattle.machine.specs.Answer.{Answer, good, refused}
use Rattle.judgement.specs.declared.outputs.OtherOutput.{OtherOutput}

-- the first slots of the outputs of either path
abbrev pub first_outputs : ℕ
first_outputs = 64

abbrev pub second_outputs : ℕ
second_outputs = 80

-- output j of a path: its port, and its form
abbrev pub output_at : {X : Type 0} → (ports : List ℕ) → List (List X) → (first j : ℕ) → ℕ × List X
output_at ports fs first j = (slice_index ports j, slice_index_or fs (first + j) [])

-- one port and one form
abbrev pub same_output : {D : Type 0} → Ops D → (x y : ℕ × Form D) → Bool
same_output o x y = x.0 == y.0 && same_form o x.1 y.1

-- What a comparison of outputs says: the first that differs or is missing is refused (15).
abbrev pub told_outputs : {U : Type 0} → Result U OtherOutput → Answer (Unit {0})
told_outputs (Ok u) = good tt
told_outputs (Err e) = refused 15 0 e.place
