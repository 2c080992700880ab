-- The machines by their numbers.
use Rattle.std.specs.Prelude.{ℕ}
use Rattle.machine.specs.declared.which.Which.{Which}
use Rattle.machine.specs.declared.which.Which.TheVariants.{First, Second}

abbrev pub which_number : Which → ℕ
which_number First = 1
which_number Second = 2
