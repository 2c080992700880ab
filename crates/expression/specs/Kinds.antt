-- The sixteen kinds of words by their numbers.
use Rattle.std.specs.Prelude.{ℕ}
use Rattle.expression.specs.declared.kind.Kind.{Kind}
use Rattle.expression.specs.declared.kind.Kind.TheVariants.{Head, Constant, Register, Input, Symbol, Operation, Test, Store, Emit, Goto, Pair, Claim, FirstPath, SecondPath, Mask, Record}

abbrev pub kind_number : Kind → ℕ
kind_number Head = 0
kind_number Constant = 1
kind_number Register = 2
kind_number Input = 3
kind_number Symbol = 4
kind_number Operation = 5
kind_number Test = 6
kind_number Store = 7
kind_number Emit = 8
kind_number Goto = 9
kind_number Pair = 10
kind_number Claim = 11
kind_number FirstPath = 12
kind_number SecondPath = 13
kind_number Mask = 14
kind_number Record = 15
