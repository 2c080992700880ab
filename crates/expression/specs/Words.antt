-- Words of 32 bits: the top four are the kind, the rest the number. Kinds 1 to 5 make up expressions.
use Rattle.std.specs.Prelude.{◌≡◌, ℕ, ◌+◌, ◌/◌, ◌%◌, ◌<◌, cond, ◌==◌}
use Rattle.expression.specs.declared.item.Item.{Item}
use Rattle.expression.specs.declared.item.Item.TheVariants.{Constant, Register, Input, Symbol, Sum, Difference, Product, Negation}
use Rattle.expression.specs.declared.test.Test.{Test}
use Rattle.expression.specs.declared.test.Test.TheVariants.{Same, Below}

abbrev pub kind : ℕ → ℕ
kind w = w / 0x10000000

abbrev pub number : ℕ → ℕ
number w = w % 0x10000000

-- kind 5: 0 sum, 1 difference, 2 product, 3 negation
abbrev pub operation : ℕ → Item
operation n = cond (n == 0) Sum (cond (n == 1) Difference (cond (n == 2) Product Negation))

-- 1 constant, 2 register, 3 input, 4 symbol, 5 operation
abbrev pub item : ℕ → ℕ → Item
item k n = cond (k == 1) (Constant n) (cond (k == 2) (Register n) (cond (k == 3) (Input n) (cond (k == 4) (Symbol n) (operation n))))

unfoldable pub item_of : ℕ → Item
item_of w = item (kind w) (number w)

-- How many values an item takes off the stack; it leaves one.
abbrev pub takes : Item → ℕ
takes (Constant n) = 0
takes (Register n) = 0
takes (Input n) = 0
takes (Symbol n) = 0
takes Sum = 2
takes Difference = 2
takes Product = 2
takes Negation = 1

-- 0 same, 1 below
abbrev pub test_of : ℕ → Test
test_of n = cond (n % 2 == 0) Same Below

abbrev pub test_number : Test → ℕ
test_number Same = 0
test_number Below = 1

-- The word of an item.
abbrev pub item_word : Item → ℕ
item_word (Constant n) = 0x10000000 + n
item_word (Register n) = 0x20000000 + n
item_word (Input n) = 0x30000000 + n
item_word (Symbol n) = 0x40000000 + n
item_word Sum = 0x50000000
item_word Difference = 0x50000001
item_word Product = 0x50000002
item_word Negation = 0x50000003

-- An item whose number leaves the kind its four bits.
abbrev pub FitsWord : Item → Type 0
FitsWord (Constant n) = n < 0x10000000
FitsWord (Register n) = n < 0x10000000
FitsWord (Input n) = n < 0x10000000
FitsWord (Symbol n) = n < 0x10000000
FitsWord Sum = Unit {0}
FitsWord Difference = Unit {0}
FitsWord Product = Unit {0}
FitsWord Negation = Unit {0}

-- An item and its word determine each other, among the words of kinds 1 to 5 with an operation below 4.
pub record WordsReadBack : Type 0 where
  pub words : (w : ℕ) → 0 < kind w → kind w < 6 → (kind w ≡ 5 → number w < 4) → item_word (item_of w) ≡ w
  pub items : (i : Item) → FitsWord i → item_of (item_word i) ≡ i
