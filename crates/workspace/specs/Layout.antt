-- Where forms are kept: slots of sixteen terms each, and room for a product behind them.
use Rattle.std.specs.Prelude.{ℕ}

-- the number of slots; those below the stack keep their forms while an expression is worked out
abbrev pub slot_count : ℕ
slot_count = 162

abbrev pub stack_at : ℕ
stack_at = 154

-- Expressions may read the slots below this one.
abbrev pub pending_at : ℕ
pending_at = 144

-- the two sides of the test at hand
abbrev pub left_at : ℕ
left_at = 152

abbrev pub right_at : ℕ
right_at = 153

-- the terms of the slots, and those needed with the room behind them
abbrev pub scratch_at : ℕ
scratch_at = 2592

abbrev pub terms_needed : ℕ
terms_needed = 3136

-- what a call needs above the level
abbrev pub terms_lent : ℕ
terms_lent = 4096
