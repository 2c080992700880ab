-- The word of a symbol as an expression.
use Rattle.std.proofs.Common.{◌≡◌, ℕ, ◌+◌, ◌<◌, true, [], ◌∷◌, refl}
use Rattle.expression.specs.declared.item.Item.TheVariants.{Symbol}
use Rattle.expression.specs.Words.{item_of}
use Rattle.expression.specs.Shape.{is_expression}
use Rattle.expression.proofs.WordsBack.{read_back}

pub symbol_item : (n : ℕ) → n < 0x10000000 → item_of (0x40000000 + n) ≡ Symbol n
symbol_item n h = read_back.items (Symbol n) h

pub symbol_expression : (n : ℕ) → n < 0x10000000 → is_expression (item_of (0x40000000 + n) ∷ []) ≡ true
unfolding is_expression
symbol_expression n h = rw (symbol_item n h) refl
