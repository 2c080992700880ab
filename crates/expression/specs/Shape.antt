-- When items are an expression: 1 to 24 in postfix that leave one value, with at most eight on the way.
use Rattle.std.specs.Prelude.{◌≡◌, ℕ, zero, suc, ◌+◌, ◌-◌, Bool, true, cond, ◌&&◌, List, [], ◌∷◌, map, length, take, drop, Some, None, Option, ◌==◌, nat_le}
use Rattle.domain.specs.Ring.{Ops}
use Rattle.expression.specs.declared.item.Item.{Item}
use Rattle.expression.specs.Words.{takes, item_of}
use Rattle.expression.specs.Run.{meaning}
use Rattle.expression.specs.Values.{Bank, values}

-- From d values the items leave exactly one, never short, and never more than eight on the way.
abbrev pub lands : ℕ → List Item → Bool
lands d [] = d == 1
lands d (i ∷ e) = nat_le (takes i) d && (nat_le (d - takes i + 1) 8 && lands (d - takes i + 1) e)

unfoldable pub is_expression : List Item → Bool
is_expression e = nat_le (length e) 24 && lands 0 e

-- Where, below k, the second of two expressions one behind the other begins.
abbrev pub split_below : ℕ → List ℕ → Option ℕ
split_below zero ws = None
split_below (suc k) ws = cond (is_expression (map item_of (take k ws)) && is_expression (map item_of (drop k ws))) (Some k) (split_below k ws)

unfoldable pub split : List ℕ → Option ℕ
split ws = split_below (length ws) ws

-- There is one way to split them.
abbrev pub Splits : List ℕ → ℕ → Type 0
Splits ws k = (is_expression (map item_of (take k ws)) ≡ true) × (is_expression (map item_of (drop k ws)) ≡ true)

abbrev pub OneSplit : Type 0
OneSplit = (ws : List ℕ) (j k : ℕ) → Splits ws j → Splits ws k → j ≡ k

-- An expression has a value, whatever its leaves hold.
abbrev pub HasValue : {V : Type 0} → Ops V → Type 0
HasValue {V} o = (registers inputs symbols : Bank V) (e : List Item) → is_expression e ≡ true → (v : V) × (meaning (values o (λ n. Some (registers n)) (λ n. Some (inputs n)) (λ n. Some (symbols n))) e ≡ Some v)
