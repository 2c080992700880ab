-- Parts of a row, and what an operation on a row leaves as it was.
use Rattle.std.specs.Prelude.{◌≡◌, ℕ, ◌+◌, ◌-◌, ◌≤◌, List, ◌++◌, length, take, drop}
use Rattle.forms.specs.declared.span.Span.{Span}

-- the elements of a row from `from` on and before `to`
abbrev pub part : {X : Type 0} → Span → List X → List X
part s xs = take (s.to - s.from) (drop s.from xs)

-- a part that lies below n
pub record Within (s : Span) (n : ℕ) : Type 0 where
  pub ordered : s.from ≤ s.to
  pub below : s.to ≤ n

-- `row` is `base` with `out` written from `at` on
pub record Written {X : Type 0} (at : ℕ) (base out row : List X) : Type 0 where
  pub fits : at + length out ≤ length base
  pub is : row ≡ take at base ++ (out ++ drop (at + length out) base)

-- `row` is as long as `base`, and the first n elements are the same
pub record Kept {X : Type 0} (n : ℕ) (base row : List X) : Type 0 where
  pub long : length row ≡ length base
  pub same : take n row ≡ take n base

-- `out` stands in `row` at the part s, from `at` on, and what is below `at` is as in `base`
pub record Put {X : Type 0} (at : ℕ) (base out row : List X) (s : Span) : Type 0 where
  pub from : s.from ≡ at
  pub to : s.to ≡ at + length out
  pub is : part s row ≡ out
  pub kept : Kept at base row
