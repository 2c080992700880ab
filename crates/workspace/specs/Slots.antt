-- Forms in slots of sixteen terms.
use Rattle.std.specs.Prelude.{◌≡◌, ℕ, ◌+◌, ◌*◌, ◌≤◌, List, [], ◌∷◌, length, take, drop, Some, None, Ok, Err, Option, Result, slice_index, slice_set}
use Rattle.forms.specs.declared.span.Span.{Span}
use Rattle.workspace.specs.Layout.{slot_count, terms_needed}

-- the form in each slot: slot k begins at place 16 k, and its form has as many terms as the lengths say
unfoldable pub slots : {X : Type 0} → List ℕ → List X → List (List X)
slots [] xs = []
slots (n ∷ ns) xs = take n xs ∷ slots ns (drop 16 xs)

-- where the form of slot k stands
abbrev pub place : List ℕ → ℕ → Span
place ns k = record { from = 16 * k; to = 16 * k + slice_index ns k }

-- lengths of at most sixteen, and a row with room for all slots and the scratch terms behind them
pub record Ready {X : Type 0} (ns : List ℕ) (xs : List X) : Type 0 where
  pub count : length ns ≡ slot_count
  pub few : (k : ℕ) → slice_index ns k ≤ 16
  pub room : terms_needed ≤ length xs

-- what a call that may refuse leaves
abbrev pub told : {U E A : Type 0} → Result U E → A → Option A
told (Ok u) a = Some a
told (Err e) a = None

-- slot k gets the form, if there is one
abbrev pub give : {A : Type 0} → ℕ → Option A → List A → Option (List A)
give k None fs = None
give k (Some p) fs = Some (slice_set fs k p)
