-- A proposed correspondence as data: pairs of states, and claims.
use Rattle.std.specs.Prelude.{ℕ, zero, suc, ◌+◌, ◌-◌, Bool, List, [], ◌∷◌, ◌++◌}
use Rattle.expression.specs.declared.item.Item.{Item}
use Rattle.expression.specs.declared.item.Item.TheVariants.{Symbol}
use Rattle.expression.specs.declared.test.Test.{Test}

-- A test of two expressions, with its answer.
pub record Fact : Type 0 where
  pub test : Test
  pub left : List Item
  pub right : List Item
  pub says : Bool

-- Two states, a count of symbols, and an expression over inputs and symbols for each register of either machine.
pub record Pair : Type 0 where
  pub state₁ : ℕ
  pub state₂ : ℕ
  pub symbols : ℕ
  pub registers₁ : List (List Item)
  pub registers₂ : List (List Item)
  pub facts : List Fact

-- n registers, each a symbol of its own, the first of them `from`
abbrev pub symbols_from : (from n : ℕ) → List (List Item)
symbols_from from zero = []
symbols_from from (suc n) = (Symbol from ∷ []) ∷ symbols_from (suc from) n

-- Pair 0: shared register r of both machines is symbol r, then each private register is a symbol of its own, the first machine's first.
abbrev pub opening_pair : (shared count₁ count₂ : ℕ) → Pair
opening_pair shared count₁ count₂ = record {
  state₁ = 0;
  state₂ = 0;
  symbols = count₁ + (count₂ - shared);
  registers₁ = symbols_from 0 count₁;
  registers₂ = symbols_from 0 shared ++ symbols_from count₁ (count₂ - shared);
  facts = [];
}

-- A claim, from a start pair along a path of the first machine: along a path of the second to an end pair, or that the first machine never takes its path.
-- Pairs go by their numbers. A path is the list of its turns; `true` is yes.
pub data Claim : Type 0 where
  live : (start end : ℕ) (path₁ path₂ : List Bool) → Claim
  infeasible : (start : ℕ) (path₁ : List Bool) → Claim
