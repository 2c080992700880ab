-- A path followed by forward substitution: registers, known tests and outputs as forms.
use Rattle.std.specs.Prelude.{ℕ, zero, suc, Bool, true, false, cond, not, ◌&&◌, ◌||◌, List, [], ◌∷◌, ◌++◌, length, Some, None, Option, ◌==◌, nat_lt, slice_set}
use Rattle.domain.specs.Ring.{Ops}
use Rattle.expression.specs.declared.item.Item.{Item}
use Rattle.expression.specs.Run.{and_then, meaning}
use Rattle.forms.specs.Forms.{Form}
use Rattle.forms.specs.Limited.{limited}
use Rattle.machine.specs.Answer.{Answer, good, refused, ◌then◌, check}
use Rattle.machine.specs.Machine.{Machine, Action, store, emit, Row, straight, branch, row_at, chosen}
use Rattle.walk.specs.Settled.{Known, settled, all}

-- Before any value: a turn no at a straight row, or a step into state 0 before the last, is impossible (12).

-- A straight row has no branch no.
abbrev pub allows : Row → Bool → Bool
allows (straight t) turn = turn
allows (branch test left right on_yes on_no) turn = true

abbrev pub is_last : List Bool → Bool
is_last [] = true
is_last (turn ∷ path) = false

unfoldable pub in_order : (which : ℕ) → Machine → (step state : ℕ) → List Bool → Answer (Unit {0})
in_order which m i s [] = good tt
in_order which m i s (turn ∷ path) =
    let there = (chosen (row_at m s) turn).target in
    check (allows (row_at m s) turn && (is_last path || not (there == 0))) 12 which i then λ _.
    in_order which m (suc i) there path

-- On a path: the state, a form for each register, the tests known so far, and the outputs as port and form.
pub record Track (D : Type 0) : Type 0 where
  pub state : ℕ
  pub registers : List (Form D)
  pub known : List (Known D)
  pub outputs : List (ℕ × Form D)

-- The n-th of a list, if there.
abbrev pub nth : {A : Type 0} → List A → ℕ → Option A
nth [] i = None
nth (x ∷ xs) zero = Some x
nth (x ∷ xs) (suc i) = nth xs i

-- A value that must be within the limits (11).
abbrev pub fits : {X : Type 0} → Option X → Answer X
fits (Some x) = good x
fits None = refused 11 0 0

-- What actions leave.
pub record Acted (D : Type 0) : Type 0 where
  pub registers : List (Form D)
  pub outputs : List (ℕ × Form D)

module _ {D : Type 0} (o : Ops D) where
  -- The form of an expression of a table, over forms of the registers.
  abbrev pub form_in_table : List (Form D) → List Item → Option (Form D)
  form_in_table registers e = meaning (limited o (nth registers) (λ n. None)) e

  -- Actions in written order, `form` reading the registers as they were before the step. A path has at most 16 outputs.
  abbrev pub act : (form : List Item → Option (Form D)) → List Action → List (Form D) → List (ℕ × Form D) → Option (Acted D)
  act form [] registers out = Some (record { registers = registers; outputs = out })
  act form (store r e ∷ rest) registers out = and_then (form e) (λ f. act form rest (slice_set registers r f) out)
  act form (emit port e ∷ rest) registers out = and_then (form e) (λ f. cond (nat_lt (length out) 16) (act form rest registers (out ++ ((port, f) ∷ []))) None)

  -- The test that a row puts, with the answer that a turn gives it.
  abbrev pub tested : Row → Bool → List (Form D) → Option (List (Known D))
  tested (straight t) turn registers = Some []
  tested (branch test left right on_yes on_no) turn registers =
      and_then (form_in_table registers left) (λ l.
      and_then (form_in_table registers right) (λ r.
      Some (record { test = test; left = l; right = r; says = turn } ∷ [])))

  -- One step: the test's sides, what `ask` says of the turn, the actions.
  abbrev pub step : (ask : List (Known D) → Answer (Unit {0})) → Row → Bool → Track D → Answer (Track D)
  step ask row turn t =
      fits (tested row turn t.registers) then λ tests.
      ask tests then λ _.
      fits (act (form_in_table t.registers) (chosen row turn).actions t.registers t.outputs) then λ a.
      good (record { state = (chosen row turn).target; registers = a.registers; known = t.known ++ tests; outputs = a.outputs })

  unfoldable pub walk : (ask : ℕ → List (Known D) → Answer (Unit {0})) → Machine → (step : ℕ) → List Bool → Track D → Answer (Track D)
  walk ask m i [] t = good t
  walk ask m i (turn ∷ path) t = step (ask i) (row_at m t.state) turn t then λ u. walk ask m (suc i) path u

  -- The first machine's walk: each test becomes known with the turn taken.
  abbrev pub learn : ℕ → List (Known D) → Answer (Unit {0})
  learn i tests = good tt

  -- The second machine's walk: each turn must be settled by what is known (14).
  abbrev pub must : List (Known D) → ℕ → List (Known D) → Answer (Unit {0})
  must known i tests = check (all (settled o known) tests) 14 2 i
