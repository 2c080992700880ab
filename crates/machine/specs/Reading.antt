-- Reading the words of a table: the judgement, which stops at the first word that is refused, and the machine that accepted words stand for.
use Rattle.std.specs.Prelude.{ℕ, zero, suc, ◌+◌, Bool, true, false, cond, not, ◌&&◌, ◌||◌, List, [], ◌∷◌, ◌++◌, map, length, take, drop, replicate, is_some, Some, None, Option, Result, ◌==◌, nat_lt, slice_index_or, slice_set}
use Rattle.std.specs.Option.{unwrap_or}
use Rattle.expression.specs.declared.test.Test.{Test}
use Rattle.expression.specs.Words.{kind, number, item_of, test_of}
use Rattle.expression.specs.Shape.{is_expression, split}
use Rattle.machine.specs.declared.words.Limits.{Limits}
use Rattle.machine.specs.declared.words.WordFault.{WordFault}
use Rattle.machine.specs.declared.words.WordFault.TheVariants as words
use Rattle.machine.specs.declared.head.Head.{Head}
use Rattle.machine.specs.declared.table.TableFault.{TableFault}
use Rattle.machine.specs.declared.table.TableFault.TheVariants.{TooLong, Empty, BadHead, Forbidden, EndsEarly, LeftOver}
use Rattle.machine.specs.Answer.{Answer, good, refused, ◌then◌, Figures, told_by}
use Rattle.machine.specs.Words.{ends, ending, word, part, head_of, table_limits}
use Rattle.machine.specs.Machine.{Action, store, emit, Transition, Row, straight, branch, Machine}

-- The longest table, in words, and the most actions of a transition.
abbrev pub longest : ℕ
longest = 2048

abbrev pub most_actions : ℕ
most_actions = 8

-- A fault of the words as a fault of the table.
abbrev pub of_words : WordFault → TableFault
of_words (words.Forbidden p) = Forbidden p
of_words (words.EndsEarly p) = EndsEarly p

-- What each refusal of a table tells. Reading takes no machine number, so that figure is 0 here.
abbrev pub table_figures : TableFault → Figures
table_figures TooLong = record { number = 3; machine = 0; place = longest }
table_figures Empty = record { number = 3; machine = 0; place = 0 }
table_figures BadHead = record { number = 1; machine = 0; place = 0 }
table_figures (Forbidden p) = record { number = 2; machine = 0; place = p }
table_figures (EndsEarly p) = record { number = 3; machine = 0; place = p }
table_figures (LeftOver p) = record { number = 3; machine = 0; place = p }

abbrev pub told : {X : Type 0} → Result X TableFault → Answer X
told r = told_by table_figures r

-- The judgement

-- No register is stored yet.
abbrev pub fresh : List Bool
fresh = replicate 16 false

-- These words are an expression, and w may end the action: an emit, or a store in a register that the transition has not stored yet.
abbrev pub acts : List ℕ → List Bool → ℕ → Bool
acts items stored w = is_expression (map item_of items) && (kind w == 8 || (kind w == 7 && not (slice_index_or stored (number w) false)))

abbrev pub marked : List Bool → ℕ → List Bool
marked stored w = cond (kind w == 7) (slice_set stored (number w) true) stored

-- A go-to stands alone; what else ends at q is for `other`.
abbrev pub closing : List ℕ → ℕ → ℕ → Answer ℕ → Answer ℕ
closing ws p q other = cond (kind (word ws q) == 9) (cond (p == q) (good (q + 1)) (refused 2 0 q)) other

-- The place behind the transition at p, of at most k more actions.
unfoldable pub transition : Limits → List ℕ → ℕ → List Bool → ℕ → Answer ℕ
transition l ws zero stored p = ending l p (drop p ws) then λ q. closing ws p q (refused 2 0 q)
transition l ws (suc k) stored p =
    ending l p (drop p ws) then λ q.
    closing ws p q (cond (acts (part ws p q) stored (word ws q)) (transition l ws k (marked stored (word ws q)) (q + 1)) (refused 2 0 q))

-- The place behind the row at p: where a test ends its first words, those are two expressions and two transitions follow.
abbrev pub row : Limits → List ℕ → ℕ → Answer ℕ
row l ws p =
    ending l p (drop p ws) then λ q.
    cond (kind (word ws q) == 6)
    (cond (is_some (split (part ws p q))) (transition l ws most_actions fresh (q + 1) then λ n. transition l ws most_actions fresh n) (refused 2 0 q))
    (transition l ws most_actions fresh p)

-- The place behind the first n rows.
unfoldable pub rows : Limits → List ℕ → ℕ → Answer ℕ
rows l ws zero = good 1
rows l ws (suc n) = rows l ws n then λ p. row l ws p

-- Under a good head; without one the table is refused at it.
abbrev pub headed : {X : Type 0} → Option Head → (Head → Answer X) → Answer X
headed None f = refused 1 0 0
headed (Some h) f = f h

-- The judgement on the words of a table: its head, or the first refusal.
abbrev pub table : List ℕ → Answer Head
table ws =
    cond (nat_lt longest (length ws)) (refused 3 0 longest)
    (cond (length ws == 0) (refused 3 0 0)
    (headed (head_of (word ws 0)) (λ h.
    rows (table_limits h) ws h.states then λ p. cond (p == length ws) (good h) (refused 3 0 p))))

-- The machine

-- The words of an expression, and what the word that ends them does. A test has two.
pub data Part : Type 0 where
  stores : (register : ℕ) → List ℕ → Part
  emits : (port : ℕ) → List ℕ → Part
  tests : Test → (left right : List ℕ) → Part
  goes : (state : ℕ) → Part

-- Where the second of two expressions begins.
abbrev pub cut : List ℕ → ℕ
cut e = unwrap_or (split e) 0

abbrev pub part_of : List ℕ → ℕ → Part
part_of items w =
    cond (kind w == 6) (tests (test_of (number w)) (take (cut items) items) (drop (cut items) items))
    (cond (kind w == 7) (stores (number w) items) (cond (kind w == 8) (emits (number w) items) (goes (number w))))

-- The parts of a row's words, behind the items read so far.
abbrev pub parts : List ℕ → List ℕ → List Part
parts items [] = []
parts items (w ∷ ws) = cond (ends w) (part_of items w ∷ parts [] ws) (parts (items ++ w ∷ []) ws)

abbrev pub acting : Action → Transition → Transition
acting a t = record { actions = a ∷ t.actions; target = t.target }

-- The transition that begins here.
abbrev pub transition_of : List Part → Transition
transition_of [] = record { actions = []; target = 0 }
transition_of (stores n e ∷ ps) = acting (store n (map item_of e)) (transition_of ps)
transition_of (emits n e ∷ ps) = acting (emit n (map item_of e)) (transition_of ps)
transition_of (tests t l r ∷ ps) = transition_of ps
transition_of (goes n ∷ ps) = record { actions = []; target = n }

-- What stands behind the first go-to.
abbrev pub behind : List Part → List Part
behind [] = []
behind (stores n e ∷ ps) = behind ps
behind (emits n e ∷ ps) = behind ps
behind (tests t l r ∷ ps) = behind ps
behind (goes n ∷ ps) = ps

abbrev pub row_of : List Part → Row
row_of [] = straight (transition_of [])
row_of (stores n e ∷ ps) = straight (transition_of (stores n e ∷ ps))
row_of (emits n e ∷ ps) = straight (transition_of (emits n e ∷ ps))
row_of (goes n ∷ ps) = straight (transition_of (goes n ∷ ps))
row_of (tests t l r ∷ ps) = branch t (map item_of l) (map item_of r) (transition_of ps) (transition_of (behind ps))

abbrev pub found : {X : Type 0} → Answer ℕ → (ℕ → Option X) → Option X
found (good q) f = f q
found (refused n m p) f = None

-- Row number s, as the place where it begins and its words.
abbrev pub row_part : Limits → List ℕ → ℕ → Option (ℕ × List ℕ)
row_part l ws s = found (rows l ws s) (λ p. found (row l ws p) (λ q. Some (p, part ws p q)))

-- A missing row reads as none.
abbrev pub under : {X : Type 0} → Option Head → (Head → Option X) → Option X
under None f = None
under (Some h) f = f h

abbrev pub table_row : List ℕ → ℕ → Option (ℕ × List ℕ)
table_row ws s = under (head_of (word ws 0)) (λ h. cond (nat_lt s h.states) (row_part (table_limits h) ws s) None)

-- What the words of a row mean.
abbrev pub meant : Option (ℕ × List ℕ) → Row
meant None = row_of []
meant (Some w) = row_of (parts [] w.1)

unfoldable pub first_rows : Limits → List ℕ → ℕ → List Row
first_rows l ws zero = []
first_rows l ws (suc n) = first_rows l ws n ++ meant (row_part l ws n) ∷ []

abbrev pub machine_of : List ℕ → Head → Machine
machine_of ws h = record { registers = h.registers; inputs = h.inputs; rows = first_rows (table_limits h) ws h.states }

-- The machine that the words of a table stand for, or the first refusal.
abbrev pub machine : List ℕ → Answer Machine
machine ws = table ws then λ h. good (machine_of ws h)
