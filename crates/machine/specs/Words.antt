-- Which words may stand where, and where what begins at a place ends.
use Rattle.std.specs.Prelude.{◌≡◌, ℕ, ◌+◌, ◌/◌, ◌%◌, ◌<◌, ◌≤◌, Bool, true, false, not, cond, ◌&&◌, ◌||◌, length, List, [], ◌∷◌, Some, None, Option, Result, nat_le, nat_lt, slice_index, slice_range}
use Rattle.expression.specs.Words.{kind, number}
use Rattle.machine.specs.declared.words.Limits.{Limits}
use Rattle.machine.specs.declared.words.WordFault.{WordFault}
use Rattle.machine.specs.declared.words.WordFault.TheVariants.{Forbidden, EndsEarly}
use Rattle.machine.specs.declared.head.Head.{Head}
use Rattle.machine.specs.Answer.{Answer, good, refused, ◌then◌, check, Figures, told_by}

-- The numbers of a kind are those below its bound; a kind that may not stand here has bound 0.
abbrev pub bound : Limits → ℕ → ℕ
bound l k = slice_index (0 ∷ 0x10000000 ∷ l.registers ∷ l.inputs ∷ l.symbols ∷ 4 ∷ l.tests ∷ l.stores ∷ l.ports ∷ l.states ∷ []) k

abbrev pub legal : Limits → ℕ → Bool
legal l w = nat_lt (number w) (bound l (kind w))

-- A test, store, emit or go-to ends what stands before it.
abbrev pub ends : ℕ → Bool
ends w = nat_le 6 (kind w)

-- The place of the word that ends what begins at p, of which these words are left: 2 at a word that may not stand here, 3 where the words run out.
-- (Where other numbers are told, these are renumbered.)
abbrev pub ending : Limits → ℕ → List ℕ → Answer ℕ
ending l p [] = refused 3 0 p
ending l p (w ∷ ws) = check (legal l w) 2 0 p then λ _. cond (ends w) (good p) (ending l (p + 1) ws)

-- A word at which the search for an end stops.
abbrev pub stops : Limits → ℕ → Bool
stops l w = not (legal l w) || ends w

-- The first place from p on whose word passes the test, if there is one.
abbrev pub FirstPlace : (ℕ → Bool) → List ℕ → ℕ → Option ℕ → Type 0
FirstPlace test ws p None = (k : ℕ) → p ≤ k → k < length ws → test (slice_index ws k) ≡ false
FirstPlace test ws p (Some q) = (p ≤ q) × (q < length ws) × (test (slice_index ws q) ≡ true) × ((k : ℕ) → p ≤ k → k < q → test (slice_index ws k) ≡ false)

-- The first place from p on whose word ends what stands before it.
abbrev pub FirstEnd : List ℕ → ℕ → Option ℕ → Type 0
FirstEnd = FirstPlace ends

abbrev pub word_figures : WordFault → Figures
word_figures (Forbidden p) = record { number = 2; machine = 0; place = p }
word_figures (EndsEarly p) = record { number = 3; machine = 0; place = p }

abbrev pub word_told : {X : Type 0} → Result X WordFault → Answer X
word_told r = told_by word_figures r

abbrev pub word : List ℕ → ℕ → ℕ
word ws p = slice_index ws p

-- The words from p up to q.
abbrev pub part : List ℕ → ℕ → ℕ → List ℕ
part ws p q = slice_range ws p q

-- The counts of a head: bits 16 and up count states, 8 to 15 registers, 0 to 7 inputs.
abbrev pub counts : ℕ → Head
counts w = record { states = w / 65536; registers = w / 256 % 256; inputs = w % 256 }

abbrev pub good_counts : Head → Bool
good_counts h = nat_le 1 h.states && (nat_le h.states 64 && (nat_le h.registers 16 && nat_le h.inputs 8))

-- The head that a word is, if its counts are in range; then its upper bits are zero.
abbrev pub head_of : ℕ → Option Head
head_of w = cond (good_counts (counts w)) (Some (counts w)) None

-- What may stand in a table with this head: no symbol, two tests, sixteen ports.
abbrev pub table_limits : Head → Limits
table_limits h = record { registers = h.registers; inputs = h.inputs; symbols = 0; tests = 2; stores = h.registers; ports = 16; states = h.states }
