-- Going through the words of a pair or claim that was read: where the next expression or fact ends, and what that place is good for.
use Rattle.std.specs.Prelude.{◌≡◌, ℕ, suc, ◌+◌, ◌/◌, ◌<◌, ◌≤◌, true, false, cond, List, [], ◌∷◌, map, length, drop, ◌==◌, nat_lt}
use Rattle.expression.specs.declared.item.Item.{Item}
use Rattle.expression.specs.declared.test.Test.TheVariants.{Same}
use Rattle.expression.specs.Words.{kind, number, item_of, test_of}
use Rattle.expression.specs.Shape.{is_expression}
use Rattle.machine.specs.declared.words.Limits.{Limits}
use Rattle.machine.specs.Answer.{good}
use Rattle.machine.specs.Words.{ends, word, part}
use Rattle.machine.specs.Reading.{cut}
use Rattle.proposal.specs.declared.cursor.FactAt.{FactAt}
use Rattle.proposal.specs.Proposal.{Fact}
use Rattle.proposal.specs.Reading.{read, all_stored, read_facts}

-- The place of the first word that ends something, of these words from p on, or the place behind them.
abbrev pub next_end : ℕ → List ℕ → ℕ
next_end p [] = p
next_end p (w ∷ ws) = cond (ends w) p (next_end (p + 1) ws)

-- e ends the expression at p, the first of those that were read; behind it stand the others.
pub record StoredCut (refusal : ℕ) (l : Limits) (register : ℕ) (due : List ℕ) (ws : List ℕ) (p e : ℕ) (es : List (List Item)) (q : ℕ) : Type 0 where
  pub from : p ≤ e
  pub within : e < length ws
  pub expression : is_expression (map item_of (part ws p e)) ≡ true
  pub store : (kind (word ws e) ≡ 7) × (number (word ws e) ≡ register)
  pub first : es ≡ map item_of (part ws p e) ∷ drop 1 es
  pub rest : all_stored refusal l due ws (e + 1) ≡ good (read (drop 1 es) q)

-- Where words were read as expressions, one ends at e and the others follow.
abbrev pub CutsStored : List ℕ → (p e : ℕ) → Type 0
CutsStored ws p e = (refusal : ℕ) (l : Limits) (register : ℕ) (due : List ℕ) (es : List (List Item)) (q : ℕ) → all_stored refusal l (register ∷ due) ws p ≡ good (read es q) → StoredCut refusal l register due ws p e es q

-- The fact whose words begin at p and end at e.
abbrev pub fact_places : List ℕ → (p e : ℕ) → FactAt
fact_places ws p e =
    cond (nat_lt e (length ws))
    (record { cut = p + cut (part ws p e); end = e; test = test_of (number (word ws e)); says = (number (word ws e) / 2 == 1) })
    (record { cut = p; end = e; test = Same; says = false })

abbrev pub fact_of : List ℕ → ℕ → FactAt → Fact
fact_of ws p f = record { test = f.test; left = map item_of (part ws p f.cut); right = map item_of (part ws f.cut f.end); says = f.says }

-- f is the fact at p, the first of those that were read; behind it stand the others.
pub record FactCut (l : Limits) (n : ℕ) (ws : List ℕ) (p : ℕ) (f : FactAt) (fs : List Fact) (q : ℕ) : Type 0 where
  pub from : p ≤ f.cut
  pub before : f.cut ≤ f.end
  pub within : f.end < length ws
  pub left : is_expression (map item_of (part ws p f.cut)) ≡ true
  pub right : is_expression (map item_of (part ws f.cut f.end)) ≡ true
  pub first : fs ≡ fact_of ws p f ∷ drop 1 fs
  pub rest : read_facts l n ws (f.end + 1) ≡ good (read (drop 1 fs) q)

abbrev pub CutsFact : List ℕ → ℕ → FactAt → Type 0
CutsFact ws p f = (l : Limits) (n : ℕ) (fs : List Fact) (q : ℕ) → read_facts l (suc n) ws p ≡ good (read fs q) → FactCut l n ws p f fs q
