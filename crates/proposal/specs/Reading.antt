-- The words of pairs and claims: how they are read, stopping at the first that is refused.
use Rattle.std.specs.Prelude.{ℕ, zero, suc, ◌+◌, ◌/◌, ◌%◌, ◌^◌, Bool, true, false, cond, not, ◌&&◌, ◌||◌, List, [], ◌∷◌, map, length, take, drop, is_some, ◌==◌, nat_eq, nat_le, nat_lt, slice_index, slice_index_or}
use Rattle.expression.specs.declared.item.Item.{Item}
use Rattle.expression.specs.declared.item.Item.TheVariants.{Symbol}
use Rattle.expression.specs.Words.{kind, number, item_of, test_of}
use Rattle.expression.specs.Shape.{is_expression, split}
use Rattle.machine.specs.declared.words.Limits.{Limits}
use Rattle.machine.specs.Answer.{Answer, good, ◌then◌, check, numbered}
use Rattle.machine.specs.Words.{ending, word, part}
use Rattle.machine.specs.Reading.{cut}
use Rattle.machine.specs.declared.head.Head.{Head}
use Rattle.proposal.specs.Proposal.{Fact, Pair, Claim, live, infeasible}

-- What was read, and the place behind it.
pub record Read (X : Type 0) : Type 0 where
  pub value : X
  pub place : ℕ

abbrev pub read : {X : Type 0} → X → ℕ → Read X
read x p = record { value = x; place = p }

-- `refusal` is 6 in a pair, 7 in a claim.
module _ (refusal : ℕ) where
  -- The word at a place.
  abbrev pub word_at : List ℕ → (place : ℕ) → Answer ℕ
  word_at ws p = check (nat_lt p (length ws)) refusal 0 p then λ _. good (word ws p)

  -- No words are left over.
  abbrev pub no_more : List ℕ → (place : ℕ) → Answer (Unit {0})
  no_more ws p = check (p == length ws) refusal 0 p

  -- The expression at p, ended by a store of the number that is due.
  abbrev pub stored : Limits → (due : ℕ) → List ℕ → ℕ → Answer (Read (List Item))
  stored l due ws p =
      numbered refusal (ending l p (drop p ws)) then λ q.
      check (is_expression (map item_of (part ws p q)) && (kind (word ws q) == 7 && number (word ws q) == due)) refusal 0 q then λ _.
      good (read (map item_of (part ws p q)) (q + 1))

  -- One for each number that is due.
  unfoldable pub all_stored : Limits → (due : List ℕ) → List ℕ → ℕ → Answer (Read (List (List Item)))
  all_stored l [] ws p = good (read [] p)
  all_stored l (r ∷ due) ws p =
      stored l r ws p then λ x.
      all_stored l due ws x.place then λ y.
      good (read (x.value ∷ y.value) y.place)

-- The lowest n bits, the lowest first.
abbrev pub bits : ℕ → ℕ → List Bool
bits zero w = []
bits (suc n) w = (w % 2 == 1) ∷ bits n (w / 2)

abbrev pub count_from : (from n : ℕ) → List ℕ
count_from from zero = []
count_from from (suc n) = from ∷ count_from (suc from) n

-- What may stand in a proposal: inputs and symbols; tests and stores as said.
abbrev pub proposal_limits : (inputs symbols tests stores : ℕ) → Limits
proposal_limits inputs symbols tests stores = record { registers = 0; inputs = inputs; symbols = symbols; tests = tests; stores = stores; ports = 0; states = 0 }

-- Pairs

pub record HeadOfPair : Type 0 where
  pub state₁ : ℕ
  pub state₂ : ℕ
  pub symbols : ℕ
  pub facts : ℕ

abbrev pub pair_head : ℕ → HeadOfPair
pair_head n = record { state₁ = n % 256; state₂ = n / 256 % 256; symbols = n / 65536 % 64; facts = n / 4194304 }

-- A state other than reset, which exists.
abbrev pub is_state : (states state : ℕ) → Bool
is_state states s = not (s == 0) && nat_lt s states

-- The first word of a pair: malformed (6), then a state that is 0 or missing (8).
unfoldable pub read_pair_head : (states₁ states₂ : ℕ) → ℕ → Answer HeadOfPair
read_pair_head states₁ states₂ w =
    let h = pair_head (number w) in
    check (kind w == 10 && (nat_le h.symbols 32 && nat_le h.facts 8)) 6 0 0 then λ _.
    check (is_state states₁ h.state₁ && is_state states₂ h.state₂) 8 0 0 then λ _.
    good h

-- A register without a bit stands for the symbol of its number, which must exist.
abbrev pub symbols_exist : List Bool → (register symbols : ℕ) → Bool
symbols_exist [] r n = true
symbols_exist (bit ∷ mask) r n = (bit || nat_lt r n) && symbols_exist mask (suc r) n

unfoldable pub read_mask : (registers symbols place : ℕ) → ℕ → Answer (List Bool)
read_mask registers symbols place w =
    let mask = bits registers (number w) in
    check (kind w == 14 && (nat_lt (number w) (2 ^ registers) && symbols_exist mask 0 symbols)) 6 0 place then λ _.
    good mask

-- The registers that have an expression.
abbrev pub due : List Bool → (register : ℕ) → List ℕ
due [] r = []
due (true ∷ mask) r = r ∷ due mask (suc r)
due (false ∷ mask) r = due mask (suc r)

abbrev pub registers_of : List Bool → (register : ℕ) → List (List Item) → List (List Item)
registers_of [] r es = []
registers_of (false ∷ mask) r es = (Symbol r ∷ []) ∷ registers_of mask (suc r) es
registers_of (true ∷ mask) r [] = [] ∷ registers_of mask (suc r) []
registers_of (true ∷ mask) r (e ∷ es) = e ∷ registers_of mask (suc r) es

-- A fact: two expressions and a test, of which bit 1 is the answer.
abbrev pub read_fact : Limits → List ℕ → ℕ → Answer (Read Fact)
read_fact l ws p =
    numbered 6 (ending l p (drop p ws)) then λ q.
    let e = part ws p q in
    let n = number (word ws q) in
    check (kind (word ws q) == 6 && is_some (split e)) 6 0 q then λ _.
    good (read (record { test = test_of n; left = map item_of (take (cut e) e); right = map item_of (drop (cut e) e); says = (n / 2 == 1) }) (q + 1))

unfoldable pub read_facts : Limits → ℕ → List ℕ → ℕ → Answer (Read (List Fact))
read_facts l zero ws p = good (read [] p)
read_facts l (suc n) ws p =
    read_fact l ws p then λ x.
    read_facts l n ws x.place then λ y.
    good (read (x.value ∷ y.value) y.place)

-- Masks, expressions, facts, and nothing behind them.
unfoldable pub read_body : (one two : Head) → List ℕ → HeadOfPair → Answer Pair
read_body one two ws h =
    word_at 6 ws 1 then λ v.
    read_mask one.registers h.symbols 1 v then λ mask₁.
    word_at 6 ws 2 then λ w.
    read_mask two.registers h.symbols 2 w then λ mask₂.
    let l = proposal_limits one.inputs h.symbols 4 16 in
    all_stored 6 l (due mask₁ 0) ws 3 then λ x.
    all_stored 6 l (due mask₂ 0) ws x.place then λ y.
    read_facts l h.facts ws y.place then λ z.
    no_more 6 ws z.place then λ _.
    good (record { state₁ = h.state₁; state₂ = h.state₂; symbols = h.symbols; registers₁ = registers_of mask₁ 0 x.value; registers₂ = registers_of mask₂ 0 y.value; facts = z.value })

-- A pair of two machines with these counts.
unfoldable pub read_pair : (one two : Head) → List ℕ → Answer Pair
read_pair one two ws =
    word_at 6 ws 0 then λ w.
    read_pair_head one.states two.states w then λ h.
    read_body one two ws h

-- Claims

pub record HeadOfClaim : Type 0 where
  pub start : ℕ
  pub end : ℕ
  pub infeasible : Bool

-- The first word of a claim. The end pair of an infeasible one is 0.
unfoldable pub read_claim_head : ℕ → Answer HeadOfClaim
read_claim_head w =
    let n = number w in
    let infeasible = nat_eq (n / 65536) 1 in
    check (kind w == 11 && (nat_le (n / 65536) 1 && (not infeasible || n / 256 % 256 == 0))) 7 0 0 then λ _.
    good (record { start = n % 256; end = n / 256 % 256; infeasible = infeasible })

-- A path: its length, then the turns, 1 for no.
unfoldable pub read_path : (which place : ℕ) → ℕ → Answer (List Bool)
read_path which place w =
    let n = number w in
    let steps = n % 32 in
    check (kind w == which && (nat_le 1 steps && (nat_le steps 16 && (n / 32 % 8 == 0 && nat_lt (n / 256) (2 ^ steps))))) 7 0 place then λ _.
    good (map not (bits steps (n / 256)))

-- A claim as read. A live one has an expression for each symbol of its end pair.
pub record Proposed : Type 0 where
  pub claim : Claim
  pub substitution : List (List Item)

-- Below: the input count, and how many symbols each filed pair has.
module _ (inputs : ℕ) (symbols : List ℕ) where
  abbrev pub is_filed_pair : ℕ → Bool
  is_filed_pair p = nat_lt p (length symbols)

  -- The second path (7), pairs not filed (9), the substitution and nothing behind it (7).
  abbrev pub read_live : List ℕ → HeadOfClaim → (path₁ : List Bool) → Answer Proposed
  read_live ws h path₁ =
      word_at 7 ws 2 then λ w.
      read_path 13 2 w then λ path₂.
      check (is_filed_pair h.start && is_filed_pair h.end) 9 0 0 then λ _.
      let stores = slice_index_or symbols h.end 0 in
      let l = proposal_limits inputs (slice_index symbols h.start) 0 stores in
      all_stored 7 l (count_from 0 stores) ws 3 then λ x.
      no_more 7 ws x.place then λ _.
      good (record { claim = live h.start h.end path₁ path₂; substitution = x.value })

  abbrev pub read_infeasible : List ℕ → HeadOfClaim → (path₁ : List Bool) → Answer Proposed
  read_infeasible ws h path₁ =
      check (is_filed_pair h.start) 9 0 0 then λ _.
      no_more 7 ws 2 then λ _.
      good (record { claim = infeasible h.start path₁; substitution = [] })

  unfoldable pub read_claim : List ℕ → Answer Proposed
  read_claim ws =
      word_at 7 ws 0 then λ v.
      read_claim_head v then λ h.
      word_at 7 ws 1 then λ w.
      read_path 12 1 w then λ path₁.
      cond h.infeasible (read_infeasible ws h path₁) (read_live ws h path₁)
