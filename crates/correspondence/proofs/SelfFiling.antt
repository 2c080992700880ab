-- The proposal of a table beside itself is clean and covers every pair.
use Rattle.std.proofs.Common.{◌≡◌, ℕ, zero, suc, ◌+◌, ◌-◌, ◌*◌, ◌<◌, ◌≤◌, Bool, true, false, cond, not, ◌&&◌, eqb, ltb, leb, ◌⊎◌, List, [], ◌∷◌, ◌++◌, map, length, get_or, sym, refl, ap, ◌∙◌, subst, ap₂, subst₂, inl, inr, append_assoc, append-nil, arith, length-append}
use mathlib.Core.Bool.{false≢true}
use mathlib.Core.List.Memᴰ
use mathlib.Core.List.{Memᴰ}
use native.Mathlib.Decide.{dec_lt}
use lib.ListN.{length-map}
use lib.Seq.{get_or_at}
use Rattle.std.proofs.lemmas.Bool.{and_from, and_left, and_right, or_from, eq-eqb, ne_eqb, lt-ltb, le-leb, not_from_false}
use Rattle.std.proofs.lemmas.List.{length_push, get_or_append_left, get_or_push}
use Rattle.domain.specs.Ring.{Ops}
use Rattle.expression.specs.declared.item.Item.{Item}
use Rattle.expression.specs.declared.item.Item.TheVariants.{Constant, Register, Input, Symbol, Sum, Difference, Product, Negation}
use Rattle.expression.specs.Words.{takes}
use Rattle.expression.specs.Shape.{lands, is_expression}
use Rattle.machine.specs.declared.words.Limits.{Limits}
use Rattle.machine.specs.Answer.{good, check}
use Rattle.machine.specs.Machine.{Machine, Action, store, emit, Transition, Row, straight, branch, row_at, chosen, Each}
use Rattle.machine.specs.Sound.{ItemStands, ExpressionStands, ActionStands, TransitionStands, RowStands, SoundMachine}
use Rattle.walk.specs.Settled.{any}
use Rattle.walk.specs.Walk.{allows, in_order}
use Rattle.walk.proofs.SettledLaw.{Theory}
use Rattle.proposal.specs.Proposal.{Pair, Claim, live, opening_pair, symbols_from}
use Rattle.correspondence.specs.State.{Open, pair_at, counts_of, symbols_of}
use Rattle.proposal.specs.Reading.{read, word_at, all_stored, bits, count_from, proposal_limits, read_pair_head, read_mask, due, read_facts, read_body, read_pair, HeadOfClaim, read_claim_head, read_path, Proposed, read_live, read_claim}
use Rattle.correspondence.specs.Judgement.{live_rules, judge}
use Rattle.correspondence.specs.Coverage.{Filed, as_live, Continues, filed, begun, AllCovered, is_path, is_filed, claim_start, claim_path}
use Rattle.correspondence.specs.Calls.{Part, opened, filing, filing_all, CleanCovers}
use Rattle.correspondence.specs.Itself.{as_symbol, carried, substitutes, stores_words, step_word, self_pair_words, self_pairs, self_claim, self_claims, self_proposal_of, self_proposal, ActionWithin, RowWithin, NoneOver}
use Rattle.correspondence.proofs.Filing.{symbols_count}
use Rattle.correspondence.proofs.SelfRules.{go_on, go_check, self_pair, TestWithin, StoredThere, rules_hold}
use Rattle.correspondence.proofs.WrittenBack.{May, reads_all, reads_word, reads_claim_head, reads_first, reads_second, reads_pair_head, reads_mask, none_due, all_symbols}

-- Registers as symbols keep an expression one.

takes_renamed : (i : Item) → takes (as_symbol i) ≡ takes i
takes_renamed (Constant n) = refl
takes_renamed (Register n) = refl
takes_renamed (Input n) = refl
takes_renamed (Symbol n) = refl
takes_renamed Sum = refl
takes_renamed Difference = refl
takes_renamed Product = refl
takes_renamed Negation = refl

lands_renamed : (d : ℕ) (e : List Item) → lands d (map as_symbol e) ≡ lands d e
lands_renamed d [] = refl
lands_renamed d (i ∷ e) = ap (λ t. leb t d && (leb (d - t + 1) 8 && lands (d - t + 1) (map as_symbol e))) (takes_renamed i) ∙ ap (λ x. leb (takes i) d && (leb (d - takes i + 1) 8 && x)) (lands_renamed (d - takes i + 1) e)

still_expression : (e : List Item) → is_expression (map as_symbol e) ≡ is_expression e
unfolding is_expression
still_expression e = ap₂ (λ n x. leb n 24 && x) (length-map e as_symbol) (lands_renamed 0 e)

symbol_expression : (n : ℕ) → is_expression (Symbol n ∷ []) ≡ true
unfolding is_expression
symbol_expression n = refl

-- What the substitution of a step may hold.
module _ (R I : ℕ) (few : R ≤ 16) (few_inputs : I ≤ 8) where
  abbrev limits : Limits
  limits = proposal_limits I R 0 R

  abbrev Legal : List Item → Type 0
  Legal e = Each (May limits) e × (is_expression e ≡ true)

  item_may : (i : Item) → ItemStands R I i → May limits (as_symbol i)
  item_may (Constant n) h = h
  item_may (Register n) h = (h, omega arith)
  item_may (Input n) h = (h, omega arith)
  item_may (Symbol n) h = absurd h
  item_may Sum h = tt
  item_may Difference h = tt
  item_may Product h = tt
  item_may Negation h = tt

  items_may : (e : List Item) → Each (ItemStands R I) e → Each (May limits) (map as_symbol e)
  items_may [] h = tt
  items_may (i ∷ e) h = (item_may i h.0, items_may e h.1)

  renamed_legal : (e : List Item) → ExpressionStands R I e → Legal (map as_symbol e)
  renamed_legal e h = (items_may e h.1, still_expression e ∙ h.0)

  either_legal : (t : Bool) (x y : List Item) → Legal x → Legal y → Legal (cond t x y)
  either_legal true x y h k = h
  either_legal false x y h k = k

  carried_legal : (actions : List Action) → Each (ActionStands R I) actions → (r : ℕ) (e : List Item) → Legal e → Legal (carried r actions e)
  carried_legal [] h r e k = k
  carried_legal (store s x ∷ rest) h r e k = carried_legal rest h.1 r _ (either_legal (eqb r s) (map as_symbol x) e (renamed_legal x h.0.1) k)
  carried_legal (emit port x ∷ rest) h r e k = carried_legal rest h.1 r e k

  substitutes_legal : (actions : List Action) → Each (ActionStands R I) actions → (r n : ℕ) → r + n ≤ R → Each Legal (substitutes actions r n)
  substitutes_legal actions h r zero k = tt
  substitutes_legal actions h r (suc n) k =
      let may_symbol : Legal (Symbol r ∷ []) = (((omega arith, omega arith), tt), symbol_expression r) in
      (carried_legal actions h r (Symbol r ∷ []) may_symbol, substitutes_legal actions h (suc r) n (omega arith))

  substitutes_count : (actions : List Action) (r n : ℕ) → length (substitutes actions r n) ≡ n
  substitutes_count actions r zero = refl
  substitutes_count actions r (suc n) = ap suc (substitutes_count actions (suc r) n)

symbols_at : (ps : List Pair) (p : ℕ) (q : Pair) → p < length ps → get_or (symbols_of ps) p 0 ≡ (get_or ps p q).symbols
symbols_at [] p q h = absurd (omega arith)
symbols_at (x ∷ ps) zero q h = refl
symbols_at (x ∷ ps) (suc p) q h = symbols_at ps p q (omega arith)

-- Pair p is at state p.
record Paired (R n : ℕ) (ps : List Pair) : Type 0 where
  count : length ps ≡ n
  each : (p : ℕ) → p < n → get_or ps p (opening_pair R R R) ≡ self_pair R p

opening_is : (R : ℕ) → opening_pair R R R ≡ self_pair R 0
opening_is R = λ i. record { state₁ = 0; state₂ = 0; symbols = n i; registers₁ = symbols_from 0 R; registers₂ = e i; facts = [] }
  where
    n : R + (R - R) ≡ R
    n = omega arith

    e : symbols_from 0 R ++ symbols_from R (R - R) ≡ symbols_from 0 R
    e = let z : R - R ≡ 0 = omega arith in ap (λ k. symbols_from 0 R ++ symbols_from R k) z ∙ append-nil (symbols_from 0 R)

paired_first : (R : ℕ) → Paired R 1 (opening_pair R R R ∷ [])
paired_first R = record { count = refl; each = first }
  where
    first : (p : ℕ) → p < 1 → get_or (opening_pair R R R ∷ []) p (opening_pair R R R) ≡ self_pair R p
    first zero l = opening_is R
    first (suc p) l = absurd (omega arith)

paired_more : (R n : ℕ) (ps : List Pair) → Paired R n ps → Paired R (suc n) (ps ++ (self_pair R n ∷ []))
paired_more R n ps h = record { count = length_push ps (self_pair R n) ∙ omega (arith, h.count); each = λ p l. go p l (dec_lt p n) }
  where
    go : (p : ℕ) → p < suc n → Dec (p < n) → get_or (ps ++ (self_pair R n ∷ [])) p (opening_pair R R R) ≡ self_pair R p
    go p l (yes k) = get_or_append_left ps (self_pair R n ∷ []) (opening_pair R R R) p (omega (arith, h.count)) ∙ h.each p k
    go p l (no k) =
        let e : n ≡ p = omega arith in
        get_or_push ps (self_pair R n) (opening_pair R R R) p (h.count ∙ e) ∙ ap (self_pair R) e

-- The claims that are filed of the rows from state s on.
abbrev own : ℕ → List Row → List Claim
own s [] = []
own s (straight t ∷ rows) = live s t.target (true ∷ []) (true ∷ []) ∷ own (suc s) rows
own s (branch test l r on_yes on_no ∷ rows) = live s on_yes.target (true ∷ []) (true ∷ []) ∷ (live s on_no.target (false ∷ []) (false ∷ []) ∷ own (suc s) rows)

allows_yes : (row : Row) → allows row true ≡ true
allows_yes (straight t) = refl
allows_yes (branch test l r on_yes on_no) = refl

continues_allows : (row : Row) (u : Bool) → Continues row u → allows row u ≡ true
continues_allows (straight t) u h = h
continues_allows (branch test l r on_yes on_no) u h = refl

any_false : {A : Type 0} (f : A → Bool) (xs : List A) → ((x : A) → Memᴰ x xs → f x ≡ false) → any f xs ≡ false
any_false f [] h = refl
any_false f (x ∷ xs) h = or_from _ _ (h x (Memᴰ.head refl)) (any_false f xs (λ y k. h y (Memᴰ.tail k)))

one_in_order : (which : ℕ) (m : Machine) (s : ℕ) (row : Row) (turn : Bool) → row_at m s ≡ row → allows row turn ≡ true → in_order which m 0 s (turn ∷ []) ≡ good tt
unfolding in_order
one_in_order which m s row turn is may = go_check (allows (row_at m s) turn && true) 12 which 0 _ tt (and_from _ _ (ap (λ r. allows r turn) is ∙ may) refl) refl

module _ {D : Type 0} (o : Ops D) (theory : Theory o) (m : Machine) (sound : SoundMachine m) where
  abbrev R : ℕ
  R = m.registers

  abbrev states : ℕ
  states = length m.rows

  abbrev book : List Pair → List Claim → ℕ → Open
  book ps cs words = record { machine₁ = m; machine₂ = m; shared = R; pairs = ps; claims = cs; words = words }

  few_symbols : R ≤ 32
  few_symbols = let h = sound.few_registers in omega arith

  -- A turn of a row, with what an accepted table within the limits keeps of it.
  record SoundTurn (row : Row) (turn : Bool) : Type 0 where
    may : allows row turn ≡ true
    tests : TestWithin o theory R few_symbols row
    actions : Each (ActionWithin o R) (chosen row turn).actions
    stands : TransitionStands R m.inputs states (chosen row turn)

  -- No claim on file is from this pair with this path.
  abbrev Unfiled : List Claim → ℕ → List Bool → Type 0
  Unfiled cs s path = (c : Claim) → Memᴰ c cs → (eqb (claim_start c) s && is_path path (claim_path c)) ≡ false

  stored_there : (actions : List Action) → Each (ActionStands R m.inputs) actions → Each (StoredThere o theory R few_symbols) actions
  stored_there [] h = tt
  stored_there (store r e ∷ rest) h = (h.0.0, stored_there rest h.1)
  stored_there (emit port e ∷ rest) h = (tt, stored_there rest h.1)

  -- A claim for one turn

  module _ (ps : List Pair) (cs : List Claim) (words : ℕ) (paired : Paired R states ps) (s : ℕ) (row : Row) (turn : Bool) (is : row_at m s ≡ row) (there : s < states) (sound_turn : SoundTurn row turn) where
    abbrev t : Transition
    t = chosen row turn

    abbrev es : List (List Item)
    es = substitutes t.actions 0 R

    abbrev ws : List ℕ
    ws = (0xB0000000 + s + t.target * 256) ∷ step_word 0xC0000000 turn ∷ step_word 0xD0000000 turn ∷ stores_words 0 es

    abbrev proposed : Proposed
    proposed = record { claim = live s t.target (turn ∷ []) (turn ∷ []); substitution = es }

    legal : Each (Legal R m.inputs sound.few_registers sound.few_inputs) es
    legal = substitutes_legal R m.inputs sound.few_registers sound.few_inputs t.actions sound_turn.stands.each 0 R (omega arith)

    target_there : t.target < states
    target_there = sound_turn.stands.target_there

    start_is : pair_at (book ps cs words) s ≡ self_pair R s
    start_is = paired.each s there

    end_is : pair_at (book ps cs words) t.target ≡ self_pair R t.target
    end_is = paired.each t.target target_there

    reads_own : read_claim m.inputs (symbols_of ps) ws ≡ good proposed
    unfolding read_claim
    reads_own =
        let h : HeadOfClaim = record { start = s; end = t.target; infeasible = false } in
        let few = sound.most in
        let count = substitutes_count R m.inputs sound.few_registers sound.few_inputs t.actions 0 R in
        let start_symbols : get_or (symbols_of ps) s 0 ≡ R = symbols_at ps s _ (omega (arith, paired.count)) ∙ ap (λ (q : Pair). q.symbols) start_is in
        let end_symbols : get_or (symbols_of ps) t.target 0 ≡ R = symbols_at ps t.target _ (omega (arith, paired.count, target_there)) ∙ ap (λ (q : Pair). q.symbols) end_is in
        let sizes = symbols_count ps in
        let front = (0xB0000000 + s + t.target * 256) ∷ step_word 0xC0000000 turn ∷ step_word 0xD0000000 turn ∷ [] in
        let l : Limits = proposal_limits m.inputs R 0 R in
        let plain : all_stored 7 l (count_from 0 (length es)) ws 3 ≡ good (read es (length ws)) = reads_all 7 l es 0 front ws 3 refl refl legal (omega (arith, count)) (omega (arith, sound.few_registers)) in
        let stores : all_stored 7 (proposal_limits m.inputs (get_or (symbols_of ps) s 0) 0 (get_or (symbols_of ps) t.target 0)) (count_from 0 (get_or (symbols_of ps) t.target 0)) ws 3 ≡ good (read es (length ws)) =
        ap₂ (λ x y. all_stored 7 (proposal_limits m.inputs x 0 y) (count_from 0 y) ws 3) start_symbols end_symbols ∙ ap (λ n. all_stored 7 l (count_from 0 n) ws 3) (sym count) ∙ plain in
        let paired_count = paired.count in
        let rest : read_live m.inputs (symbols_of ps) ws h (turn ∷ []) ≡ good proposed =
        go_on (word_at 7 ws 2) (step_word 0xD0000000 turn) _ proposed (reads_word 7 ws 2 (omega arith))
        (go_on (read_path 13 2 (step_word 0xD0000000 turn)) (turn ∷ []) _ proposed (reads_second turn)
        (go_check _ 9 0 0 _ proposed (and_from _ _ (lt-ltb s (length (symbols_of ps)) (omega arith)) (lt-ltb t.target (length (symbols_of ps)) (omega (arith, target_there))))
        (go_on _ (read es (length ws)) _ proposed stores
        (go_on _ tt _ proposed (go_one (length ws)) refl)))) in
        go_on (word_at 7 ws 0) (0xB0000000 + s + t.target * 256) _ proposed (reads_word 7 ws 0 (omega arith))
        (go_on (read_claim_head (0xB0000000 + s + t.target * 256)) h _ proposed (reads_claim_head s t.target (omega arith) (omega (arith, target_there)))
        (go_on (word_at 7 ws 1) (step_word 0xC0000000 turn) _ proposed (reads_word 7 ws 1 (omega arith))
        (go_on (read_path 12 1 (step_word 0xC0000000 turn)) (turn ∷ []) _ proposed (reads_first turn) rest)))
      where
        go_one : (n : ℕ) → check (eqb n n) 7 0 n ≡ good tt
        go_one n = ap (λ b. check b 7 0 n) (eq-eqb n n refl)

    judged_own : Unfiled cs s (turn ∷ []) → judge o (book ps cs words) (live s t.target (turn ∷ []) (turn ∷ [])) es ≡ good tt
    unfolding judge
    judged_own new =
        let b = book ps cs words in
        go_check (not (is_filed b s (turn ∷ []))) 10 0 0 _ tt (not_from_false _ (any_false _ cs new))
        (go_on _ tt _ tt (subst (λ p. in_order 1 m 0 p.state₁ (turn ∷ []) ≡ good tt) (sym start_is) (one_in_order 1 m s row turn is sound_turn.may))
        (go_on _ tt _ tt (subst (λ p. in_order 2 m 0 p.state₂ (turn ∷ []) ≡ good tt) (sym start_is) (one_in_order 2 m s row turn is sound_turn.may))
        (subst₂ (λ p q. live_rules o m m p q (turn ∷ []) (turn ∷ []) es ≡ good tt) (sym start_is) (sym end_is)
        (rules_hold o theory R few_symbols m s row turn is sound_turn.tests sound_turn.actions (stored_there t.actions sound_turn.stands.each) sound_turn.stands.few))))

    claim_filed : length cs < 512 → Unfiled cs s (turn ∷ []) → filing o (book ps cs words) (self_claim R s turn t) ≡ good (book ps (cs ++ (live s t.target (turn ∷ []) (turn ∷ []) ∷ [])) words)
    unfolding filing
    claim_filed room new =
        let left = book ps (cs ++ (live s t.target (turn ∷ []) (turn ∷ []) ∷ [])) words in
        go_check (ltb (length cs) 512) 21 0 0 _ left (lt-ltb (length cs) 512 room)
        (go_on (read_claim m.inputs (symbols_of ps) ws) proposed _ left reads_own
        (go_on _ tt _ left (judged_own new) refl))

  -- A pair

  reads_own_body : (v s : ℕ) → read_body (counts_of m) (counts_of m) (v ∷ 0xE0000000 ∷ 0xE0000000 ∷ []) (record { state₁ = s; state₂ = s; symbols = R; facts = 0 }) ≡ good (self_pair R s)
  unfolding read_body all_stored read_facts
  reads_own_body v s =
      let ws = v ∷ 0xE0000000 ∷ 0xE0000000 ∷ [] in
      let l : Limits = proposal_limits m.inputs R 4 16 in
      let no_more_due : (p : ℕ) → all_stored 6 l (due (bits R 0) 0) ws p ≡ good (read [] p) = λ p. ap (λ x. all_stored 6 l x ws p) (none_due R 0) in
      let regs = all_symbols R 0 [] in
      go_on (read_mask R R 1 0xE0000000) (bits R 0) _ _ (reads_mask R 1)
      (go_on (read_mask R R 2 0xE0000000) (bits R 0) _ _ (reads_mask R 2)
      (go_on (all_stored 6 l (due (bits R 0) 0) ws 3) (read [] 3) _ _ (no_more_due 3)
      (go_on (all_stored 6 l (due (bits R 0) 0) ws 3) (read [] 3) _ _ (no_more_due 3)
      (λ i. good (record { state₁ = s; state₂ = s; symbols = R; registers₁ = regs i; registers₂ = regs i; facts = [] })))))

  pair_filed : (ps : List Pair) (words s : ℕ) → 0 < s → s < states → length ps < 64 → words + 3 ≤ 6144 → filing o (book ps [] words) (self_pair_words R s) ≡ good (book (ps ++ (self_pair R s ∷ [])) [] (words + 3))
  unfolding filing read_pair
  pair_filed ps words s some there room few =
      let v = 0xA0000000 + s + s * 256 + R * 65536 in
      let ws = v ∷ 0xE0000000 ∷ 0xE0000000 ∷ [] in
      let left = book (ps ++ (self_pair R s ∷ [])) [] (words + 3) in
      let most = sound.most in
      go_check (ltb (length ps) 64) 21 0 0 _ left (lt-ltb (length ps) 64 room)
      (go_on (read_pair (counts_of m) (counts_of m) ws) (self_pair R s) _ left
      (go_on (read_pair_head states states v) (record { state₁ = s; state₂ = s; symbols = R; facts = 0 }) _ (self_pair R s) (reads_pair_head states states s R some there there (omega arith) few_symbols) (reads_own_body v s))
      (go_check (leb (words + 3) 6144) 21 0 0 _ left (le-leb (words + 3) 6144 few) refl))

  -- What the list of claims so far keeps: they are from earlier states, at most two each.
  record Earlier (cs : List Claim) (s : ℕ) : Type 0 where
    few : length cs ≤ 2 * s
    starts : (c : Claim) → Memᴰ c cs → claim_start c < s

  unfiled_earlier : (cs : List Claim) (s : ℕ) (path : List Bool) → Earlier cs s → Unfiled cs s path
  unfiled_earlier cs s path h c k = and_left (eqb (claim_start c) s) _ (ne_eqb (claim_start c) s (λ e. omega (arith, h.starts c k)))

  one_more : (cs : List Claim) (c : Claim) (s : ℕ) → claim_start c ≡ s → ((x : Claim) → Memᴰ x cs → claim_start x < suc s) → (x : Claim) → Memᴰ x (cs ++ (c ∷ [])) → claim_start x < suc s
  one_more cs c s e h x k = go (Memᴰ.append_cases cs k)
    where
      go : Memᴰ x cs ⊎ Memᴰ x (c ∷ []) → claim_start x < suc s
      go (inl old) = h x old
      go (inr new) = omega (arith, e, ap claim_start (Memᴰ.eq_of_singleton new))

  unfiled_no : (cs : List Claim) (s t : ℕ) → Earlier cs s → Unfiled (cs ++ (live s t (true ∷ []) (true ∷ []) ∷ [])) s (false ∷ [])
  unfiled_no cs s t h c k = go (Memᴰ.append_cases cs k)
    where
      go : Memᴰ c cs ⊎ Memᴰ c (live s t (true ∷ []) (true ∷ []) ∷ []) → (eqb (claim_start c) s && is_path (false ∷ []) (claim_path c)) ≡ false
      go (inl old) = unfiled_earlier cs s (false ∷ []) h c old
      go (inr new) = and_right (eqb (claim_start c) s) _ (ap (λ x. is_path (false ∷ []) (claim_path x)) (Memᴰ.eq_of_singleton new))

  head_is : (front rows : List Row) (row : Row) (s : ℕ) → length front ≡ s → front ++ (row ∷ rows) ≡ m.rows → row_at m s ≡ row
  head_is front rows row s n e =
      let stay : Row = straight (record { actions = []; target = s }) in
      ap (λ x. get_or x s stay) (sym e) ∙ get_or_at front row rows stay s n

  within_table : (front rows : List Row) (row : Row) (s : ℕ) → length front ≡ s → front ++ (row ∷ rows) ≡ m.rows → s < states
  within_table front rows row s n e = omega (arith, n, length-append front (row ∷ rows), ap length e)

  module _ (ps : List Pair) (words : ℕ) (paired : Paired R states ps) where
    -- The claims of the rows, filed one after another.
    claims_filed : (rows front : List Row) (s : ℕ) (cs : List Claim) → length front ≡ s → front ++ rows ≡ m.rows → Earlier cs s → Each (RowWithin o R) rows → Each (RowStands R m.inputs states) rows → filing_all o (book ps cs words) (self_claims R s rows) ≡ good (book ps (cs ++ own s rows) words)
    claims_filed [] front s cs n e earlier within stands = ap (λ l. good (book ps l words)) (sym (append-nil cs))
    claims_filed (straight t ∷ rows) front s cs n e earlier within stands =
        let c = live s t.target (true ∷ []) (true ∷ []) in
        let l = within_table front rows (straight t) s n e in
        let most = sound.most in
        go_on _ (book ps (cs ++ (c ∷ [])) words) _ _ (claim_filed ps cs words paired s (straight t) true (head_is front rows (straight t) s n e) l (record { may = refl; tests = tt; actions = within.0; stands = stands.0 }) (omega (arith, earlier.few)) (unfiled_earlier cs s (true ∷ []) earlier))
        (claims_filed rows (front ++ (straight t ∷ [])) (suc s) (cs ++ (c ∷ [])) (length_push front (straight t) ∙ omega arith) (append_assoc front (straight t ∷ []) rows ∙ e)
        (record { few = omega (arith, length_push cs c, earlier.few); starts = one_more cs c s refl (λ x k. omega (arith, earlier.starts x k)) })
        within.1 stands.1
        ∙ ap (λ x. good (book ps x words)) (append_assoc cs (c ∷ []) (own (suc s) rows)))
    claims_filed (branch test l r on_yes on_no ∷ rows) front s cs n e earlier within stands =
        let row = branch test l r on_yes on_no in
        let c = live s on_yes.target (true ∷ []) (true ∷ []) in
        let c' = live s on_no.target (false ∷ []) (false ∷ []) in
        let here = within_table front rows row s n e in
        let is = head_is front rows row s n e in
        let most = sound.most in
        go_on _ (book ps (cs ++ (c ∷ [])) words) _ _ (claim_filed ps cs words paired s row true is here (record { may = refl; tests = (within.0.0, within.0.1); actions = within.0.2; stands = stands.0.2 }) (omega (arith, earlier.few)) (unfiled_earlier cs s (true ∷ []) earlier))
        (go_on _ (book ps ((cs ++ (c ∷ [])) ++ (c' ∷ [])) words) _ _ (claim_filed ps (cs ++ (c ∷ [])) words paired s row false is here (record { may = refl; tests = (within.0.0, within.0.1); actions = within.0.3; stands = stands.0.3 }) (omega (arith, earlier.few, length_push cs c)) (unfiled_no cs s on_yes.target earlier))
        (claims_filed rows (front ++ (row ∷ [])) (suc s) ((cs ++ (c ∷ [])) ++ (c' ∷ [])) (length_push front row ∙ omega arith) (append_assoc front (row ∷ []) rows ∙ e)
        (record { few = omega (arith, length_push cs c, length_push (cs ++ (c ∷ [])) c', earlier.few); starts = one_more (cs ++ (c ∷ [])) c' s refl (one_more cs c s refl (λ x k. omega (arith, earlier.starts x k))) })
        within.1 stands.1
        ∙ ap (λ x. good (book ps x words)) (append_assoc (cs ++ (c ∷ [])) (c' ∷ []) (own (suc s) rows) ∙ append_assoc cs (c ∷ []) (c' ∷ own (suc s) rows))))

    own_has : (rows : List Row) (s i p : ℕ) (other : Row) (turn : Bool) → s + i ≡ p → i < length rows → allows (get_or rows i other) turn ≡ true → Memᴰ (live p (chosen (get_or rows i other) turn).target (turn ∷ []) (turn ∷ [])) (own s rows)
    own_has [] s i p other turn e l h = absurd (omega arith)
    own_has (straight t ∷ rows) s zero p other true e l h = let k : p ≡ s = omega arith in Memᴰ.head (ap (λ q. live q t.target (true ∷ []) (true ∷ [])) k)
    own_has (straight t ∷ rows) s zero p other false e l h = absurd (false≢true h)
    own_has (straight t ∷ rows) s (suc i) p other turn e l h = Memᴰ.tail (own_has rows (suc s) i p other turn (omega arith) (omega arith) h)
    own_has (branch test x y on_yes on_no ∷ rows) s zero p other true e l h = let k : p ≡ s = omega arith in Memᴰ.head (ap (λ q. live q on_yes.target (true ∷ []) (true ∷ [])) k)
    own_has (branch test x y on_yes on_no ∷ rows) s zero p other false e l h = let k : p ≡ s = omega arith in Memᴰ.tail (Memᴰ.head (ap (λ q. live q on_no.target (false ∷ []) (false ∷ [])) k))
    own_has (branch test x y on_yes on_no ∷ rows) s (suc i) p other turn e l h = Memᴰ.tail (Memᴰ.tail (own_has rows (suc s) i p other turn (omega arith) (omega arith) h))

    all_covered : AllCovered (book ps (own 0 m.rows) words)
    all_covered p l =
        let b = book ps (own 0 m.rows) words in
        let k : p < states = omega (arith, paired.count) in
        let has : (turn : Bool) → allows (row_at m p) turn ≡ true → Filed b p (turn ∷ []) = λ turn h. as_live (chosen (row_at m p) turn).target (turn ∷ []) (own_has m.rows 0 p p _ turn (omega arith) k h) in
        let at_p : (pair_at b p).state₁ ≡ p = ap (λ (q : Pair). q.state₁) (paired.each p k) in
        begun true [] (has true (allows_yes (row_at m p))) (λ u h. filed (has u (ap (λ s. allows (row_at m s) u) (sym at_p) ∙ continues_allows (row_at m (pair_at b p).state₁) u h)))

  abbrev Good : Open → List Part → Type 0
  Good b parts = CleanCovers o b parts

  pairs_first : (n s words : ℕ) (ps : List Pair) (rest : List Part) → Paired R s ps → 0 < s → s + n ≡ states → words + 3 ≡ 3 * s → ((ps' : List Pair) (words' : ℕ) → Paired R states ps' → Good (book ps' [] words') rest) → Good (book ps [] words) (self_pairs R s n ++ rest)
  pairs_first zero s words ps rest paired some e size behind = let k : s ≡ states = omega arith in behind ps words (subst (λ x. Paired R x ps) k paired)
  pairs_first (suc n) s words ps rest paired some e size behind =
      let most = sound.most in
      let here = pair_filed ps words s some (omega arith) (omega (arith, paired.count)) (omega arith) in
      let on = pairs_first n (suc s) (words + 3) (ps ++ (self_pair R s ∷ [])) rest (paired_more R s ps paired) (omega arith) (omega arith) (omega arith) behind in
      record { left = on.left; clean = go_on _ _ _ on.left here on.clean; covered = on.covered }

  claims_last : NoneOver o m → (ps : List Pair) (words : ℕ) → Paired R states ps → Good (book ps [] words) (self_claims R 0 m.rows)
  claims_last none_over ps words paired = record {
    left = book ps (own 0 m.rows) words;
    clean = claims_filed ps words paired m.rows [] 0 [] refl refl (record { few = omega arith; starts = λ c k. absurd (Memᴰ.not-nil k) }) none_over sound.rows_stand;
    covered = all_covered ps words paired;
  }

  pub own_proposal : NoneOver o m → CleanCovers o (opened m m R) (self_proposal m)
  own_proposal none_over = go m.rows refl
    where
      go : (rows : List Row) → m.rows ≡ rows → CleanCovers o (opened m m R) (self_proposal_of R m.rows)
      go [] e = absurd (let h = sound.some in let z = ap length e in omega arith)
      go (row ∷ rows) e =
          let z = ap length e in
          subst (λ rs. CleanCovers o (opened m m R) (self_proposal_of R rs)) (sym e)
          (pairs_first (length rows) 1 0 (opening_pair R R R ∷ []) (self_claims R 0 (row ∷ rows)) (paired_first R) (omega arith) (omega arith) (omega arith) (λ ps words paired. subst (λ rs. Good (book ps [] words) (self_claims R 0 rs)) e (claims_last none_over ps words paired)))
