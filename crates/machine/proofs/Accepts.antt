-- The words of a sound machine are accepted, and read as that machine.
use Rattle.std.proofs.Common.{◌≡◌, ℕ, zero, suc, ◌+◌, ◌-◌, ◌*◌, ◌/◌, ◌%◌, ◌<◌, ◌≤◌, Bool, true, false, cond, not, ◌&&◌, ◌||◌, eqb, ltb, leb, List, [], ◌∷◌, ◌++◌, map, length, get_or, take, drop, set, is_some, Some, sym, refl, ap, ◌∙◌, subst, add-zero, zero-add, arith}
use Rattle.std.specs.List.{flat_map}
use Rattle.std.proofs.lemmas.List.{append-nil, append_assoc, map-append, take_at, drop_at, drop-drop, get_or_at, get_or-drop, length_push, length-append, get_or-replicate}
use Rattle.std.proofs.lemmas.Bool.{lt-ltb, le-ltb, le-leb, eq-eqb, ne_eqb}
use Rattle.expression.specs.declared.item.Item.{Item}
use Rattle.expression.specs.declared.item.Item.TheVariants.{Constant, Register, Input, Symbol, Sum, Difference, Product, Negation}
use Rattle.expression.specs.declared.test.Test.{Test}
use Rattle.expression.specs.declared.test.Test.TheVariants.{Same, Below}
use Rattle.expression.specs.Words.{kind, number, item_of, item_word, FitsWord, test_of, test_number}
use Rattle.expression.specs.Shape.{is_expression, split, Splits}
use Rattle.expression.proofs.WordsBack.{item_back}
use Rattle.machine.specs.declared.head.Head.{Head}
use Rattle.machine.specs.Answer.{Answer, good, refused, ◌then◌}
use Rattle.machine.specs.Words.{bound, legal, ends, ending, word, part, head_of, table_limits}
use Rattle.machine.specs.Machine.{Action, store, emit, Transition, Row, straight, branch, Each}
use Rattle.machine.specs.Sound.{ItemStands, ExpressionStands, ActionStands, StoresOnce, TransitionStands, RowStands}
use Rattle.machine.specs.Reading.{longest, fresh, acts, marked, closing, transition, row, rows, table, Part, tests, part_of, parts, acting, transition_of, behind, row_of, cut, row_part, meant, first_rows, machine_of}
use Rattle.machine.specs.Encode.{action_words, transition_words, row_words, machine_words, Accepts}
use Rattle.machine.proofs.Cuts.{found_split, cut_is}
use Rattle.machine.proofs.Lists.{each_append}
use Rattle.machine.proofs.Blocks.{Plain, plain_of, plain_append, parts_block}
use Rattle.machine.proofs.Flags.{Unmarked, mark}
use Rattle.machine.proofs.Steps.{transition_at, rows_more, first_rows_more}
use Rattle.machine.proofs.Machines.{found_at}
use Rattle.machine.proofs.Encodes.{Told, words_more, length_more, told_more, told_goto}

-- the kind and the number of a word
pub of_kind : (k n w : ℕ) → w ≡ k * 0x10000000 + n → n < 0x10000000 → (kind w ≡ k) × (number w ≡ n)
of_kind k n w e h = (omega arith, omega arith)

module _ (h : Head) (small : h.registers ≤ 16) (few : h.inputs ≤ 8) where
  pub legal_word : (k w : ℕ) → kind w ≡ k → number w < bound (table_limits h) k → legal (table_limits h) w ≡ true
  legal_word k w e b = lt-ltb (number w) (bound (table_limits h) (kind w)) (subst (λ x. number w < bound (table_limits h) x) (sym e) b)

  record PlainWord (i : Item) : Type 0 where
    fits : FitsWord i
    inside : ends (item_word i) ≡ false
    allowed : legal (table_limits h) (item_word i) ≡ true

  leaf : (k n w : ℕ) → w ≡ k * 0x10000000 + n → n < 0x10000000 → leb 6 k ≡ false → n < bound (table_limits h) k → (ends w ≡ false) × (legal (table_limits h) w ≡ true)
  leaf k n w e b en bd = let p = of_kind k n w e b in (ap (leb 6) p.0 ∙ en, legal_word k w p.0 (subst (λ x. x < bound (table_limits h) k) (sym p.1) bd))

  plain_word : (i : Item) → ItemStands h.registers h.inputs i → PlainWord i
  plain_word (Constant n) s = let p = leaf 1 n (0x10000000 + n) (omega arith) s refl s in record { fits = s; inside = p.0; allowed = p.1 }
  plain_word (Register n) s = let b : n < 0x10000000 = omega arith in let p = leaf 2 n (0x20000000 + n) (omega arith) b refl s in record { fits = b; inside = p.0; allowed = p.1 }
  plain_word (Input n) s = let b : n < 0x10000000 = omega arith in let p = leaf 3 n (0x30000000 + n) (omega arith) b refl s in record { fits = b; inside = p.0; allowed = p.1 }
  plain_word (Symbol n) s = absurd s
  plain_word Sum s = record { fits = tt; inside = refl; allowed = refl }
  plain_word Difference s = record { fits = tt; inside = refl; allowed = refl }
  plain_word Product s = record { fits = tt; inside = refl; allowed = refl }
  plain_word Negation s = record { fits = tt; inside = refl; allowed = refl }

  pub items_back : (e : List Item) → Each (ItemStands h.registers h.inputs) e → map item_of (map item_word e) ≡ e
  items_back [] s = refl
  items_back (i ∷ e) s = rw (item_back i (plain_word i s.0).fits, items_back e s.1)

  pub plain_items : (e : List Item) → Each (ItemStands h.registers h.inputs) e → Plain h (map item_word e)
  plain_items e s = plain_of h (map item_word e) (go e s)
    where
      go : (e : List Item) → Each (ItemStands h.registers h.inputs) e → Each (λ w. (ends w ≡ false) × (item_word (item_of w) ≡ w) × ItemStands h.registers h.inputs (item_of w)) (map item_word e)
      go [] s = tt
      go (i ∷ e) s = let b = item_back i (plain_word i s.0).fits in (((plain_word i s.0).inside, ap item_word b, subst (ItemStands h.registers h.inputs) (sym b) s.0), go e s.1)

  ending_items : (e : List Item) (p w : ℕ) (tail : List ℕ) → Each (ItemStands h.registers h.inputs) e → legal (table_limits h) w ≡ true → ends w ≡ true → ending (table_limits h) p (map item_word e ++ w ∷ tail) ≡ good (p + length (map item_word e))
  ending_items [] p w tail s lg en = rw (lg, en) (ap good (sym (add-zero p)))
  ending_items (i ∷ e) p w tail s lg en =
      let f = plain_word i s.0 in
      let far : p + 1 + length (map item_word e) ≡ p + length (map item_word (i ∷ e)) = omega arith in
      rw (f.allowed, f.inside) (ending_items e (p + 1) w tail s.1 lg en ∙ ap good far)

  module _ (ws : List ℕ) where
    -- items and the word that ends them, where they stand in the words
    pub record Ended (p : ℕ) (e : List Item) (w : ℕ) (rest : List ℕ) : Type 0 where
      pub ends_at : ending (table_limits h) p (drop p ws) ≡ good (p + length (map item_word e))
      pub end_is : word ws (p + length (map item_word e)) ≡ w
      pub part_is : part ws p (p + length (map item_word e)) ≡ map item_word e
      pub behind_is : drop (p + length (map item_word e) + 1) ws ≡ rest

    pub ended : (p : ℕ) (e : List Item) (w : ℕ) (rest : List ℕ) → Each (ItemStands h.registers h.inputs) e → legal (table_limits h) w ≡ true → ends w ≡ true → drop p ws ≡ map item_word e ++ w ∷ rest → Ended p e w rest
    ended p e w rest s lg en here =
        let a : List ℕ = map item_word e in
        let n : ℕ = length a in
        let size : p + n - p ≡ n = omega arith in
        let far : p + n + 1 ≡ p + (n + 1) = omega arith in
        record {
          ends_at = ap (ending (table_limits h) p) here ∙ ending_items e p w rest s lg en;
          end_is = sym (get_or-drop p ws n 0) ∙ ap (λ r. get_or r n 0) here ∙ get_or_at a w rest 0 n refl;
          part_is = ap (λ k. take k (drop p ws)) size ∙ ap (take n) here ∙ take_at a (w ∷ rest) n refl;
          behind_is = ap (λ k. drop k ws) far ∙ sym (drop-drop (n + 1) p ws) ∙ ap (drop (n + 1)) (here ∙ sym (append_assoc a (w ∷ []) rest)) ∙ drop_at (a ++ w ∷ []) rest (n + 1) (length_push a w);
        }

    pub GoesOn : ℕ → List Bool → ℕ → Transition → Type 0
    GoesOn k st p t = transition (table_limits h) ws k st p ≡ good (p + length (transition_words t))

    closing_nine : (p q : ℕ) (other : Answer ℕ) → kind (word ws q) ≡ 9 → p ≡ q → closing ws p q other ≡ good (q + 1)
    closing_nine p q other k e = rw (k, eq-eqb p q e)

    closing_other : (p q k : ℕ) (other : Answer ℕ) → kind (word ws q) ≡ k → eqb k 9 ≡ false → closing ws p q other ≡ other
    closing_other p q k other e f = rw (e, f)

    -- a go-to alone
    goto_good : (k : ℕ) (st : List Bool) (p target : ℕ) (rest : List ℕ) → target < h.states → h.states ≤ 64 → drop p ws ≡ (0x90000000 + target) ∷ rest → transition (table_limits h) ws k st p ≡ good (p + 1)
    goto_good k st p target rest there most here =
        let w : ℕ = 0x90000000 + target in
        let f = of_kind 9 target w (omega arith) (omega arith) in
        let lg = legal_word 9 w f.0 (subst (λ x. x < h.states) (sym f.1) there) in
        let en : ends w ≡ true = ap (leb 6) f.0 in
        let e = ended p [] w rest tt lg en here in
        let zero_on : p + length (map item_word []) ≡ p = add-zero p in
        let nine : kind (word ws p) ≡ 9 = ap (λ q. kind (word ws q)) (sym zero_on) ∙ ap kind e.end_is ∙ f.0 in
        transition_at (table_limits h) ws k st p ∙ ap (λ a. a then λ q. closing ws p q (cond (ltb 0 k && acts (part ws p q) st (word ws q)) (transition (table_limits h) ws (k - 1) (marked st (word ws q)) (q + 1)) (refused 2 0 q))) (e.ends_at ∙ ap good zero_on) ∙ closing_nine p p _ nine refl

    -- one action, and the rest of the transition
    act_good : (k : ℕ) (st : List Bool) (A : Action) (e : List Item) (j w : ℕ) (t : Transition) (p : ℕ) (rest : List ℕ)
        → action_words A ≡ map item_word e ++ w ∷ [] → ExpressionStands h.registers h.inputs e → legal (table_limits h) w ≡ true → kind w ≡ j → leb 6 j ≡ true → eqb j 9 ≡ false
        → (eqb (kind w) 8 || (eqb (kind w) 7 && not (get_or st (number w) false))) ≡ true
        → drop p ws ≡ transition_words (acting A t) ++ rest
        → ((q : ℕ) → drop q ws ≡ transition_words t ++ rest → transition (table_limits h) ws k (marked st w) q ≡ good (q + length (transition_words t)))
        → transition (table_limits h) ws (suc k) st p ≡ good (p + length (transition_words (acting A t)))
    act_good k st A e j w t p rest is s lg kd en nine may here more =
        let a : List ℕ = map item_word e in
        let q : ℕ = p + length a in
        let d = ended p e w (transition_words t ++ rest) s.1 lg (ap (leb 6) kd ∙ en) (here ∙ words_more a w A t is rest) in
        let ok : acts (part ws p q) st (word ws q) ≡ true =
        ap (λ x. acts x st (word ws q)) d.part_is ∙ ap (acts a st) d.end_is ∙ ap (λ x. is_expression x && (eqb (kind w) 8 || (eqb (kind w) 7 && not (get_or st (number w) false)))) (items_back e s.1) ∙ rw s.0 may in
        let on : transition (table_limits h) ws k (marked st (word ws q)) (q + 1) ≡ good (q + 1 + length (transition_words t)) = ap (λ x. transition (table_limits h) ws k (marked st x) (q + 1)) d.end_is ∙ more (q + 1) d.behind_is in
        let long = length_more a w A t is in
        let far : q + 1 + length (transition_words t) ≡ p + length (transition_words (acting A t)) = omega arith in
        let less : suc k - 1 ≡ k = omega arith in
        transition_at (table_limits h) ws (suc k) st p
        ∙ ap (λ x. x then λ q. closing ws p q (cond (ltb 0 (suc k) && acts (part ws p q) st (word ws q)) (transition (table_limits h) ws (suc k - 1) (marked st (word ws q)) (q + 1)) (refused 2 0 q))) d.ends_at
        ∙ closing_other p q j _ (ap kind d.end_is ∙ kd) nine
        ∙ rw (lt-ltb 0 (suc k) (omega arith), ok, less) (on ∙ ap good far)

    -- a sound transition is read to its end
    pub transition_good : (k : ℕ) (st : List Bool) (actions : List Action) (target p : ℕ) (rest : List ℕ) → length actions ≤ k → Each (ActionStands h.registers h.inputs) actions → Unmarked st actions → StoresOnce actions → target < h.states → h.states ≤ 64
        → drop p ws ≡ transition_words (record { actions = actions; target = target }) ++ rest → transition (table_limits h) ws k st p ≡ good (p + length (transition_words (record { actions = actions; target = target })))
    transition_good k st [] target p rest short s free once there most here = goto_good k st p target rest there most here
    transition_good zero st (A ∷ actions) target p rest short s free once there most here = absurd (omega arith)
    transition_good (suc k) st (store n e ∷ actions) target p rest short s free once there most here =
        let w : ℕ = 0x70000000 + n in
        let f = of_kind 7 n w (omega arith) (let b = s.0.0 in omega arith) in
        let lg = legal_word 7 w f.0 (subst (λ x. x < h.registers) (sym f.1) s.0.0) in
        let may : (eqb (kind w) 8 || (eqb (kind w) 7 && not (get_or st (number w) false))) ≡ true = rw (f.0, f.1, free.0) in
        let same : marked st w ≡ set st n true = rw (f.0, f.1) in
        act_good k st (store n e) e 7 w (record { actions = actions; target = target }) p rest refl s.0.1 lg f.0 refl refl may here
        (λ q on. ap (λ x. transition (table_limits h) ws k x q) same ∙ transition_good k (set st n true) actions target q rest (omega arith) s.1 (mark st n actions free.1 once.0) once.1 there most on)
    transition_good (suc k) st (emit n e ∷ actions) target p rest short s free once there most here =
        let w : ℕ = 0x80000000 + n in
        let f = of_kind 8 n w (omega arith) (let b = s.0.0 in omega arith) in
        let lg = legal_word 8 w f.0 (subst (λ x. x < 16) (sym f.1) s.0.0) in
        let may : (eqb (kind w) 8 || (eqb (kind w) 7 && not (get_or st (number w) false))) ≡ true = rw f.0 in
        let same : marked st w ≡ st = rw f.0 in
        act_good k st (emit n e) e 8 w (record { actions = actions; target = target }) p rest refl s.0.1 lg f.0 refl refl may here
        (λ q on. ap (λ x. transition (table_limits h) ws k x q) same ∙ transition_good k st actions target q rest (omega arith) s.1 free once there most on)

  -- the words of a sound transition are read back as it
  does_store : (a : List ℕ) (e : List Item) (w n : ℕ) → kind w ≡ 7 → number w ≡ n → map item_of a ≡ e → (ps : List Part) → (transition_of (part_of a w ∷ ps) ≡ acting (store n e) (transition_of ps)) × (behind (part_of a w ∷ ps) ≡ behind ps) × (row_of (part_of a w ∷ ps) ≡ straight (transition_of (part_of a w ∷ ps)))
  does_store a e w n k m b ps = rw (k, m, b) (refl, refl, refl)

  does_emit : (a : List ℕ) (e : List Item) (w n : ℕ) → kind w ≡ 8 → number w ≡ n → map item_of a ≡ e → (ps : List Part) → (transition_of (part_of a w ∷ ps) ≡ acting (emit n e) (transition_of ps)) × (behind (part_of a w ∷ ps) ≡ behind ps) × (row_of (part_of a w ∷ ps) ≡ straight (transition_of (part_of a w ∷ ps)))
  does_emit a e w n k m b ps = rw (k, m, b) (refl, refl, refl)

  pub told_of : (actions : List Action) (target : ℕ) → Each (ActionStands h.registers h.inputs) actions → target < h.states → h.states ≤ 64 → Told (record { actions = actions; target = target })
  told_of [] target s there most =
      let w : ℕ = 0x90000000 + target in
      let f = of_kind 9 target w (omega arith) (omega arith) in
      subst (λ n. Told (record { actions = []; target = n })) f.1 (told_goto h [] small w (ap (leb 6) f.0) f.0).1
  told_of (store n e ∷ actions) target s there most =
      let w : ℕ = 0x70000000 + n in
      let f = of_kind 7 n w (omega arith) (let b = s.0.0 in omega arith) in
      told_more (map item_word e) w (store n e) (record { actions = actions; target = target }) refl h (plain_items e s.0.1.1) (ap (leb 6) f.0) (does_store (map item_word e) e w n f.0 f.1 (items_back e s.0.1.1)) (told_of actions target s.1 there most)
  told_of (emit n e ∷ actions) target s there most =
      let w : ℕ = 0x80000000 + n in
      let f = of_kind 8 n w (omega arith) (let b = s.0.0 in omega arith) in
      told_more (map item_word e) w (emit n e) (record { actions = actions; target = target }) refl h (plain_items e s.0.1.1) (ap (leb 6) f.0) (does_emit (map item_word e) e w n f.0 f.1 (items_back e s.0.1.1)) (told_of actions target s.1 there most)

  free_of : (actions : List Action) → Each (ActionStands h.registers h.inputs) actions → Unmarked fresh actions
  free_of [] s = tt
  free_of (store n e ∷ actions) s = (get_or-replicate 16 n false false (let b = s.0.0 in omega arith), free_of actions s.1)
  free_of (emit n e ∷ actions) s = free_of actions s.1

  -- an expression has items
  some_items : (e : List Item) → is_expression e ≡ true → 0 < length (map item_word e)
  unfolding is_expression
  some_items [] s = absurd (let z : ◌≡◌ {A = Bool} false true = s in let y : ◌≡◌ {A = ℕ} 0 1 = cc in omega arith)
  some_items (i ∷ e) s = omega arith

  -- the two sides of a test are split where the second begins
  sides : (left right : List Item) → ExpressionStands h.registers h.inputs left → ExpressionStands h.registers h.inputs right → (length (map item_word left) < length (map item_word left ++ map item_word right)) × Splits (map item_word left ++ map item_word right) (length (map item_word left))
  sides left right l r =
      let a : List ℕ = map item_word left in
      let b : List ℕ = map item_word right in
      let some = some_items right r.0 in
      let size = length-append a b in (
        omega arith,
        (
          ap (λ x. is_expression (map item_of x)) (take_at a b (length a) refl) ∙ ap is_expression (items_back left l.1) ∙ l.0,
          ap (λ x. is_expression (map item_of x)) (drop_at a b (length a) refl) ∙ ap is_expression (items_back right r.1) ∙ r.0,
        ),
      )

  test_kind : (t : Test) → (kind (0x60000000 + test_number t) ≡ 6) × (number (0x60000000 + test_number t) < 2) × (test_of (number (0x60000000 + test_number t)) ≡ t)
  test_kind Same = (refl, omega arith, refl)
  test_kind Below = (refl, omega arith, refl)

  module _ (most : h.states ≤ 64) where
    told_whole : (t : Transition) → TransitionStands h.registers h.inputs h.states t → Told t
    told_whole t s = told_of t.actions t.target s.each s.target_there most

    -- the words of a sound row are read back as it
    row_back : (r : Row) → RowStands h.registers h.inputs h.states r → row_of (parts [] (row_words r)) ≡ r
    row_back (straight t) s =
        let told = told_whole t s in
        ap (λ x. row_of (parts [] x)) (sym (append-nil (transition_words t))) ∙ told.plain [] ∙ ap straight (told.read [])
    row_back (branch t left right y n) s =
        let a : List ℕ = map item_word left ++ map item_word right in
        let w : ℕ = 0x60000000 + test_number t in
        let k = test_kind t in
        let tails : List ℕ = transition_words y ++ transition_words n in
        let sp = sides left right s.0 s.1 in
        let plain = plain_append h (map item_word left) (map item_word right) (plain_items left s.0.1) (plain_items right s.1.1) in
        let at : cut a ≡ length (map item_word left) = cut_is a (length (map item_word left)) sp.0 sp.1 in
        let l_is : map item_of (take (cut a) a) ≡ left = ap (λ c. map item_of (take c a)) at ∙ ap (map item_of) (take_at (map item_word left) (map item_word right) (length (map item_word left)) refl) ∙ items_back left s.0.1 in
        let r_is : map item_of (drop (cut a) a) ≡ right = ap (λ c. map item_of (drop c a)) at ∙ ap (map item_of) (drop_at (map item_word left) (map item_word right) (length (map item_word left)) refl) ∙ items_back right s.1.1 in
        let read : parts [] (a ++ w ∷ tails) ≡ tests (test_of (number w)) (take (cut a) a) (drop (cut a) a) ∷ parts [] tails = parts_block h a w tails plain (ap (leb 6) k.0) ∙ rw k.0 in
        let ty = told_whole y s.2 in
        let tn = told_whole n s.3 in
        ap row_of read
        ∙ ap (λ i. branch i (map item_of (take (cut a) a)) (map item_of (drop (cut a) a)) (transition_of (parts [] tails)) (transition_of (behind (parts [] tails)))) k.2
        ∙ ap (λ i. branch t i (map item_of (drop (cut a) a)) (transition_of (parts [] tails)) (transition_of (behind (parts [] tails)))) l_is
        ∙ ap (λ i. branch t left i (transition_of (parts [] tails)) (transition_of (behind (parts [] tails)))) r_is
        ∙ ap (λ i. branch t left right i (transition_of (behind (parts [] tails)))) (ty.read (transition_words n))
        ∙ ap (λ i. branch t left right y (transition_of i)) (ty.rest (transition_words n))
        ∙ ap (λ i. branch t left right y i) (ap (λ x. transition_of (parts [] x)) (sym (append-nil (transition_words n))) ∙ tn.read [])

    module _ (ws : List ℕ) where
      whole_good : (t : Transition) (p : ℕ) (rest : List ℕ) → TransitionStands h.registers h.inputs h.states t → drop p ws ≡ transition_words t ++ rest → transition (table_limits h) ws 8 fresh p ≡ good (p + length (transition_words t))
      whole_good t p rest s here = transition_good ws 8 fresh t.actions t.target p rest s.few s.each (free_of t.actions s.each) s.once s.target_there most here

      -- the first word that ends something in a transition is no test
      first_end : (actions : List Action) (target p : ℕ) (rest : List ℕ) → Each (ActionStands h.registers h.inputs) actions → target < h.states → drop p ws ≡ transition_words (record { actions = actions; target = target }) ++ rest → (q : ℕ) × (ending (table_limits h) p (drop p ws) ≡ good q) × (eqb (kind (word ws q)) 6 ≡ false)
      first_end [] target p rest s there here =
          let w : ℕ = 0x90000000 + target in
          let f = of_kind 9 target w (omega arith) (omega arith) in
          let d = ended ws p [] w rest tt (legal_word 9 w f.0 (subst (λ x. x < h.states) (sym f.1) there)) (ap (leb 6) f.0) here in
          (p + length (map item_word []), d.ends_at, ap (λ x. eqb (kind x) 6) d.end_is ∙ ap (λ x. eqb x 6) f.0)
      first_end (store n e ∷ actions) target p rest s there here =
          let w : ℕ = 0x70000000 + n in
          let f = of_kind 7 n w (omega arith) (let b = s.0.0 in omega arith) in
          let t : Transition = record { actions = actions; target = target } in
          let d = ended ws p e w (transition_words t ++ rest) s.0.1.1 (legal_word 7 w f.0 (subst (λ x. x < h.registers) (sym f.1) s.0.0)) (ap (leb 6) f.0) (here ∙ words_more (map item_word e) w (store n e) t refl rest) in
          (p + length (map item_word e), d.ends_at, ap (λ x. eqb (kind x) 6) d.end_is ∙ ap (λ x. eqb x 6) f.0)
      first_end (emit n e ∷ actions) target p rest s there here =
          let w : ℕ = 0x80000000 + n in
          let f = of_kind 8 n w (omega arith) (let b = s.0.0 in omega arith) in
          let t : Transition = record { actions = actions; target = target } in
          let d = ended ws p e w (transition_words t ++ rest) s.0.1.1 (legal_word 8 w f.0 (subst (λ x. x < 16) (sym f.1) s.0.0)) (ap (leb 6) f.0) (here ∙ words_more (map item_word e) w (emit n e) t refl rest) in
          (p + length (map item_word e), d.ends_at, ap (λ x. eqb (kind x) 6) d.end_is ∙ ap (λ x. eqb x 6) f.0)

      drop_on : (p : ℕ) (xs rest : List ℕ) → drop p ws ≡ xs ++ rest → drop (p + length xs) ws ≡ rest
      drop_on p xs rest here = sym (drop-drop (length xs) p ws) ∙ ap (drop (length xs)) here ∙ drop_at xs rest (length xs) refl

      -- a sound row is read to its end
      row_good : (r : Row) (p : ℕ) (rest : List ℕ) → RowStands h.registers h.inputs h.states r → drop p ws ≡ row_words r ++ rest → row (table_limits h) ws p ≡ good (p + length (row_words r))
      row_good (straight t) p rest s here =
          let f = first_end t.actions t.target p rest s.each s.target_there here in
          rw (f.1, f.2) (whole_good t p rest s here)
      row_good (branch t left right y n) p rest s here =
          let l = table_limits h in
          let a : List ℕ = map item_word left ++ map item_word right in
          let both : map item_word (left ++ right) ≡ a = map-append item_word left right in
          let w : ℕ = 0x60000000 + test_number t in
          let k = test_kind t in
          let tails : List ℕ = transition_words y ++ transition_words n in
          let start : drop p ws ≡ map item_word (left ++ right) ++ w ∷ (tails ++ rest) = here ∙ append_assoc a (w ∷ tails) rest ∙ ap (λ x. x ++ w ∷ (tails ++ rest)) (sym both) in
          let d = ended ws p (left ++ right) w (tails ++ rest) (each_append (ItemStands h.registers h.inputs) left right s.0.1 s.1.1) (legal_word 6 w k.0 k.1) (ap (leb 6) k.0) start in
          let q : ℕ = p + length (map item_word (left ++ right)) in
          let sp = sides left right s.0 s.1 in
          let six : eqb (kind (word ws q)) 6 ≡ true = ap (λ x. eqb (kind x) 6) d.end_is ∙ ap (λ x. eqb x 6) k.0 in
          let split_is : is_some (split (part ws p q)) ≡ true = ap (λ x. is_some (split x)) (d.part_is ∙ both) ∙ found_split a (length (map item_word left)) sp.0 sp.1 in
          let behind_y : drop (q + 1) ws ≡ transition_words y ++ (transition_words n ++ rest) = d.behind_is ∙ append_assoc (transition_words y) (transition_words n) rest in
          let first = whole_good y (q + 1) (transition_words n ++ rest) s.2 behind_y in
          let m : ℕ = q + 1 + length (transition_words y) in
          let second = whole_good n m rest s.3 (drop_on (q + 1) (transition_words y) (transition_words n ++ rest) behind_y) in
          let size_a : length (map item_word (left ++ right)) ≡ length a = ap length both in
          let size = length-append a (w ∷ tails) in
          let sizes = length-append (transition_words y) (transition_words n) in
          let far : m + length (transition_words n) ≡ p + length (row_words (branch t left right y n)) = omega arith in
          rw (d.ends_at, six, split_is, first) (second ∙ ap good far)

      -- sound rows are read to their end, and read back
      run_rows : (more : List Row) (n p : ℕ) → Each (RowStands h.registers h.inputs h.states) more → rows (table_limits h) ws n ≡ good p → drop p ws ≡ flat_map row_words more
          → (rows (table_limits h) ws (n + length more) ≡ good (p + length (flat_map row_words more))) × (first_rows (table_limits h) ws (n + length more) ≡ first_rows (table_limits h) ws n ++ more)
      run_rows [] n p s e here = (ap (rows (table_limits h) ws) (add-zero n) ∙ e ∙ ap good (sym (add-zero p)), ap (first_rows (table_limits h) ws) (add-zero n) ∙ sym (append-nil (first_rows (table_limits h) ws n)))
      run_rows (r ∷ more) n p s e here =
          let l = table_limits h in
          let q : ℕ = p + length (row_words r) in
          let read = row_good r p (flat_map row_words more) s.0 here in
          let next = rows_more l ws n p e ∙ read in
          let words : part ws p q ≡ row_words r = (let size : q - p ≡ length (row_words r) = omega arith in ap (λ i. take i (drop p ws)) size) ∙ ap (take (length (row_words r))) here ∙ take_at (row_words r) (flat_map row_words more) (length (row_words r)) refl in
          let is : meant (row_part l ws n) ≡ r = ap meant (found_at l ws n p q e read) ∙ ap (λ i. row_of (parts [] i)) words ∙ row_back r s.0 in
          let rest = run_rows more (n + 1) q s.1 next (drop_on p (row_words r) (flat_map row_words more) here) in
          let count : n + length (r ∷ more) ≡ n + 1 + length more = omega arith in
          let size = length-append (row_words r) (flat_map row_words more) in
          let far : q + length (flat_map row_words more) ≡ p + length (flat_map row_words (r ∷ more)) = omega arith in (
            ap (rows l ws) count ∙ rest.0 ∙ ap good far,
            ap (first_rows l ws) count ∙ rest.1 ∙ ap (λ x. x ++ more) (first_more n ∙ ap (λ x. first_rows l ws n ++ x ∷ []) is) ∙ append_assoc (first_rows l ws n) (r ∷ []) more,
          )
        where
          first_more : (n : ℕ) → first_rows (table_limits h) ws (n + 1) ≡ first_rows (table_limits h) ws n ++ meant (row_part (table_limits h) ws n) ∷ []
          first_more n = first_rows_more (table_limits h) ws n

head_good : (s r i : ℕ) → 1 ≤ s → s ≤ 64 → r ≤ 16 → i ≤ 8 → head_of (s * 65536 + r * 256 + i) ≡ Some (record { states = s; registers = r; inputs = i })
head_good s r i a b c d =
    let w : ℕ = s * 65536 + r * 256 + i in
    let S : w / 65536 ≡ s = omega arith in
    let Q : w / 256 ≡ s * 256 + r = omega arith in
    let R : (s * 256 + r) % 256 ≡ r = omega arith in
    let I : w % 256 ≡ i = omega arith in
    rw (S, Q, R, I, le-leb 1 s a, le-leb s 64 b, le-leb r 16 c, le-leb i 8 d)

pub accepts : Accepts
unfolding rows first_rows
accepts m sound short =
    let R : List Row = m.rows in
    let h : Head = record { states = length R; registers = m.registers; inputs = m.inputs } in
    let ws : List ℕ = machine_words m in
    let head : head_of (word ws 0) ≡ Some h = head_good (length R) m.registers m.inputs sound.some sound.most sound.few_registers sound.few_inputs in
    let all = run_rows h sound.few_registers sound.few_inputs sound.most ws R 0 1 sound.rows_stand refl refl in
    let read : rows (table_limits h) ws (length R) ≡ good (1 + length (flat_map row_words R)) = ap (rows (table_limits h) ws) (sym (zero-add (length R))) ∙ all.0 in
    let first : first_rows (table_limits h) ws (length R) ≡ R = ap (first_rows (table_limits h) ws) (sym (zero-add (length R))) ∙ all.1 in
    let whole : eqb (1 + length (flat_map row_words R)) (length ws) ≡ true = eq-eqb (1 + length (flat_map row_words R)) (length ws) (omega arith) in
    let judged : table ws ≡ good h = rw (le-ltb longest (length ws) short, ne_eqb (length ws) 0 (λ z. omega arith), head, read, whole) in
    ap (λ a. a then λ g. good (machine_of ws g)) judged ∙ ap (λ r. good (record { registers = m.registers; inputs = m.inputs; rows = r })) first
