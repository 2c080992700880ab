-- An accepted table is the words of its machine, and its machine is sound.
use Rattle.std.proofs.Common.{◌≡◌, ℕ, zero, suc, ◌+◌, ◌-◌, ◌*◌, ◌/◌, ◌%◌, ◌<◌, ◌≤◌, Bool, true, false, cond, eqb, leb, List, [], ◌∷◌, ◌++◌, map, length, get_or, take, drop, set, is_some, Some, None, sym, refl, ap, ◌∙◌, subst, ⊎_elim, arith}
use Rattle.std.specs.List.{flat_map}
use Rattle.std.proofs.lemmas.List.{append-nil, append_assoc, map-append, take-append-drop, take_at, nil_from_length, length-append, length-set, flat_map_more, drop_all}
use Rattle.std.proofs.lemmas.Bool.{leb-true, eqb-true, and_parts, or_cases}
use Rattle.expression.specs.declared.item.Item.{Item}
use Rattle.expression.specs.declared.test.Test.{Test}
use Rattle.expression.specs.Words.{kind, number, item_of, item_word, test_of, test_number}
use Rattle.expression.specs.Shape.{is_expression, split}
use Rattle.machine.specs.declared.head.Head.{Head}
use Rattle.machine.specs.Answer.{Answer, good, refused, ◌then◌}
use Rattle.machine.specs.Words.{ends, ending, word, part, counts, good_counts, head_of, table_limits}
use Rattle.machine.specs.Machine.{Action, store, emit, Transition, Row, straight, branch, Each}
use Rattle.machine.specs.Sound.{ExpressionStands, ActionStands, StoresOnce, TransitionStands, RowStands, SoundMachine, Counted}
use Rattle.machine.specs.Reading.{fresh, acts, marked, closing, transition, row, rows, table, Part, tests, goes, part_of, parts, acting, transition_of, behind, row_of, cut, row_part, meant, first_rows, machine_of}
use Rattle.machine.specs.Encode.{action_words, transition_words, row_words, machine_words, ReadsBack, SoundTables}
use Rattle.machine.proofs.Chains.{refused_good, good_same, then_good, cond_good, only_true}
use Rattle.machine.proofs.Cuts.{cut_splits}
use Rattle.machine.proofs.Lists.{each_push}
use Rattle.machine.proofs.Flags.{Unmarked, unmark, not_true}
use Rattle.machine.proofs.Blocks.{below_bound, Plain, plain_none, plain_back, plain_stands, plain_take, plain_drop, parts_block, Block, block}
use Rattle.machine.proofs.Machines.{found_at, accepted, rows_length}

-- a transition's words are read as the transition, whatever stands behind them
pub record Told (t : Transition) : Type 0 where
  pub read : (tail : List ℕ) → transition_of (parts [] (transition_words t ++ tail)) ≡ t
  pub rest : (tail : List ℕ) → behind (parts [] (transition_words t ++ tail)) ≡ parts [] tail
  pub plain : (tail : List ℕ) → row_of (parts [] (transition_words t ++ tail)) ≡ straight (transition_of (parts [] (transition_words t ++ tail)))

pub test_back : (n : ℕ) → n < 2 → test_number (test_of n) ≡ n
test_back zero h = refl
test_back (suc zero) h = refl
test_back (suc (suc n)) h = absurd (omega arith)

-- one more action in front
module _ (a : List ℕ) (w : ℕ) (A : Action) (t : Transition) (is : action_words A ≡ a ++ w ∷ []) where
  pub words_more : (tail : List ℕ) → transition_words (acting A t) ++ tail ≡ a ++ w ∷ (transition_words t ++ tail)
  words_more tail = ap (λ x. ((x ++ flat_map action_words t.actions) ++ (0x90000000 + t.target) ∷ []) ++ tail) is ∙ simp append_assoc

  pub length_more : length (transition_words (acting A t)) ≡ length a + 1 + length (transition_words t)
  length_more = ap length (sym (append-nil (transition_words (acting A t))) ∙ words_more [] ∙ ap (λ x. a ++ w ∷ x) (append-nil (transition_words t))) ∙ length-append a (w ∷ transition_words t) ∙ omega arith

  pub told_more : (h : Head) → Plain h a → ends w ≡ true
      → ((ps : List Part) → (transition_of (part_of a w ∷ ps) ≡ acting A (transition_of ps)) × (behind (part_of a w ∷ ps) ≡ behind ps) × (row_of (part_of a w ∷ ps) ≡ straight (transition_of (part_of a w ∷ ps))))
      → Told t → Told (acting A t)
  told_more h p e does told =
      let one : (tail : List ℕ) → parts [] (transition_words (acting A t) ++ tail) ≡ part_of a w ∷ parts [] (transition_words t ++ tail) = λ tail. ap (parts []) (words_more tail) ∙ parts_block h a w (transition_words t ++ tail) p e in
      record {
        read = λ tail. ap transition_of (one tail) ∙ (does _).0 ∙ ap (acting A) (told.read tail);
        rest = λ tail. ap behind (one tail) ∙ (does _).1 ∙ told.rest tail;
        plain = λ tail. ap row_of (one tail) ∙ (does _).2 ∙ ap (λ ps. straight (transition_of ps)) (sym (one tail));
      }

module _ (h : Head) (ws : List ℕ) (few_registers : h.registers ≤ 16) where
  -- a go-to
  pub told_goto : (w : ℕ) → ends w ≡ true → kind w ≡ 9 → (w ≡ 0x90000000 + number w) × Told (record { actions = []; target = number w })
  told_goto w e k =
      let is : w ≡ 0x90000000 + number w = omega arith in
      let one : (tail : List ℕ) → parts [] ((0x90000000 + number w) ∷ tail) ≡ goes (number w) ∷ parts [] tail = λ tail. rw (← is) (parts_block h [] w tail (plain_none h) e ∙ rw k) in
      (is, record { read = λ tail. rw (one tail); rest = λ tail. rw (one tail); plain = λ tail. rw (one tail) })

  -- a transition of at most k actions that was read from p to q, behind the stores that are flagged
  record Trans (k : ℕ) (st : List Bool) (p q : ℕ) : Type 0 where
    value : Transition
    told : Told value
    here : drop p ws ≡ transition_words value ++ drop q ws
    long : q ≡ p + length (transition_words value)
    target_there : value.target < h.states
    few : length value.actions ≤ k
    each : Each (ActionStands h.registers h.inputs) value.actions
    free : Unmarked st value.actions
    once : StoresOnce value.actions

  -- a row that was read from p to q
  record Whole (p q : ℕ) : Type 0 where
    value : Row
    here : drop p ws ≡ row_words value ++ drop q ws
    long : q ≡ p + length (row_words value)
    back : row_of (parts [] (row_words value)) ≡ value
    stands : RowStands h.registers h.inputs h.states value

  close : (k : ℕ) (st : List Bool) (p x q : ℕ) → Block h ws p x → kind (word ws x) ≡ 9 → p ≡ x → x + 1 ≡ q → Trans k st p q
  close k st p x q b nine s n =
      let none : b.items ≡ [] = nil_from_length b.items (let g = b.long in omega arith) in
      let g = told_goto (word ws x) b.last nine in
      record {
        value = record { actions = []; target = number (word ws x) };
        told = g.1;
        here = b.here ∙ ap (λ i. i ++ word ws x ∷ drop (x + 1) ws) none ∙ ap (λ i. i ∷ drop (x + 1) ws) g.0 ∙ ap (λ i. (0x90000000 + number (word ws x)) ∷ drop i ws) n;
        long = omega arith;
        target_there = below_bound h (word ws x) 9 b.fits nine;
        few = omega arith;
        each = tt;
        free = tt;
        once = tt;
      }

  -- one action before what was read behind it
  act : (k : ℕ) (st st' : List Bool) (p x q : ℕ) (A : Action) (b : Block h ws p x) → action_words A ≡ b.items ++ word ws x ∷ []
      → ((ps : List Part) → (transition_of (part_of b.items (word ws x) ∷ ps) ≡ acting A (transition_of ps)) × (behind (part_of b.items (word ws x) ∷ ps) ≡ behind ps) × (row_of (part_of b.items (word ws x) ∷ ps) ≡ straight (transition_of (part_of b.items (word ws x) ∷ ps))))
      → (r : Trans k st' (x + 1) q) → ActionStands h.registers h.inputs A → Unmarked st (A ∷ r.value.actions) → StoresOnce (A ∷ r.value.actions) → Trans (suc k) st p q
  act k st st' p x q A b is does r stands free once =
      let more = length_more b.items (word ws x) A r.value is in
      record {
        value = acting A r.value;
        told = told_more b.items (word ws x) A r.value is h b.plain b.last does r.told;
        here = b.here ∙ ap (λ i. b.items ++ word ws x ∷ i) r.here ∙ sym (words_more b.items (word ws x) A r.value is (drop q ws));
        long = let g = b.long in let f = r.long in omega arith;
        target_there = r.target_there;
        few = let f = r.few in omega arith;
        each = (stands, r.each);
        free = free;
        once = once;
      }

  acted : (k : ℕ) (st : List Bool) (p x q : ℕ) → length st ≡ 16 → (b : Block h ws p x) → acts (part ws p x) st (word ws x) ≡ true → Trans k (marked st (word ws x)) (x + 1) q → Trans (suc k) st p q
  acted k st p x q size b ok r =
      let w : ℕ = word ws x in
      let back = plain_back h b.items b.plain in
      let both = and_parts (is_expression (map item_of (part ws p x))) _ ok in
      let good_items : is_expression (map item_of b.items) ≡ true = subst (λ i. is_expression (map item_of i) ≡ true) b.part_is both.0 in
      let stands : ExpressionStands h.registers h.inputs (map item_of b.items) = (good_items, plain_stands h b.items b.plain) in
      ⊎_elim
      (λ e. let eight = eqb-true (kind w) 8 e in
      let is : w ≡ 0x80000000 + number w = omega arith in
      let same : marked st w ≡ st = rw eight in
      act k st (marked st w) p x q (emit (number w) (map item_of b.items)) b (ap (λ i. i ++ (0x80000000 + number w) ∷ []) back ∙ ap (λ i. b.items ++ i ∷ []) (sym is)) (λ ps. rw eight (refl, refl, refl)) r
      (below_bound h w 8 b.fits eight, stands) (subst (λ s. Unmarked s r.value.actions) same r.free) r.once)
      (λ e. let parts_of = and_parts (eqb (kind w) 7) _ e in
      let seven = eqb-true (kind w) 7 parts_of.0 in
      let is : w ≡ 0x70000000 + number w = omega arith in
      let small : number w < h.registers = below_bound h w 7 b.fits seven in
      let same : marked st w ≡ set st (number w) true = rw seven in
      let u = unmark st (number w) r.value.actions (omega arith) (subst (λ s. Unmarked s r.value.actions) same r.free) in
      act k st (marked st w) p x q (store (number w) (map item_of b.items)) b (ap (λ i. i ++ (0x70000000 + number w) ∷ []) back ∙ ap (λ i. b.items ++ i ∷ []) (sym is)) (λ ps. rw seven (refl, refl, refl)) r
      (small, stands) (not_true (get_or st (number w) false) parts_of.1, u.0) (u.1, r.once))
      (or_cases (eqb (kind w) 8) _ both.1)

  closed : (k : ℕ) (st : List Bool) (p x q : ℕ) → Block h ws p x → eqb (kind (word ws x)) 9 ≡ true → cond (eqb p x) (good (x + 1)) (refused 2 0 x) ≡ good q → Trans k st p q
  closed k st p x q b g e =
      let y = only_true (eqb p x) 2 0 x (good (x + 1)) q e in
      close k st p x q b (eqb-true (kind (word ws x)) 9 g) (eqb-true p x y.0) (good_same (x + 1) q y.1)

  marked_long : (st : List Bool) (b : Bool) (n : ℕ) → length st ≡ 16 → length (cond b (set st n true) st) ≡ 16
  marked_long st true n e = length-set st n true ∙ e
  marked_long st false n e = e

  trans : (k : ℕ) (st : List Bool) (p q : ℕ) → length st ≡ 16 → transition (table_limits h) ws k st p ≡ good q → Trans k st p q
  unfolding transition
  trans zero st p q size e =
      let t = then_good (ending (table_limits h) p (drop p ws)) (λ x. closing ws p x (refused 2 0 x)) q e in
      let x : ℕ = t.0 in
      let b = block h ws p x t.1 in
      ⊎_elim
      (λ g. closed 0 st p x q b g.0 g.1)
      (λ n. absurd (refused_good n.1))
      (cond_good (eqb (kind (word ws x)) 9) (cond (eqb p x) (good (x + 1)) (refused 2 0 x)) (refused 2 0 x) q t.2)
  trans (suc k) st p q size e =
      let more : ℕ → Answer ℕ = λ x. cond (acts (part ws p x) st (word ws x)) (transition (table_limits h) ws k (marked st (word ws x)) (x + 1)) (refused 2 0 x) in
      let t = then_good (ending (table_limits h) p (drop p ws)) (λ x. closing ws p x (more x)) q e in
      let x : ℕ = t.0 in
      let b = block h ws p x t.1 in
      ⊎_elim
      (λ g. closed (suc k) st p x q b g.0 g.1)
      (λ n. let y = only_true (acts (part ws p x) st (word ws x)) 2 0 x (transition (table_limits h) ws k (marked st (word ws x)) (x + 1)) q n.1 in
      acted k st p x q size b y.0 (trans k (marked st (word ws x)) (x + 1) q (marked_long st (eqb (kind (word ws x)) 7) (number (word ws x)) size) y.1))
      (cond_good (eqb (kind (word ws x)) 9) (cond (eqb p x) (good (x + 1)) (refused 2 0 x)) (more x) q t.2)

  read_alone : (t : Transition) → Told t → transition_of (parts [] (transition_words t)) ≡ t
  read_alone t told = ap (λ x. transition_of (parts [] x)) (sym (append-nil (transition_words t))) ∙ told.read []

  whole_stands : {st : List Bool} {p q : ℕ} (t : Trans 8 st p q) → TransitionStands h.registers h.inputs h.states t.value
  whole_stands t = record { target_there = t.target_there; few = t.few; each = t.each; once = t.once }

  one_way : (p q : ℕ) → Trans 8 fresh p q → Whole p q
  one_way p q t =
      let v : Transition = t.value in
      record {
        value = straight v;
        here = t.here;
        long = t.long;
        back = ap (λ x. row_of (parts [] x)) (sym (append-nil (transition_words v))) ∙ t.told.plain [] ∙ ap straight (t.told.read []);
        stands = whole_stands t;
      }

  two_ways : (p x m q : ℕ) (b : Block h ws p x) → is_some (split b.items) ≡ true → kind (word ws x) ≡ 6 → Trans 8 fresh (x + 1) m → Trans 8 fresh m q → Whole p q
  two_ways p x m q b splits k y z =
      let w : ℕ = word ws x in
      let a : List ℕ = b.items in
      let c : ℕ = cut a in
      let t : Test = test_of (number w) in
      let left : List Item = map item_of (take c a) in
      let right : List Item = map item_of (drop c a) in
      let r : Row = branch t left right y.value z.value in
      let tails : List ℕ = transition_words y.value ++ transition_words z.value in
      let is_number : test_number t ≡ number w = test_back (number w) (below_bound h w 6 b.fits k) in
      let is : 0x60000000 + test_number t ≡ w = omega arith in
      let both : map item_word left ++ map item_word right ≡ a =
      sym (map-append item_word left right) ∙ ap (map item_word) (sym (map-append item_of (take c a) (drop c a)) ∙ ap (map item_of) (take-append-drop c a)) ∙ plain_back h a b.plain in
      let words : row_words r ≡ a ++ w ∷ tails = ap (λ i. i ++ (0x60000000 + test_number t) ∷ tails) both ∙ ap (λ i. a ++ i ∷ tails) is in
      let read : parts [] (row_words r) ≡ tests t (take c a) (drop c a) ∷ parts [] tails = ap (parts []) words ∙ parts_block h a w tails b.plain b.last ∙ rw k in
      let size = ap length words ∙ length-append a (w ∷ tails) in
      let sizes = length-append (transition_words y.value) (transition_words z.value) in
      let sides = cut_splits a splits in
      record {
        value = r;
        here = b.here ∙ ap (λ i. a ++ w ∷ i) (y.here ∙ ap (λ i. transition_words y.value ++ i) z.here ∙ sym (append_assoc (transition_words y.value) (transition_words z.value) (drop q ws))) ∙ sym (append_assoc a (w ∷ tails) (drop q ws)) ∙ ap (λ i. i ++ drop q ws) (sym words);
        long = let f = b.long in let g = y.long in let j = z.long in omega arith;
        back = ap row_of read ∙ ap (λ i. branch t left right i (transition_of (behind (parts [] tails)))) (y.told.read (transition_words z.value))
            ∙ ap (λ i. branch t left right y.value (transition_of i)) (y.told.rest (transition_words z.value))
            ∙ ap (λ i. branch t left right y.value i) (read_alone z.value z.told);
        stands = (
          (sides.0, plain_stands h (take c a) (plain_take h c a b.plain)),
          (sides.1, plain_stands h (drop c a) (plain_drop h c a b.plain)),
          whole_stands y,
          whole_stands z,
        );
      }

  whole_row : (p q : ℕ) → row (table_limits h) ws p ≡ good q → Whole p q
  whole_row p q e =
      let l = table_limits h in
      let sides : ℕ → Answer ℕ = λ x. transition l ws 8 fresh (x + 1) then λ n. transition l ws 8 fresh n in
      let test_row : ℕ → Answer ℕ = λ x. cond (is_some (split (part ws p x))) (sides x) (refused 2 0 x) in
      let t = then_good (ending l p (drop p ws)) (λ x. cond (eqb (kind (word ws x)) 6) (test_row x) (transition l ws 8 fresh p)) q e in
      let x : ℕ = t.0 in
      let b = block h ws p x t.1 in
      ⊎_elim
      (λ g. let s = only_true (is_some (split (part ws p x))) 2 0 x (sides x) q g.1 in
      let u = then_good (transition l ws 8 fresh (x + 1)) (λ n. transition l ws 8 fresh n) q s.1 in
      two_ways p x u.0 q b (subst (λ i. is_some (split i) ≡ true) b.part_is s.0) (eqb-true (kind (word ws x)) 6 g.0) (trans 8 fresh (x + 1) u.0 refl u.1) (trans 8 fresh u.0 q refl u.2))
      (λ n. one_way p q (trans 8 fresh p q refl n.1))
      (cond_good (eqb (kind (word ws x)) 6) (test_row x) (transition l ws 8 fresh p) q t.2)

  -- the rows that were read are the words behind the head, and each stands
  all_rows : (n q : ℕ) → rows (table_limits h) ws n ≡ good q → (drop 1 ws ≡ flat_map row_words (first_rows (table_limits h) ws n) ++ drop q ws) × Each (RowStands h.registers h.inputs h.states) (first_rows (table_limits h) ws n)
  unfolding rows first_rows
  all_rows zero q e = (ap (λ i. drop i ws) (good_same 1 q e), tt)
  all_rows (suc n) q e =
      let l = table_limits h in
      let t = then_good (rows l ws n) (row l ws) q e in
      let p : ℕ = t.0 in
      let r = whole_row p q t.2 in
      let size : q - p ≡ length (row_words r.value) = let g = r.long in omega arith in
      let words : part ws p q ≡ row_words r.value = ap (λ i. take i (drop p ws)) size ∙ ap (take (length (row_words r.value))) r.here ∙ take_at (row_words r.value) (drop q ws) (length (row_words r.value)) refl in
      let is : meant (row_part l ws n) ≡ r.value = ap meant (found_at l ws n p q t.1 t.2) ∙ ap (λ i. row_of (parts [] i)) words ∙ r.back in
      let before = all_rows n p t.1 in (
        before.0 ∙ ap (λ i. flat_map row_words (first_rows l ws n) ++ i) r.here ∙ sym (append_assoc (flat_map row_words (first_rows l ws n)) (row_words r.value) (drop q ws))
            ∙ ap (λ i. i ++ drop q ws) (flat_map_more row_words [] (first_rows l ws n) r.value)
            ∙ ap (λ i. flat_map row_words (first_rows l ws n ++ i ∷ []) ++ drop q ws) (sym is),
        each_push (RowStands h.registers h.inputs h.states) (first_rows l ws n) (meant (row_part l ws n)) before.1 (subst (RowStands h.registers h.inputs h.states) (sym is) r.stands),
      )

-- what a good head says
record Headed (w : ℕ) (h : Head) : Type 0 where
  is : counts w ≡ h
  some : 1 ≤ h.states
  most : h.states ≤ 64
  few_registers : h.registers ≤ 16
  few_inputs : h.inputs ≤ 8

headed_so : (w : ℕ) (h : Head) → head_of w ≡ Some h → Headed w h
headed_so w h e = go (good_counts (counts w)) refl e
  where
    go : (b : Bool) → good_counts (counts w) ≡ b → cond b (Some (counts w)) None ≡ Some h → Headed w h
    go false g k = let z : ◌≡◌ {A = ℕ} 0 1 = cc in absurd (omega arith)
    go true g k =
        let is : counts w ≡ h = cc in
        let p = and_parts (leb 1 (counts w).states) _ g in
        let q = and_parts (leb (counts w).states 64) _ p.1 in
        let s = and_parts (leb (counts w).registers 16) _ q.1 in
        let S : w / 65536 ≡ h.states = ap (λ k. k.states) is in
        let R : w / 256 % 256 ≡ h.registers = ap (λ k. k.registers) is in
        let I : w % 256 ≡ h.inputs = ap (λ k. k.inputs) is in
        record {
          is = is;
          some = subst (λ n. 1 ≤ n) S (leb-true 1 (counts w).states p.0);
          most = subst (λ n. n ≤ 64) S (leb-true (counts w).states 64 q.0);
          few_registers = subst (λ n. n ≤ 16) R (leb-true (counts w).registers 16 s.0);
          few_inputs = subst (λ n. n ≤ 8) I (leb-true (counts w).inputs 8 s.1);
        }

reads_at : (ws : List ℕ) (h : Head) → table ws ≡ good h → machine_words (machine_of ws h) ≡ ws
reads_at [] h e = absurd (refused_good e)
reads_at (w ∷ ws) h e =
    let ok = accepted (w ∷ ws) h e in
    let p : ℕ = ok.1.0 in
    let hd = headed_so w h ok.0 in
    let none : drop p (w ∷ ws) ≡ [] = drop_all p (w ∷ ws) (let f = ok.1.2 in omega arith) in
    let all = (all_rows h (w ∷ ws) hd.few_registers h.states p ok.1.1).0 in
    let rest : flat_map row_words (first_rows (table_limits h) (w ∷ ws) h.states) ≡ ws = sym (all ∙ ap (λ i. flat_map row_words (first_rows (table_limits h) (w ∷ ws) h.states) ++ i) none ∙ append-nil (flat_map row_words (first_rows (table_limits h) (w ∷ ws) h.states))) in
    let size = rows_length (table_limits h) (w ∷ ws) h.states in
    let s : w / 65536 ≡ h.states = ap (λ k. k.states) hd.is in
    let r : w / 256 % 256 ≡ h.registers = ap (λ k. k.registers) hd.is in
    let i : w % 256 ≡ h.inputs = ap (λ k. k.inputs) hd.is in
    let head : length (first_rows (table_limits h) (w ∷ ws) h.states) * 65536 + h.registers * 256 + h.inputs ≡ w = omega arith in
    ap (λ k. k ∷ flat_map row_words (first_rows (table_limits h) (w ∷ ws) h.states)) head ∙ ap (λ k. w ∷ k) rest

pub reads_back : ReadsBack
reads_back ws m e =
    let t = then_good (table ws) (λ h. good (machine_of ws h)) m e in
    subst (λ k. machine_words k ≡ ws) (good_same (machine_of ws t.0) m t.2) (reads_at ws t.0 t.1)

sound_at : (ws : List ℕ) (h : Head) → table ws ≡ good h → SoundMachine (machine_of ws h)
sound_at ws h e =
    let ok = accepted ws h e in
    let hd = headed_so (word ws 0) h ok.0 in
    let size = rows_length (table_limits h) ws h.states in
    let each = (all_rows h ws hd.few_registers h.states ok.1.0 ok.1.1).1 in
    record {
      some = let f = hd.some in omega arith;
      most = let f = hd.most in omega arith;
      few_registers = hd.few_registers;
      few_inputs = hd.few_inputs;
      rows_stand = subst (λ n. Each (RowStands h.registers h.inputs n) (first_rows (table_limits h) ws h.states)) (sym size) each;
    }

pub sound_tables : SoundTables
sound_tables = record {
  machines = λ ws m e. (
      let t = then_good (table ws) (λ h. good (machine_of ws h)) m e in
      subst SoundMachine (good_same (machine_of ws t.0) m t.2) (sound_at ws t.0 t.1));
  heads = λ ws h m k e. (
      let is : machine_of ws h ≡ m = good_same (machine_of ws h) m (sym (ap (λ a. a then λ g. good (machine_of ws g)) k) ∙ e) in
      subst (Counted h) is (record { states = sym (rows_length (table_limits h) ws h.states); registers = refl; inputs = refl }));
}
