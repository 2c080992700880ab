-- Two expressions one behind the other can be split in one way only.
use Rattle.std.proofs.Common.{◌≡◌, ℕ, zero, suc, ◌+◌, ◌-◌, ◌<◌, ◌≤◌, ◌≢◌, Bool, true, false, ◌&&◌, Some, None, Option, MatchOption, leb, List, [], ◌∷◌, ◌++◌, map, length, take, drop, get_or, sym, refl, ap, ◌∙◌, subst, ⊎_elim, arith, take-add}
use Rattle.std.proofs.Math.Seq.{drop-length}
use Rattle.std.specs.Bool.{then_some}
use Rattle.std.proofs.lemmas.Bool.{and_parts, leb-true, eqb-true, cases_order, true≢false}
use Rattle.std.proofs.lemmas.List.{take-append-drop, map-append, take-map, length-map, length-drop, length-take-le, drop-drop, drop_more}
use Rattle.expression.specs.declared.item.Item.{Item}
use Rattle.expression.specs.declared.item.Item.TheVariants.{Constant, Register, Input, Symbol, Sum, Difference, Product, Negation}
use Rattle.expression.specs.Words.{takes, item_of}
use Rattle.expression.specs.Shape.{lands, is_expression, split_below, split, Splits, OneSplit}

-- the items take d values to e, never short
Run : ℕ → List Item → ℕ → Type 0
Run d [] e = d ≡ e
Run d (w ∷ ws) e = (takes w ≤ d) × Run (d - takes w + 1) ws e

lands_run : (d : ℕ) (ws : List Item) → lands d ws ≡ true → Run d ws 1
unfolding Run
lands_run d [] h = eqb-true d 1 h
lands_run d (w ∷ ws) h =
    let p = and_parts (leb (takes w) d) _ h in
    (leb-true (takes w) d p.0, lands_run (d - takes w + 1) ws (and_parts (leb (d - takes w + 1) 8) _ p.1).1)

run_split : (d e : ℕ) (xs ys : List Item) → Run d (xs ++ ys) e → (m : ℕ) × Run d xs m × Run m ys e
unfolding Run
run_split d e [] ys r = (d, refl, r)
run_split d e (x ∷ xs) ys r = let s = run_split (d - takes x + 1) e xs ys r.1 in (s.0, (r.0, s.1), s.2)

run_shift : (d e : ℕ) (xs : List Item) → Run d xs e → Run (d + 1) xs (e + 1)
unfolding Run
run_shift d e [] r = ap (λ n. n + 1) r
run_shift d e (x ∷ xs) r =
    let up : d - takes x + 1 + 1 ≡ d + 1 - takes x + 1 = omega arith in
    (omega arith, subst (λ n. Run n xs (e + 1)) up (run_shift (d - takes x + 1) e xs r.1))

run_same : (d m n : ℕ) (xs : List Item) → Run d xs m → Run d xs n → m ≡ n
unfolding Run
run_same d m n [] r s = sym r ∙ s
run_same d m n (x ∷ xs) r s = run_same (d - takes x + 1) m n xs r.1 s.1

run_some : (d e : ℕ) (xs : List Item) → 0 < d → Run d xs e → 0 < e
unfolding Run
run_some d e [] h r = omega arith
run_some d e (x ∷ xs) h r = run_some (d - takes x + 1) e xs (omega arith) r.1

expr_run : (ws : List Item) → is_expression ws ≡ true → Run 0 ws 1
unfolding is_expression
expr_run ws h = lands_run 0 ws (and_parts (leb (length ws) 24) _ h).1

-- How many values the items take.
abbrev pub wants : List Item → ℕ
wants [] = 0
wants (i ∷ e) = takes i + wants e

pub takes_few : (i : Item) → takes i ≤ 2
takes_few (Constant n) = omega arith
takes_few (Register n) = omega arith
takes_few (Input n) = omega arith
takes_few (Symbol n) = omega arith
takes_few Sum = omega arith
takes_few Difference = omega arith
takes_few Product = omega arith
takes_few Negation = omega arith

run_wants : (d e : ℕ) (xs : List Item) → Run d xs e → d + length xs ≡ wants xs + e
unfolding Run
run_wants d e [] r = omega (arith, r)
run_wants d e (x ∷ xs) r = omega (arith, r.0, run_wants (d - takes x + 1) e xs r.1)

expr_wants : (e : List Item) → is_expression e ≡ true → length e ≡ 1 + wants e
expr_wants e h = omega (arith, run_wants 0 1 e (expr_run e h))

-- Of an expression, what stands behind a first part wants values.
rest_wants : (front back : List Item) → 0 < length front → is_expression (front ++ back) ≡ true → length back ≤ wants back
unfolding Run
rest_wants [] back h e = absurd (omega (arith, h))
rest_wants (x ∷ xs) back h e =
    let s = run_split 0 1 (x ∷ xs) back (expr_run ((x ∷ xs) ++ back) e) in
    let some = run_some (0 - takes x + 1) s.0 xs (omega arith) s.1.1 in
    omega (arith, some, run_wants s.0 1 back s.2)

-- no expression goes on as one behind an expression
pub no_longer : (a b : List Item) (n : ℕ) → 0 < n → is_expression a ≡ true → is_expression b ≡ true → is_expression (a ++ take n b) ≡ true → ⊥
unfolding Run
no_longer a [] n h ha hb hc = let r = expr_run [] hb in omega arith
no_longer a (x ∷ b) zero h ha hb hc = omega arith
no_longer a (x ∷ b) (suc n) h ha hb hc =
    let s = run_split 0 1 a (x ∷ take n b) (expr_run (a ++ take (suc n) (x ∷ b)) hc) in
    let one : s.0 ≡ 1 = run_same 0 s.0 1 a s.1 (expr_run a ha) in
    let front : Run 1 (x ∷ take n b) 1 = subst (λ m. Run m (x ∷ take n b) 1) one s.2 in
    let whole : Run 0 ((x ∷ take n b) ++ drop n b) 1 = subst (λ l. Run 0 (x ∷ l) 1) (sym (take-append-drop n b)) (expr_run (x ∷ b) hb) in
    let t = run_split 0 1 (x ∷ take n b) (drop n b) whole in
    let up = run_same 1 (t.0 + 1) 1 (x ∷ take n b) (run_shift 0 t.0 (x ∷ take n b) t.1) front in
    let some = run_some (0 - takes x + 1) t.0 (take n b) (omega arith) t.1.1 in
    omega arith

not_before : (ws : List ℕ) (j k : ℕ) → k < j → Splits ws j → Splits ws k → ⊥
not_before ws j k h sj sk =
    let back : k + (j - k) ≡ j = omega arith in
    let is : map item_of (take j ws) ≡ map item_of (take k ws) ++ take (j - k) (map item_of (drop k ws)) =
    ap (λ n. map item_of (take n ws)) (sym back) ∙ ap (map item_of) (take-add k (j - k) ws) ∙ map-append item_of (take k ws) (take (j - k) (drop k ws))
    ∙ ap (λ l. map item_of (take k ws) ++ l) (sym (take-map item_of (j - k) (drop k ws))) in
    no_longer (map item_of (take k ws)) (map item_of (drop k ws)) (j - k) (omega arith) sk.0 sk.1 (subst (λ l. is_expression l ≡ true) is sj.0)

pub one_split : OneSplit
one_split ws j k sj sk = ⊎_elim (λ e. e) (λ o. ⊎_elim (λ lt. absurd (not_before ws k j lt sk sj)) (λ gt. absurd (not_before ws j k gt sj sk)) o) (cases_order j k)

-- The places of the words, and the one that splits them.
module _ (ws : List ℕ) where
  abbrev pub both : ℕ → Bool
  both k = is_expression (map item_of (take k ws)) && is_expression (map item_of (drop k ws))

  splits : (k : ℕ) → both k ≡ true → Splits ws k
  splits k e = and_parts (is_expression (map item_of (take k ws))) _ e

  below_none : (n : ℕ) → ((k : ℕ) → k < n → both k ≡ false) → split_below n ws ≡ None
  below_none zero h = refl
  below_none (suc n) h = rw (h n (omega arith)) (below_none n (λ k lt. h k (omega arith)))

  below_one : (n i : ℕ) → i < n → both i ≡ true → split_below n ws ≡ Some i
  below_one zero i h e = absurd (omega arith)
  below_one (suc n) i h e = go (both n) refl (λ lt. below_one n i lt e)
    where
      go : (b : Bool) → both n ≡ b → (i < n → split_below n ws ≡ Some i) → split_below (suc n) ws ≡ Some i
      go true is more = rw is (ap Some (one_split ws n i (splits n is) (splits i e)))
      go false is more =
          let other : n ≢ i = λ same. true≢false (sym e ∙ ap both (sym same) ∙ is) in
          rw is (more (omega arith))

  abbrev pub after : ℕ → List Item
  after k = map item_of (drop k ws)

  long_after : (k : ℕ) → length (after k) ≡ length ws - k
  long_after k = length-map (drop k ws) item_of ∙ length-drop k ws

  -- The word before a place wants the values that it takes.
  pub wants_more : (k : ℕ) → 0 < k → k ≤ length ws → wants (after (k - 1)) ≡ takes (item_of (get_or ws (k - 1) 0)) + wants (after k)
  wants_more k h le = ap (λ l. wants (map item_of l)) (drop_more ws (k - 1) 0 (omega arith) ∙ ap (λ n. get_or ws (k - 1) 0 ∷ drop n ws) (omega arith))

  -- Where a value is wanted, no expression begins that goes on to the end.
  pub not_here : (k : ℕ) → length ws - k ≤ wants (after k) → both k ≡ false
  not_here k few = go (both k) refl
    where
      go : (b : Bool) → both k ≡ b → both k ≡ false
      go true is = absurd (omega (arith, few, long_after k, expr_wants (after k) (splits k is).1))
      go false is = is

  abbrev between : ℕ → ℕ → List Item
  between j k = map item_of (take (k - j) (drop j ws))

  long_between : (j k : ℕ) → j < k → k < length ws → length (between j k) ≡ k - j
  long_between j k lt h =
      let fits : k - j ≤ length (drop j ws) = subst (λ n. k - j ≤ n) (sym (length-drop j ws)) (omega arith) in
      length-map (take (k - j) (drop j ws)) item_of ∙ length-take-le (k - j) (drop j ws) fits

  parts_between : (j k : ℕ) → j < k → after j ≡ between j k ++ after k
  parts_between j k lt =
      let back : drop (k - j) (drop j ws) ≡ drop k ws = drop-drop (k - j) j ws ∙ ap (λ n. drop n ws) (omega arith) in
      ap (map item_of) (sym (take-append-drop (k - j) (drop j ws))) ∙ map-append item_of (take (k - j) (drop j ws)) (drop (k - j) (drop j ws)) ∙ ap (λ l. between j k ++ map item_of l) back

  -- Where none is wanted, none begins before.
  pub not_before_here : (j k : ℕ) → j < k → k < length ws → wants (after k) < length ws - k → both j ≡ false
  not_before_here j k lt h few = go (both j) refl
    where
      go : (b : Bool) → both j ≡ b → both j ≡ false
      go true is =
          let rest = rest_wants (between j k) (after k) (omega (arith, long_between j k lt h)) (subst (λ l. is_expression l ≡ true) (parts_between j k lt) (splits j is).1) in
          absurd (omega (arith, few, rest, long_after k))
      go false is = is

  pub none_more : (k : ℕ) → both (k - 1) ≡ false → ((j : ℕ) → k ≤ j → j < length ws → both j ≡ false) → (j : ℕ) → k - 1 ≤ j → j < length ws → both j ≡ false
  none_more k is h j le lt = ⊎_elim (λ same. subst (λ n. both n ≡ false) same is) (λ o. ⊎_elim (λ below. h j (omega arith) lt) (λ above. absurd (omega arith)) o) (cases_order (k - 1) j)

  pub wants_end : wants (after (length ws)) ≡ 0
  wants_end = ap (λ l. wants (map item_of l)) (drop-length ws)

  pub none_splits : ((k : ℕ) → k < length ws → both k ≡ false) → split ws ≡ None
  unfolding split
  none_splits h = below_none (length ws) h

  -- The first place that splits them, among all below the length, is the one that there is.
  pub split_is : (r : Option ℕ) → MatchOption r ((k : ℕ) → 0 ≤ k → k < length ws → both k ≡ false) (λ i. (0 ≤ i) × (i < length ws) × (both i ≡ true) × ((k : ℕ) → 0 ≤ k → k < i → both k ≡ false)) → r ≡ split ws
  unfolding split
  split_is None h = sym (below_none (length ws) (λ k lt. h k (omega arith) lt))
  split_is (Some i) (l, m, s, r) = sym (below_one (length ws) i m s)

  -- The one place that is left splits the words, or none does.
  pub split_here : (k : ℕ) → k < length ws → ((j : ℕ) → j < k → both j ≡ false) → ((j : ℕ) → k < j → j < length ws → both j ≡ false) → then_some (both k) k ≡ split ws
  unfolding split
  split_here k h before behind = go (both k) refl
    where
      go : (b : Bool) → both k ≡ b → then_some b k ≡ split ws
      go true is = sym (below_one (length ws) k h is)
      go false is = sym (below_none (length ws) (λ j lt. ⊎_elim (λ same. subst (λ n. both n ≡ false) (sym same) is) (λ o. ⊎_elim (λ less. before j less) (λ more. behind j more lt) o) (cases_order j k)))
