-- The rows of an accepted table, and the machine that it stands for.
use Rattle.std.proofs.Common.{◌≡◌, ℕ, zero, suc, ◌+◌, ◌-◌, ◌<◌, ◌≤◌, cond, eqb, ltb, List, [], ◌∷◌, length, get_or, drop, Some, None, Option, sym, refl, ap, ◌∙◌, subst, ⊎_elim, add-zero, add-suc, add-one, arith}
use Rattle.std.proofs.lemmas.List.{length_push, get_or_push, get_or_append_left}
use Rattle.std.proofs.lemmas.Bool.{cases_lt, cond-true, cond-false, lt-ltb, le-ltb, eqb-true}
use Rattle.machine.specs.declared.head.Head.{Head}
use Rattle.machine.specs.declared.words.Limits.{Limits}
use Rattle.machine.specs.declared.row.Row.{Row as View}
use Rattle.machine.specs.Answer.{Answer, good, refused, ◌then◌}
use Rattle.machine.specs.Words.{word, part, head_of, table_limits}
use Rattle.machine.specs.Machine.{Row, Machine, row_at}
use Rattle.machine.specs.Reading.{longest, row, rows, headed, table, parts, row_of, under, table_row, row_part, meant, first_rows, machine_of}
use Rattle.machine.specs.Views.{viewed, IsRow, Encodes}
use Rattle.machine.proofs.Chains.{refused_good, good_same, then_good, only_true, only_false}

pub no_words : (ws : List ℕ) (s : ℕ) → length ws ≡ 0 → table_row ws s ≡ None
no_words [] s e = refl
no_words (w ∷ ws) s e = absurd (omega arith)

headed_at : {X : Type 0} (o : Option Head) (f : Head → Answer X) (x : X) → headed o f ≡ good x → (h : Head) × (o ≡ Some h) × (f h ≡ good x)
headed_at None f x e = absurd (refused_good e)
headed_at (Some h) f x e = (h, refl, e)

-- an accepted table has a good head, and all its rows were read
pub accepted : (ws : List ℕ) (h : Head) → table ws ≡ good h → (head_of (word ws 0) ≡ Some h) × ((p : ℕ) × (rows (table_limits h) ws h.states ≡ good p) × (p ≡ length ws))
accepted ws h e =
    let body : Head → Answer Head = λ k. rows (table_limits k) ws k.states then λ p. cond (eqb p (length ws)) (good k) (refused 3 0 p) in
    let a = (only_false (eqb (length ws) 0) 3 0 0 (headed (head_of (word ws 0)) body) h (only_false (ltb longest (length ws)) 3 0 longest _ h e).1).1 in
    let b = headed_at (head_of (word ws 0)) body h a in
    let c = then_good (rows (table_limits b.0) ws b.0.states) (λ p. cond (eqb p (length ws)) (good b.0) (refused 3 0 p)) h b.2 in
    let d = only_true (eqb c.0 (length ws)) 3 0 c.0 (good b.0) h c.2 in
    let same = good_same b.0 h d.1 in
    (b.1 ∙ ap Some same, (c.0, ap (λ k. rows (table_limits k) ws k.states) (sym same) ∙ c.1, eqb-true c.0 (length ws) d.0))

module _ (l : Limits) (ws : List ℕ) where
  pub reaches : (n m p : ℕ) → rows l ws (n + m) ≡ good p → (q : ℕ) × (rows l ws n ≡ good q)
  unfolding rows
  reaches n zero p e = (p, rw add-zero at e)
  reaches n (suc m) p e = let t = then_good (rows l ws (n + m)) (row l ws) p (rw add-suc at e) in reaches n m t.0 t.1

  pub found_at : (s p q : ℕ) → rows l ws s ≡ good p → row l ws p ≡ good q → row_part l ws s ≡ Some (p, part ws p q)
  found_at s p q e f = rw (e, f)

  -- each row before the last is there
  pub stands : (s n p : ℕ) → s < n → rows l ws n ≡ good p → (w : ℕ × List ℕ) × (row_part l ws s ≡ Some w)
  unfolding rows
  stands s n p h e =
      let back : suc s + (n - suc s) ≡ n = omega arith in
      let all : rows l ws (suc s + (n - suc s)) ≡ good p = rw back e in
      let next = reaches (suc s) (n - suc s) p all in
      let here = then_good (rows l ws s) (row l ws) next.0 next.1 in
      ((here.0, part ws here.0 next.0), found_at s here.0 next.0 here.1 here.2)

  pub rows_length : (n : ℕ) → length (first_rows l ws n) ≡ n
  unfolding first_rows
  rows_length zero = refl
  rows_length (suc n) = length_push (first_rows l ws n) (meant (row_part l ws n)) ∙ ap (λ k. k + 1) (rows_length n) ∙ add-one n

  pub rows_at : (n s : ℕ) (d : Row) → s < n → get_or (first_rows l ws n) s d ≡ meant (row_part l ws s)
  unfolding first_rows
  rows_at zero s d h = absurd (omega arith)
  rows_at (suc n) s d h = ⊎_elim
      (λ lt. let k : s < length (first_rows l ws n) = omega (arith, rows_length n) in get_or_append_left (first_rows l ws n) (meant (row_part l ws n) ∷ []) d s k ∙ rows_at n s d lt)
      (λ ge. let k : s ≡ n = omega arith in rw k (get_or_push (first_rows l ws n) (meant (row_part l ws n)) d n (rows_length n)))
      (cases_lt s n)

-- a view, where the row is there and where it is missing
some_row : (m : Machine) (s : ℕ) (r : Option View) (w : ℕ × List ℕ) → s < length m.rows → viewed r ≡ Some w → meant (Some w) ≡ row_at m s → IsRow m s r
some_row m s None w h e g = let z : ◌≡◌ {A = ℕ} 0 1 = cc in absurd (omega arith)
some_row m s (Some r) w h e g = let same : drop r.cursor r.words.now ≡ w.1 = cc in (h, ap (λ k. row_of (parts [] k)) same ∙ g)

no_row : (m : Machine) (s : ℕ) (r : Option View) → length m.rows ≤ s → viewed r ≡ None → IsRow m s r
no_row m s None h e = h
no_row m s (Some r) h e = let z : ◌≡◌ {A = ℕ} 0 1 = cc in absurd (omega arith)

-- the view of state s of an accepted table is row s of its machine
view_is : (ws : List ℕ) (s : ℕ) (h : Head) (r : Option View) → table ws ≡ good h → viewed r ≡ table_row ws s → IsRow (machine_of ws h) s r
view_is ws s h r t v =
    let ok = accepted ws h t in
    let l : Limits = table_limits h in
    let here : table_row ws s ≡ cond (ltb s h.states) (row_part l ws s) None = ap (λ o. under o (λ k. cond (ltb s k.states) (row_part (table_limits k) ws s) None)) ok.0 in
    let long = rows_length l ws h.states in
    ⊎_elim
    (λ lt.
    let w = stands l ws s h.states ok.1.0 lt ok.1.1 in
    let is = v ∙ here ∙ cond-true (ltb s h.states) (row_part l ws s) None (lt-ltb s h.states lt) ∙ w.1 in
    some_row (machine_of ws h) s r w.0 (omega arith) is (ap meant (sym w.1) ∙ sym (rows_at l ws h.states s _ lt)))
    (λ ge. no_row (machine_of ws h) s r (omega arith) (v ∙ here ∙ cond-false (ltb s h.states) (row_part l ws s) None (le-ltb s h.states ge)))
    (cases_lt s h.states)

pub encodes : (ws : List ℕ) (s : ℕ) (r : Option View) → viewed r ≡ table_row ws s → Encodes ws s r
encodes ws s r v m e =
    let t = then_good (table ws) (λ h. good (machine_of ws h)) m e in
    subst (λ k. IsRow k s r) (good_same (machine_of ws t.0) m t.2) (view_is ws s t.0 r t.1 v)
