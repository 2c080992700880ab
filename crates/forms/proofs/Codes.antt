-- Code lists as monomials.
use Rattle.std.proofs.Common.{◌≡◌, ℕ, suc, ◌+◌, ◌<◌, ◌≤◌, true, false, eqb, ltb, leb, ◌⊎◌, List, [], ◌∷◌, sym, refl, ap, ◌∙◌, inl, inr, arith}
use Rattle.std.proofs.lemmas.Bool.{cond_both, cond-true, cond-false, eq-eqb, ne_eqb, le-leb, lt-leb, lt-ltb, le-ltb, cases_order, cases_lt}
use Rattle.forms.specs.Monomials.{insert, times}
use Rattle.forms.specs.Monomials.{Codes}
use Rattle.forms.specs.Theorems.{count, before}
use Rattle.forms.proofs.Packing.{times_codes}

count_insert : (c d : ℕ) (m : List ℕ) → count c (insert d m) ≡ count c (d ∷ m)
count_insert c d [] = refl
count_insert c d (e ∷ m) =
    let ih = count_insert c d m in
    cond_both (leb e d) (d ∷ (e ∷ m)) (e ∷ insert d m) (λ l. count c l ≡ count c (d ∷ (e ∷ m))) (λ q. refl) (λ q. omega arith)

pub count_times : (c : ℕ) (m n : List ℕ) → count c (times m n) ≡ count c m + count c n
count_times c [] n = omega arith
count_times c (d ∷ m) n = let ih = count_times c m n in count_insert c d (times m n) ∙ omega arith

count_above : (b c : ℕ) (m : List ℕ) → Codes b m → b < c → count c m ≡ 0
count_above b c [] h l = refl
count_above b c (d ∷ m) h l =
    let e = cond-false {A = ℕ} (eqb c d) 1 0 (ne_eqb c d (λ q. omega arith)) in
    let ih = count_above d c m h.2 (omega arith) in
    omega arith

count_head : (c : ℕ) (m : List ℕ) → count c (c ∷ m) ≡ suc (count c m)
count_head c m = let e = cond-true {A = ℕ} (eqb c c) 1 0 (eq-eqb c c refl) in omega arith

pub apart : (b : ℕ) (m n : List ℕ) → Codes b m → Codes b n → ((c : ℕ) → count c m ≡ count c n) → m ≡ n
apart b [] [] h k e = refl
apart b [] (d ∷ n) h k e = absurd (omega (arith, e d, count_head d n))
apart b (c ∷ m) [] h k e = absurd (omega (arith, e c, count_head c m))
apart b (c ∷ m) (d ∷ n) h k e = go (λ q. apart c m n h.2 (rw (← q) at k.2)) (cases_order c d)
  where
    go : (c ≡ d → ((x : ℕ) → count x m ≡ count x n) → m ≡ n) → (c ≡ d) ⊎ ((c < d) ⊎ (d < c)) → c ∷ m ≡ d ∷ n
    go tails (inl q) = cc (q, tails q (λ x. omega (arith, rw (← q) at (e x))))
    go tails (inr (inl l)) = absurd (omega (arith, e d, count_head d n, count_above c d (c ∷ m) (h.0, omega arith, h.2) l))
    go tails (inr (inr l)) = absurd (omega (arith, e c, count_head c m, count_above d c (d ∷ n) (k.0, omega arith, k.2) l))

-- an insertion keeps the order
module _ (c : ℕ) where
  both_heads : (m n : List ℕ) → before (c ∷ m) (c ∷ n) ≡ before m n
  both_heads m n = cond-true (eqb c c) (before m n) (ltb c c) (eq-eqb c c refl)

  head_less : (d : ℕ) (m n : List ℕ) → c < d → before (c ∷ m) (d ∷ n) ≡ true
  head_less d m n l = cond-false (eqb c d) (before m n) (ltb c d) (ne_eqb c d (λ q. omega arith)) ∙ lt-ltb c d l

  head_more : (d : ℕ) (m n : List ℕ) → d < c → before (c ∷ m) (d ∷ n) ≡ false
  head_more d m n l = cond-false (eqb c d) (before m n) (ltb c d) (ne_eqb c d (λ q. omega arith)) ∙ le-ltb c d (omega arith)

insert_high : (c d : ℕ) (m : List ℕ) → d ≤ c → insert c (d ∷ m) ≡ c ∷ (d ∷ m)
insert_high c d m l = cond-true (leb d c) (c ∷ (d ∷ m)) (d ∷ insert c m) (le-leb d c l)

insert_low : (c d : ℕ) (m : List ℕ) → c < d → insert c (d ∷ m) ≡ d ∷ insert c m
insert_low c d m l = cond-false (leb d c) (c ∷ (d ∷ m)) (d ∷ insert c m) (lt-leb d c l)

insert_rises : (c : ℕ) (m n : List ℕ) → before (insert c m) (insert c n) ≡ before m n
insert_rises c [] [] = both_heads c [] []
insert_rises c [] (d ∷ n) = go (cases_lt c d)
  where
    go : (c < d) ⊎ (d ≤ c) → before (c ∷ []) (insert c (d ∷ n)) ≡ true
    go (inl l) = rw (insert_low c d n l) (head_less c d [] (insert c n) l)
    go (inr l) = rw (insert_high c d n l) (both_heads c [] (d ∷ n))
insert_rises c (a ∷ m) [] = go (cases_lt c a)
  where
    go : (c < a) ⊎ (a ≤ c) → before (insert c (a ∷ m)) (c ∷ []) ≡ false
    go (inl l) = rw (insert_low c a m l) (head_more a c (insert c m) [] l)
    go (inr l) = rw (insert_high c a m l) (both_heads c (a ∷ m) [])
insert_rises c (a ∷ m) (d ∷ n) = go (insert_rises c m n) (cases_lt c a) (cases_lt c d)
  where
    go : before (insert c m) (insert c n) ≡ before m n → (c < a) ⊎ (a ≤ c) → (c < d) ⊎ (d ≤ c) → before (insert c (a ∷ m)) (insert c (d ∷ n)) ≡ before (a ∷ m) (d ∷ n)
    go ih (inl l) (inl l') = rw (insert_low c a m l, insert_low c d n l', ih)
    go ih (inl l) (inr l') = rw (insert_low c a m l, insert_high c d n l') (head_more a c (insert c m) (d ∷ n) l ∙ sym (head_more a d m n (omega arith)))
    go ih (inr l) (inl l') = rw (insert_high c a m l, insert_low c d n l') (head_less c d (a ∷ m) (insert c n) l' ∙ sym (head_less a d m n (omega arith)))
    go ih (inr l) (inr l') = rw (insert_high c a m l, insert_high c d n l') (both_heads c (a ∷ m) (d ∷ n))

pub times_rises : (x m n : List ℕ) → before (times x m) (times x n) ≡ before m n
times_rises [] m n = refl
times_rises (c ∷ x) m n = insert_rises c (times x m) (times x n) ∙ times_rises x m n

-- the product as a merge: the larger head first
pub insert_top : (c : ℕ) (m : List ℕ) → Codes c m → insert c m ≡ c ∷ m
insert_top c [] h = refl
insert_top c (d ∷ m) h = insert_high c d m h.1

pub times_left : (c d : ℕ) (m n : List ℕ) → d ≤ c → Codes c m → Codes c (d ∷ n) → times (c ∷ m) (d ∷ n) ≡ c ∷ times m (d ∷ n)
times_left c d m n l h k = insert_top c (times m (d ∷ n)) (times_codes c m (d ∷ n) h k)

pub times_right : (c d : ℕ) (m n : List ℕ) → c < d → Codes c m → times (c ∷ m) (d ∷ n) ≡ d ∷ times (c ∷ m) n
times_right c d [] n l h = insert_low c d n l
times_right c d (a ∷ m) n l h = ap (insert c) (times_right a d m n (omega arith) h.2) ∙ insert_low c d (times (a ∷ m) n) l
