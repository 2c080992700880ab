-- Where two expressions one behind the other are cut.
use Rattle.std.proofs.Common.{◌≡◌, ℕ, zero, suc, ◌<◌, ◌≤◌, Bool, true, false, ◌&&◌, List, map, length, take, drop, is_some, Some, None, Option, unwrap_or, sym, refl, ap, ◌∙◌, subst, ⊎_elim, arith}
use Rattle.std.proofs.lemmas.Bool.{and_parts, cond_both, cases_eq, cases_lt}
use Rattle.expression.specs.Words.{item_of}
use Rattle.expression.specs.Shape.{is_expression, split_below, split, Splits}
use Rattle.expression.proofs.Splits.{one_split}
use Rattle.machine.specs.Reading.{cut}

none_some : {X : Type 0} (x : X) → None ≡ Some x → ⊥
none_some x e = let z : ◌≡◌ {A = ℕ} 0 1 = cc in omega arith

some_same : {X : Type 0} (x y : X) → ◌≡◌ {A = Option X} (Some x) (Some y) → x ≡ y
some_same x y e = cc

below : (ws : List ℕ) (n k : ℕ) → split_below n ws ≡ Some k → (k < n) × Splits ws k
below ws zero k e = absurd (none_some k e)
below ws (suc n) k e =
    cond_both (is_expression (map item_of (take n ws)) && is_expression (map item_of (drop n ws))) (Some n) (split_below n ws) (λ o. o ≡ Some k → (k < suc n) × Splits ws k)
    (λ b s. (let is = some_same n k s in let p = and_parts (is_expression (map item_of (take n ws))) _ b in (omega arith, subst (Splits ws) is (p.0, p.1))))
    (λ b s. (let r = below ws n k s in (omega (arith, r.0), r.1)))
    e

-- What `split` finds lies within the words and splits them.
pub split_splits : (ws : List ℕ) (k : ℕ) → split ws ≡ Some k → (k < length ws) × Splits ws k
unfolding split
split_splits ws k e = below ws (length ws) k e

value_within : (o : Option ℕ) (n : ℕ) → ((k : ℕ) → o ≡ Some k → k ≤ n) → unwrap_or o 0 ≤ n
value_within None n h = omega arith
value_within (Some k) n h = h k refl

pub cut_within : (ws : List ℕ) → cut ws ≤ length ws
cut_within ws = value_within (split ws) (length ws) (λ k e. omega (arith, (split_splits ws k e).0))

value_splits : (ws : List ℕ) (o : Option ℕ) → is_some o ≡ true → ((k : ℕ) → o ≡ Some k → Splits ws k) → Splits ws (unwrap_or o 0)
value_splits ws None e h = let z : ◌≡◌ {A = Bool} false true = e in let y : ◌≡◌ {A = ℕ} 0 1 = cc in absurd (omega arith)
value_splits ws (Some k) e h = h k refl

-- Words that can be split are cut into two expressions.
pub cut_splits : (ws : List ℕ) → is_some (split ws) ≡ true → Splits ws (cut ws)
cut_splits ws e = value_splits ws (split ws) e (λ k s. (split_splits ws k s).1)

-- Words that split at n, n below m, are found to split below m.
found_below : (ws : List ℕ) (m n : ℕ) → n < m → Splits ws n → is_some (split_below m ws) ≡ true
found_below ws zero n h s = absurd (omega arith)
found_below ws (suc m) n h s =
    let b : ℕ → Bool = λ k. is_expression (map item_of (take k ws)) && is_expression (map item_of (drop k ws)) in
    let at_n : b n ≡ true = rw (s.0, s.1) in
    cond_both (b m) (Some m) (split_below m ws) (λ o. is_some o ≡ true)
    (λ e. refl)
    (λ e. ⊎_elim (λ same. (let z : ◌≡◌ {A = Bool} true false = sym at_n ∙ ap b same ∙ e in let y : ◌≡◌ {A = ℕ} 0 1 = cc in absurd (omega arith)))
    (λ apart. found_below ws m n (below_apart m n h apart) s)
    (cases_eq n m))
  where
    below_apart : (m n : ℕ) → n < suc m → (n ≡ m → ⊥) → n < m
    below_apart m n h apart = ⊎_elim (λ lt. lt) (λ ge. absurd (apart (let g : m ≤ n = ge in omega arith))) (cases_lt n m)

pub found_split : (ws : List ℕ) (n : ℕ) → n < length ws → Splits ws n → is_some (split ws) ≡ true
unfolding split
found_split ws n h s = found_below ws (length ws) n h s

-- and are cut there
pub cut_is : (ws : List ℕ) (n : ℕ) → n < length ws → Splits ws n → cut ws ≡ n
cut_is ws n h s = one_split ws (cut ws) n (cut_splits ws (found_split ws n h s)) s
