-- The first place whose word passes a test, and what is read from a place on.
use Rattle.std.proofs.Common.{◌≡◌, ℕ, zero, suc, ◌+◌, ◌-◌, ◌<◌, ◌≤◌, Bool, true, false, cond, not, ◌||◌, List, [], length, drop, max, Some, None, Option, refl, ◌∙◌, ⊎_elim, arith}
use Rattle.std.proofs.lemmas.Bool.{true≢false, cases_lt}
use Rattle.std.proofs.lemmas.List.{at_drop_more, at_drop_all}
use Rattle.machine.specs.declared.words.Limits.{Limits}
use Rattle.machine.specs.Answer.{Answer, good, refused, ◌then◌, check}
use Rattle.machine.specs.Words.{legal, ends, ending, word, part, stops, FirstPlace}
use Rattle.machine.specs.Reading.{parts}
use Rattle.machine.specs.Views.{parts_cut}
use Rattle.machine.proofs.Parts.{part_none, part_more}

-- what stays the same from place to place
pub carried : {X : Type 0} (f : ℕ → X) (p n : ℕ) → ((k : ℕ) → p ≤ k → k < p + n → f k ≡ f (k + 1)) → f p ≡ f (p + n)
carried f p zero h = let z : p + 0 ≡ p = omega arith in rw z
carried f p (suc n) h =
    let s : p + n + 1 ≡ p + suc n = omega arith in
    carried f p n (λ k a b. h k a (omega arith)) ∙ (rw s at (h (p + n) (omega arith) (omega arith)))

pub carried_to : {X : Type 0} (f : ℕ → X) (p q : ℕ) → p ≤ q → ((k : ℕ) → p ≤ k → k < q → f k ≡ f (k + 1)) → f p ≡ f q
carried_to f p q le h = let s : p + (q - p) ≡ q = omega arith in rw s at (carried f p (q - p) (λ k a b. h k a (omega arith)))

on_false : (b c : Bool) → (not b || c) ≡ false → (b ≡ true) × (c ≡ false)
on_false true c e = (refl, e)
on_false false c e = absurd (true≢false e)

module _ (l : Limits) (ws : List ℕ) where
  goes_on : (k : ℕ) → k < length ws → stops l (word ws k) ≡ false → ending l k (drop k ws) ≡ ending l (k + 1) (drop (k + 1) ws)
  goes_on k h e =
      let p = on_false (legal l (word ws k)) (ends (word ws k)) e in
      at_drop_more (ending l k) ws k 0 h ∙ rw (p.0, p.1)

  stopped : (q : ℕ) (b c : Bool) → (not b || c) ≡ true → (x y : Answer ℕ) → (check b 2 0 q then λ _. cond c x y) ≡ (check b 2 0 q then λ _. x)
  stopped q true c e x y = rw e
  stopped q false c e x y = refl

  pub ending_found : (p q : ℕ) → FirstPlace (stops l) ws p (Some q) → ending l p (drop p ws) ≡ (check (legal l (word ws q)) 2 0 q then λ _. good q)
  ending_found p q (le, lt, is, before) =
      carried_to (λ k. ending l k (drop k ws)) p q le (λ k a b. goes_on k (omega arith) (before k a b))
      ∙ at_drop_more (ending l q) ws q 0 lt
      ∙ stopped q (legal l (word ws q)) (ends (word ws q)) is (good q) (ending l (q + 1) (drop (q + 1) ws))

  to_the_end : (p : ℕ) → p ≤ length ws → ((k : ℕ) → p ≤ k → k < length ws → stops l (word ws k) ≡ false) → ending l p (drop p ws) ≡ refused 3 0 (length ws)
  to_the_end p le h =
      let all : length ws ≤ length ws = omega arith in
      carried_to (λ k. ending l k (drop k ws)) p (length ws) le (λ k a b. goes_on k b (h k a b)) ∙ at_drop_all (ending l (length ws)) ws (length ws) all

  pub ending_none : (p : ℕ) → FirstPlace (stops l) ws p None → ending l p (drop p ws) ≡ refused 3 0 (max p (length ws))
  ending_none p h =
      ⊎_elim
      (λ lt. (let m : max p (length ws) ≡ p = omega arith in rw m (at_drop_all (ending l p) ws p (omega arith))))
      (λ le. (let m : max p (length ws) ≡ length ws = omega arith in rw m (to_the_end p le h)))
      (cases_lt (length ws) p)

module _ (ws : List ℕ) (p : ℕ) where
  reads_on : (k : ℕ) → p ≤ k → k < length ws → ends (word ws k) ≡ false → parts (part ws p k) (drop k ws) ≡ parts (part ws p (k + 1)) (drop (k + 1) ws)
  reads_on k a b e =
      let more = part_more ws p k a b in
      at_drop_more (parts (part ws p k)) ws k 0 b ∙ rw (e, more)

  from_here : (q : ℕ) → p ≤ q → q ≤ length ws → ((k : ℕ) → p ≤ k → k < q → ends (word ws k) ≡ false) → parts [] (drop p ws) ≡ parts (part ws p q) (drop q ws)
  from_here q le lt h = rw (part_none ws p) at (carried_to (λ k. parts (part ws p k) (drop k ws)) p q le (λ k a b. reads_on k a (omega arith) (h k a b)))

  pub parts_found : (r : Option ℕ) → FirstPlace ends ws p r → parts [] (drop p ws) ≡ parts_cut ws p r
  parts_found None h =
      ⊎_elim
      (λ lt. at_drop_all (parts []) ws p (omega arith))
      (λ le. from_here (length ws) le (omega arith) h ∙ at_drop_all (parts (part ws p (length ws))) ws (length ws) (omega arith))
      (cases_lt (length ws) p)
  parts_found (Some q) (le, lt, is, before) =
      from_here q le (omega arith) before ∙ at_drop_more (parts (part ws p q)) ws q 0 lt ∙ rw is
