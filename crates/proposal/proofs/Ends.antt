-- The first word that ends something, and the place that the definition tells.
use Rattle.std.proofs.Common.{◌≡◌, ℕ, ◌+◌, ◌<◌, ◌≤◌, false, List, length, drop, max, Some, None, Option, unwrap_or, sym, ◌∙◌, ⊎_elim, arith}
use Rattle.std.proofs.lemmas.Bool.{cases_lt}
use Rattle.std.proofs.lemmas.List.{at_drop_more, at_drop_all}
use Rattle.machine.specs.Words.{ends, word, FirstEnd}
use Rattle.machine.proofs.Places.{carried_to}
use Rattle.proposal.specs.Cursors.{next_end}

module _ (ws : List ℕ) (p : ℕ) where
  goes_on : (k : ℕ) → k < length ws → ends (word ws k) ≡ false → next_end k (drop k ws) ≡ next_end (k + 1) (drop (k + 1) ws)
  goes_on k h e = at_drop_more (next_end k) ws k 0 h ∙ rw e

  from_here : (q : ℕ) → p ≤ q → q ≤ length ws → ((k : ℕ) → p ≤ k → k < q → ends (word ws k) ≡ false) → next_end p (drop p ws) ≡ next_end q (drop q ws)
  from_here q le lt h = carried_to (λ k. next_end k (drop k ws)) p q le (λ k a b. goes_on k (omega arith) (h k a b))

  to_the_end : p ≤ length ws → ((k : ℕ) → p ≤ k → k < length ws → ends (word ws k) ≡ false) → next_end p (drop p ws) ≡ length ws
  to_the_end le h =
      let all : length ws ≤ length ws = omega arith in
      from_here (length ws) le all h ∙ at_drop_all (next_end (length ws)) ws (length ws) all

  pub end_is : (r : Option ℕ) → FirstEnd ws p r → unwrap_or r (max p (length ws)) ≡ next_end p (drop p ws)
  end_is None h =
      ⊎_elim
      (λ lt. (let m : max p (length ws) ≡ p = omega arith in rw m (sym (at_drop_all (next_end p) ws p (omega arith)))))
      (λ le. (let m : max p (length ws) ≡ length ws = omega arith in rw m (sym (to_the_end le h))))
      (cases_lt (length ws) p)
  end_is (Some q) (le, lt, is, before) = sym (from_here q le (omega arith) before ∙ at_drop_more (next_end q) ws q 0 lt ∙ rw is)
