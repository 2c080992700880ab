-- The turns of a path, written one by one.
use Rattle.std.proofs.Common.{◌≡◌, ℕ, suc, ◌+◌, ◌-◌, ◌/◌, ◌%◌, ◌<◌, ◌≤◌, Bool, not, eqb, List, [], ◌∷◌, ◌++◌, map, length, take, set, sym, ap, ◌∙◌, append_assoc, arith, length-set}
use Rattle.std.proofs.lemmas.List.{append-nil, take_more_set}
use Rattle.proposal.specs.Reading.{bits}

-- the turns written so far, and those that are left
pub Spelt : (n w i left : ℕ) (turns : List Bool) → Type 0
Spelt n w i left turns = (take i turns ++ map not (bits (n - i) left) ≡ map not (bits n w)) × (length turns ≡ 16)

module _ (n w : ℕ) where
  pub spelt_none : (turns : List Bool) → length turns ≡ 16 → Spelt n w 0 w turns
  unfolding Spelt
  spelt_none turns l = let e : n - 0 ≡ n = omega arith in (ap (λ k. map not (bits k w)) e, l)

  pub spelt_more : (i left : ℕ) (turns : List Bool) (turn : Bool) → i < n → n ≤ 16 → turn ≡ not (eqb (left % 2) 1) → Spelt n w i left turns → Spelt n w (i + 1) (left / 2) (set turns i turn)
  unfolding Spelt
  spelt_more i left turns turn lt few is inv =
      let l = inv.1 in
      let e : n - i ≡ suc (n - (i + 1)) = omega arith in
      let rest = map not (bits (n - (i + 1)) (left / 2)) in
      let this : map not (bits (n - i) left) ≡ turn ∷ rest = ap (λ k. map not (bits k left)) e ∙ ap (λ b. b ∷ rest) (sym is) in (
        ap (λ x. x ++ rest) (take_more_set turns i turn (omega arith)) ∙ append_assoc (take i turns) (turn ∷ []) rest
            ∙ ap (λ x. take i turns ++ x) (sym this) ∙ inv.0,
        length-set turns i turn ∙ l,
      )

  pub spelt_all : (i left : ℕ) (turns : List Bool) → i ≡ n → Spelt n w i left turns → take n turns ≡ map not (bits n w)
  unfolding Spelt
  spelt_all i left turns is inv =
      let e : n - i ≡ 0 = omega arith in
      ap (λ k. take k turns) (sym is) ∙ sym (append-nil (take i turns)) ∙ ap (λ k. take i turns ++ map not (bits k left)) (sym e) ∙ inv.0
