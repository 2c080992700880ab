-- One more expression of a row of them.
use Rattle.std.proofs.Common.{◌≡◌, ℕ, suc, ◌+◌, ◌-◌, ◌^◌, ◌<◌, List, [], ◌∷◌, refl, ap, ◌∙◌, add-one, arith}
use lib.Count.{count_trailing_zeros}
use Rattle.machine.specs.declared.words.Limits.{Limits}
use Rattle.machine.specs.Answer.{good, ◌then◌}
use Rattle.proposal.specs.Reading.{stored, all_stored, count_from, bits, due}
use Rattle.proposal.specs.Places.{behind}
use Rattle.proposal.proofs.Chain.{behind_both}
use Rattle.proposal.proofs.Walk.{cleared, due_lowest, due_none}

module _ (n : ℕ) (l : Limits) (ws : List ℕ) where
  pub stored_more : (r : ℕ) (due : List ℕ) (p : ℕ) → behind (all_stored n l (r ∷ due) ws p) ≡ (behind (stored n l r ws p) then λ q. behind (all_stored n l due ws q))
  unfolding all_stored
  stored_more r due p = behind_both (stored n l r ws p) (λ q. all_stored n l due ws q) (λ x y. x.value ∷ y.value)

  pub stored_end : (p : ℕ) → behind (all_stored n l [] ws p) ≡ good p
  unfolding all_stored
  stored_end p = refl

  pub counted_more : (i m p : ℕ) → i < m → behind (all_stored n l (count_from i (m - i)) ws p) ≡ (behind (stored n l i ws p) then λ q. behind (all_stored n l (count_from (i + 1) (m - (i + 1))) ws q))
  counted_more i m p h =
      let one : m - i ≡ suc (m - (i + 1)) = omega arith in
      rw (one, add-one) (stored_more i (count_from (suc i) (m - suc i)) p)

  pub counted_end : (m p : ℕ) → behind (all_stored n l (count_from m (m - m)) ws p) ≡ good p
  counted_end m p = let z : m - m ≡ 0 = omega arith in rw z (stored_end p)

  -- the lowest one of what is left of a mask
  pub masked_more : (m w p : ℕ) → 0 < w → w < 2 ^ 32 → w < 2 ^ m → behind (all_stored n l (due (bits m w) 0) ws p) ≡ (behind (stored n l (count_trailing_zeros 32 w) ws p) then λ q. behind (all_stored n l (due (bits m (cleared w)) 0) ws q))
  masked_more m w p h k b =
      let at : 0 + count_trailing_zeros 32 w ≡ count_trailing_zeros 32 w = omega arith in
      let e = due_lowest m 32 w 0 h b k in
      ap (λ x. behind (all_stored n l x ws p)) (e ∙ ap (λ x. x ∷ due (bits m (cleared w)) 0) at) ∙ stored_more (count_trailing_zeros 32 w) (due (bits m (cleared w)) 0) p

  pub masked_end : (m w p : ℕ) → w ≡ 0 → behind (all_stored n l (due (bits m w) 0) ws p) ≡ good p
  masked_end m w p e = ap (λ x. behind (all_stored n l (due (bits m x) 0) ws p)) e ∙ ap (λ x. behind (all_stored n l x ws p)) (due_none m 0) ∙ stored_end p
