-- The two sides of a test, worked out one behind the other.
use Rattle.std.proofs.Common.{◌≡◌, ℕ, Bool, ◌≢◌, List, [], ◌∷◌, get_or, Some, None, ap, ◌∙◌, arith}
use Rattle.domain.specs.Ring.{Ops}
use Rattle.expression.specs.declared.item.Item.{Item}
use Rattle.expression.specs.declared.test.Test.{Test}
use Rattle.expression.specs.Run.{and_then}
use Rattle.forms.specs.Forms.{Form}
use Rattle.machine.specs.Machine.{Transition, branch}
use Rattle.workspace.specs.declared.group.Group.{Group}
use Rattle.walk.specs.Walk.{form_in_table, tested}
use Rattle.walk.specs.Seen.{kept_seen, at_hand, KeptBut}
use Rattle.walk.specs.Taking.{KeptBelowTest}
use Rattle.walk.proofs.Waiting.{kept_frame}

module _ {D : Type 0} (o : Ops D) (g : Group) (test : Test) (l r : List Item) (y n : Transition) (turn : Bool) (fs f₁ : List (Form D)) (kept₁ : KeptBut 152 fs f₁) (left : Some (get_or f₁ 152 []) ≡ form_in_table o (kept_seen fs g.first g.count) l) where
  same : kept_seen f₁ g.first g.count ≡ kept_seen fs g.first g.count
  same = kept_frame fs f₁ g.first g.count (λ j a b. kept₁ j (omega (arith, g.below)) (omega (arith, g.below)))

  pub second_over : None ≡ form_in_table o (kept_seen f₁ g.first g.count) r → None ≡ tested o (branch test l r y n) turn (kept_seen fs g.first g.count)
  second_over right =
      ap (λ m. and_then m (λ q. Some (record { test = test; left = get_or f₁ 152 []; right = q; says = turn } ∷ []))) (right ∙ ap (λ k. form_in_table o k r) same)
      ∙ ap (λ m. and_then m (λ p. and_then (form_in_table o (kept_seen fs g.first g.count) r) (λ q. Some (record { test = test; left = p; right = q; says = turn } ∷ [])))) left

  module _ (f₂ : List (Form D)) (kept₂ : KeptBut 153 f₁ f₂) where
    pub both : Some (get_or f₂ 153 []) ≡ form_in_table o (kept_seen f₁ g.first g.count) r → Some (at_hand f₂ (record { test = test; says = turn }) ∷ []) ≡ tested o (branch test l r y n) turn (kept_seen fs g.first g.count)
    both right =
        let ne : ◌≢◌ {A = ℕ} 152 153 = omega arith in
        ap (λ p. Some (record { test = test; left = p; right = get_or f₂ 153 []; says = turn } ∷ [])) (kept₂ 152 (omega arith) ne)
        ∙ ap (λ m. and_then m (λ q. Some (record { test = test; left = get_or f₁ 152 []; right = q; says = turn } ∷ []))) (right ∙ ap (λ k. form_in_table o k r) same)
        ∙ ap (λ m. and_then m (λ p. and_then (form_in_table o (kept_seen fs g.first g.count) r) (λ q. Some (record { test = test; left = p; right = q; says = turn } ∷ [])))) left

    pub both_kept : KeptBelowTest fs f₂
    both_kept i h = kept₂ i (omega arith) (omega arith) ∙ kept₁ i (omega arith) (omega arith)
