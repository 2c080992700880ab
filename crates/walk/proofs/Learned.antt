-- A test that becomes known, behind the others.
use Rattle.std.proofs.Common.{◌≡◌, ℕ, zero, suc, ◌+◌, ◌*◌, ◌<◌, ◌≤◌, false, ◌≢◌, List, [], ◌∷◌, ◌++◌, length, get_or, set, refl, ap, ◌∙◌, ap₂, arith}
use Rattle.std.proofs.lemmas.List.{get_or-set_same, get_or-set_other}
use Rattle.expression.specs.declared.test.Test.TheVariants.{Same}
use Rattle.forms.specs.Forms.{Form}
use Rattle.walk.specs.declared.known.Noted.{Noted}
use Rattle.walk.specs.Seen.{noted_at, known_at, known_seen, at_hand, KeptBeforeKnown}

module _ {D : Type 0} where
  known_more : (noted : List Noted) (fs : List (Form D)) (j n : ℕ) → known_seen noted fs j (suc n) ≡ known_seen noted fs j n ++ (known_at noted fs (j + n) ∷ [])
  known_more noted fs j zero = ap (λ k. known_at noted fs k ∷ []) (omega arith)
  known_more noted fs j (suc n) = ap (λ x. known_at noted fs j ∷ x) (known_more noted fs (suc j) n ∙ ap (λ k. known_seen noted fs (suc j) n ++ (known_at noted fs k ∷ [])) (omega arith))

  pub known_frame : (noted noted' : List Noted) (fs fs' : List (Form D)) (j n : ℕ) → ((i : ℕ) → j ≤ i → i < j + n → known_at noted' fs' i ≡ known_at noted fs i) → known_seen noted' fs' j n ≡ known_seen noted fs j n
  known_frame noted noted' fs fs' j zero h = refl
  known_frame noted noted' fs fs' j (suc n) h = ap₂ ◌∷◌ (h j (omega arith) (omega arith)) (known_frame noted noted' fs fs' (suc j) n (λ i a b. h i (omega arith) (omega arith)))

  -- where their slots are as before, so are the known tests
  pub known_kept : (noted : List Noted) (fs fs' : List (Form D)) (n : ℕ) → n ≤ 24 → ((i : ℕ) → 96 ≤ i → i < 144 → get_or fs' i [] ≡ get_or fs i []) → known_seen noted fs' 0 n ≡ known_seen noted fs 0 n
  known_kept noted fs fs' n few kept =
      known_frame noted noted fs fs' 0 n (λ j a b. ap₂ (λ p q. record { test = (noted_at noted j).test; left = p; right = q; says = (noted_at noted j).says }) (kept (96 + 2 * j) (omega arith) (omega arith)) (kept (96 + 2 * j + 1) (omega arith) (omega arith)))

  -- the sides are copied behind those of n tests
  module _ (noted : List Noted) (fs f₁ f₂ : List (Form D)) (n : ℕ) (test : Noted) (long : length noted ≡ 24) (wide : length fs ≡ 162) (wide₁ : length f₁ ≡ 162) (lt : n < 24) (e₁ : f₁ ≡ set fs (96 + 2 * n) (get_or fs 152 [])) (e₂ : f₂ ≡ set f₁ (96 + 2 * n + 1) (get_or f₁ 153 [])) where
    elsewhere : (i : ℕ) → i ≢ 96 + 2 * n → i ≢ 96 + 2 * n + 1 → get_or f₂ i [] ≡ get_or fs i []
    elsewhere i a b =
        ap (λ f. get_or f i []) e₂ ∙ get_or-set_other f₁ (96 + 2 * n + 1) i (get_or f₁ 153 []) [] b
        ∙ ap (λ f. get_or f i []) e₁ ∙ get_or-set_other fs (96 + 2 * n) i (get_or fs 152 []) [] a

    left_copied : get_or f₂ (96 + 2 * n) [] ≡ get_or fs 152 []
    left_copied =
        ap (λ f. get_or f (96 + 2 * n) []) e₂ ∙ get_or-set_other f₁ (96 + 2 * n + 1) (96 + 2 * n) (get_or f₁ 153 []) [] (omega arith)
        ∙ ap (λ f. get_or f (96 + 2 * n) []) e₁ ∙ get_or-set_same fs (96 + 2 * n) (get_or fs 152 []) [] (omega arith)

    right_copied : get_or f₂ (96 + 2 * n + 1) [] ≡ get_or fs 153 []
    right_copied =
        ap (λ f. get_or f (96 + 2 * n + 1) []) e₂ ∙ get_or-set_same f₁ (96 + 2 * n + 1) (get_or f₁ 153 []) [] (omega arith)
        ∙ ap (λ f. get_or f 153 []) e₁ ∙ get_or-set_other fs (96 + 2 * n) 153 (get_or fs 152 []) [] (omega arith)

    pub learned_kept : KeptBeforeKnown fs f₂
    learned_kept i h = elsewhere i (omega arith) (omega arith)

    pub learned : known_seen (set noted n test) f₂ 0 (n + 1) ≡ known_seen noted fs 0 n ++ (at_hand fs test ∷ [])
    learned =
        let more : n + 1 ≡ suc n = omega arith in
        let d : Noted = record { test = Same; says = false } in
        let one = get_or-set_same noted n test d (omega arith) in
        let old : (i : ℕ) → 0 ≤ i → i < 0 + n → known_at (set noted n test) f₂ i ≡ known_at noted fs i = λ i a b.
        ap (λ m. record { test = m.test; left = get_or f₂ (96 + 2 * i) []; right = get_or f₂ (96 + 2 * i + 1) []; says = m.says }) (get_or-set_other noted n i test d (omega arith))
        ∙ ap₂ (λ p q. record { test = (noted_at noted i).test; left = p; right = q; says = (noted_at noted i).says }) (elsewhere (96 + 2 * i) (omega arith) (omega arith)) (elsewhere (96 + 2 * i + 1) (omega arith) (omega arith)) in
        let new : known_at (set noted n test) f₂ (0 + n) ≡ at_hand fs test =
        ap (λ k. known_at (set noted n test) f₂ k) (omega arith)
        ∙ ap (λ m. record { test = m.test; left = get_or f₂ (96 + 2 * n) []; right = get_or f₂ (96 + 2 * n + 1) []; says = m.says }) one
        ∙ ap₂ (λ p q. record { test = test.test; left = p; right = q; says = test.says }) left_copied right_copied in
        ap (known_seen (set noted n test) f₂ 0) more ∙ known_more (set noted n test) f₂ 0 n
        ∙ ap₂ (λ x y. x ++ (y ∷ [])) (known_frame noted (set noted n test) fs f₂ 0 n old) new
