-- The two sides of a fact, worked out one behind the other.
use Rattle.std.proofs.Common.{◌≡◌, ℕ, ◌≢◌, List, [], get_or, Some, None, Option, sym, refl, ap, ◌∙◌, arith}
use Rattle.domain.specs.Ring.{Ops}
use Rattle.expression.specs.Run.{and_then}
use Rattle.forms.specs.Forms.{Form}
use Rattle.workspace.specs.declared.leaves.Symbols.{Symbols}
use Rattle.workspace.specs.declared.leaves.Symbols.TheVariants.{Own, Kept}
use Rattle.walk.specs.Walk.{nth}
use Rattle.walk.specs.Seen.{at_hand, KeptBut, KeptNamed}
use Rattle.walk.specs.Taking.{KeptBelowTest}
use Rattle.walk.proofs.Waiting.{kept_frame}
use Rattle.proposal.specs.declared.cursor.FactAt.{FactAt}
use Rattle.proposal.specs.Cursors.{fact_of}
use Rattle.correspondence.specs.Judgement.{form_in_proposal, fact_form}
use Rattle.rules.specs.Seen.{symbols_seen, noted_fact}

-- what symbols stand for stays in its slots
pub symbols_frame : {D : Type 0} (o : Ops D) (s : Symbols) (fs fs' : List (Form D)) → KeptNamed fs fs' → symbols_seen o s fs' ≡ symbols_seen o s fs
symbols_frame o Own fs fs' kept = refl
symbols_frame o (Kept g) fs fs' kept = ap nth (kept_frame fs fs' g.first g.count (λ j from to. kept j (omega (arith, g.below))))

module _ {D : Type 0} (o : Ops D) (s : Symbols) (ws : List ℕ) (p : ℕ) (f cut : FactAt) (is : f ≡ cut) (fs f₁ : List (Form D)) (kept₁ : KeptBut 152 fs f₁) (left : Some (get_or f₁ 152 []) ≡ form_in_proposal o (symbols_seen o s fs) (fact_of ws p f).left) where
  same : symbols_seen o s f₁ ≡ symbols_seen o s fs
  same = symbols_frame o s fs f₁ (λ i h. kept₁ i (omega arith) (omega arith))

  with_left : {X : Type 0} (k : Form D → Option X) → k (get_or f₁ 152 []) ≡ and_then (form_in_proposal o (symbols_seen o s fs) (fact_of ws p f).left) k
  with_left k = ap (λ m. and_then m k) left

  pub second_over : None ≡ form_in_proposal o (symbols_seen o s f₁) (fact_of ws p f).right → None ≡ fact_form o (symbols_seen o s fs) (fact_of ws p cut)
  second_over right =
      ap (λ m. and_then m (λ r. Some (record { test = f.test; left = get_or f₁ 152 []; right = r; says = f.says }))) (right ∙ ap (λ k. form_in_proposal o k (fact_of ws p f).right) same)
      ∙ with_left (λ l. and_then (form_in_proposal o (symbols_seen o s fs) (fact_of ws p f).right) (λ r. Some (record { test = f.test; left = l; right = r; says = f.says })))
      ∙ ap (λ x. fact_form o (symbols_seen o s fs) (fact_of ws p x)) is

  module _ (f₂ : List (Form D)) (kept₂ : KeptBut 153 f₁ f₂) where
    pub both : Some (get_or f₂ 153 []) ≡ form_in_proposal o (symbols_seen o s f₁) (fact_of ws p f).right → Some (at_hand f₂ (noted_fact cut)) ≡ fact_form o (symbols_seen o s fs) (fact_of ws p cut)
    both right =
        let ne : ◌≢◌ {A = ℕ} 152 153 = omega arith in
        ap (λ x. Some (at_hand f₂ (noted_fact x))) (sym is)
        ∙ ap (λ l. Some (record { test = f.test; left = l; right = get_or f₂ 153 []; says = f.says })) (kept₂ 152 (omega arith) ne)
        ∙ ap (λ m. and_then m (λ r. Some (record { test = f.test; left = get_or f₁ 152 []; right = r; says = f.says }))) (right ∙ ap (λ k. form_in_proposal o k (fact_of ws p f).right) same)
        ∙ with_left (λ l. and_then (form_in_proposal o (symbols_seen o s fs) (fact_of ws p f).right) (λ r. Some (record { test = f.test; left = l; right = r; says = f.says })))
        ∙ ap (λ x. fact_form o (symbols_seen o s fs) (fact_of ws p x)) is

    pub both_kept : KeptBelowTest fs f₂
    both_kept i h = kept₂ i (omega arith) (omega arith) ∙ kept₁ i (omega arith) (omega arith)
