-- Facts that become known, one by one.
use Rattle.std.proofs.Common.{◌≡◌, ℕ, ◌+◌, ◌-◌, ◌*◌, ◌<◌, ◌≤◌, List, [], ◌∷◌, ◌++◌, get_or, Some, None, Option, sym, refl, ap, ◌∙◌, subst, ap₂, append-nil, arith}
use Rattle.domain.specs.Ring.{Ops}
use Rattle.expression.specs.Run.{and_then}
use Rattle.forms.specs.Forms.{Form, symbol_form}
use Rattle.walk.specs.Lists.{KnownTests}
use Rattle.walk.specs.Settled.{Known}
use Rattle.walk.specs.Seen.{known_seen, known_at, at_hand, KeptBeforeKnown}
use Rattle.walk.specs.Taking.{KeptBelowTest}
use Rattle.walk.proofs.Learned.{known_frame}
use Rattle.proposal.specs.declared.cursor.FactAt.{FactAt}
use Rattle.proposal.specs.Cursors.{fact_of}
use Rattle.correspondence.specs.Judgement.{fact_form, fact_forms}
use Rattle.rules.specs.Seen.{noted_fact}
use Rattle.rules.specs.Expressions.{fact_cut, facts_at, ReadableFact, ReadableFacts}
use Rattle.rules.proofs.Filling.{one_less, none_left, joined, joined_one, none_before}

pub facts_more : (ws : List ℕ) (at i n : ℕ) → i < n → ReadableFacts ws (n - i) at → ReadableFact ws at × ReadableFacts ws (n - (i + 1)) ((fact_cut ws at).end + 1)
facts_more ws at i n h readable = subst (λ k. ReadableFacts ws k at) (one_less i n h) readable

-- the known tests stay in their slots
pub still_known : {D : Type 0} (known : KnownTests) (fs fs' : List (Form D)) → ((i : ℕ) → 96 ≤ i → i < 144 → get_or fs' i [] ≡ get_or fs i []) → known_seen known.items fs' 0 known.count ≡ known_seen known.items fs 0 known.count
still_known known fs fs' kept = known_frame known.items known.items fs fs' 0 known.count (λ j a b. ap₂ (λ p q. record { test = (known_at known.items fs j).test; left = p; right = q; says = (known_at known.items fs j).says }) (kept (96 + 2 * j) (omega arith) (omega (arith, known.few))) (kept (96 + 2 * j + 1) (omega arith) (omega (arith, known.few))))

-- what is left to do, behind what is done, is the whole
pub record Noting {D : Type 0} (o : Ops D) (ws : List ℕ) (n place : ℕ) (base : List (Form D)) (i at : ℕ) (known : KnownTests) (fs : List (Form D)) : Type 0 where
  pub values : joined (known_seen known.items fs 0 known.count) (fact_forms o (symbol_form o) (facts_at ws (n - i) at)) ≡ fact_forms o (symbol_form o) (facts_at ws n place)
  pub count : known.count ≡ i
  pub readable : ReadableFacts ws (n - i) at
  pub kept : KeptBeforeKnown base fs

module _ {D : Type 0} (o : Ops D) (ws : List ℕ) (n place : ℕ) (base : List (Form D)) where
  pub note_start : (known : KnownTests) → known.count ≡ 0 → ReadableFacts ws n place → Noting o ws n place base 0 place known base
  note_start known none readable =
      let z : n ≡ n - 0 = omega arith in
      record {
        values = ap (λ k. joined (known_seen known.items base 0 k) (fact_forms o (symbol_form o) (facts_at ws (n - 0) place))) none
            ∙ none_before _ ∙ ap (λ k. fact_forms o (symbol_form o) (facts_at ws k place)) (sym z);
        count = none;
        readable = subst (λ k. ReadableFacts ws k place) z readable;
        kept = λ i h. refl;
      }

  module _ (i at : ℕ) (known : KnownTests) (fs : List (Form D)) (inv : Noting o ws n place base i at known fs) (lt : i < n) where
    rest : Option (List (Known D))
    rest = fact_forms o (symbol_form o) (facts_at ws (n - (i + 1)) ((fact_cut ws at).end + 1))

    now_known : List (Known D)
    now_known = known_seen known.items fs 0 known.count

    whole : joined now_known (and_then (fact_form o (symbol_form o) (fact_of ws at (fact_cut ws at))) (λ k. and_then rest (λ ks. Some (k ∷ ks)))) ≡ fact_forms o (symbol_form o) (facts_at ws n place)
    unfolding rest now_known
    whole = ap (λ k. joined now_known (fact_forms o (symbol_form o) (facts_at ws k at))) (sym (one_less i n lt)) ∙ inv.values

    pub note_over : None ≡ fact_form o (symbol_form o) (fact_of ws at (fact_cut ws at)) → None ≡ fact_forms o (symbol_form o) (facts_at ws n place)
    note_over over = ap (λ m. joined now_known (and_then m (λ k. and_then rest (λ ks. Some (k ∷ ks))))) over ∙ whole

    pub note_more : (f : FactAt) (f₁ fs' : List (Form D)) (known' : KnownTests) → Some (at_hand f₁ (noted_fact (fact_cut ws at))) ≡ fact_form o (symbol_form o) (fact_of ws at (fact_cut ws at)) → f ≡ fact_cut ws at → KeptBelowTest fs f₁ → known_seen known'.items fs' 0 known'.count ≡ known_seen known.items f₁ 0 known.count ++ (at_hand f₁ (noted_fact f) ∷ []) → known'.count ≡ known.count + 1 → KeptBeforeKnown f₁ fs' → Noting o ws n place base (i + 1) (f.end + 1) known' fs'
    unfolding rest now_known
    note_more f f₁ fs' known' value is kept₁ learned count kept₂ =
        let k = at_hand f₁ (noted_fact (fact_cut ws at)) in
        let seen : known_seen known'.items fs' 0 known'.count ≡ now_known ++ (k ∷ []) =
        learned ∙ ap₂ (λ x y. x ++ (at_hand f₁ (noted_fact y) ∷ [])) (still_known known fs f₁ (λ j a b. kept₁ j (omega arith))) is in
        record {
          values =
              ap (λ x. joined (known_seen known'.items fs' 0 known'.count) (fact_forms o (symbol_form o) (facts_at ws (n - (i + 1)) (x.end + 1)))) is
              ∙ ap (λ x. joined x rest) seen
              ∙ joined_one now_known k rest
              ∙ ap (λ m. joined now_known (and_then m (λ v. and_then rest (λ vs. Some (v ∷ vs))))) value
              ∙ whole;
          count = count ∙ ap (λ m. m + 1) inv.count;
          readable = subst (λ x. ReadableFacts ws (n - (i + 1)) (x.end + 1)) (sym is) (facts_more ws at i n lt inv.readable).1;
          kept = λ j h. kept₂ j h ∙ kept₁ j (omega arith) ∙ inv.kept j h;
        }

  pub note_end : (i at : ℕ) (known : KnownTests) (fs : List (Form D)) → Noting o ws n place base i at known fs → n ≤ i → Some (known_seen known.items fs 0 known.count) ≡ fact_forms o (symbol_form o) (facts_at ws n place)
  note_end i at known fs inv h =
      let all = known_seen known.items fs 0 known.count in
      ap Some (sym (append-nil all)) ∙ ap (λ k. joined all (fact_forms o (symbol_form o) (facts_at ws k at))) (sym (none_left i n h)) ∙ inv.values
