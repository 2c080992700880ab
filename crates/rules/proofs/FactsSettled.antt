-- Facts of the end pair, asked one by one whether they are settled.
use Rattle.std.proofs.Common.{◌≡◌, ℕ, suc, ◌+◌, ◌-◌, ◌<◌, ◌≤◌, Bool, true, false, List, [], ◌∷◌, Some, None, Option, sym, refl, ap, ◌∙◌, subst, ap₂, add-one, arith}
use Rattle.domain.specs.Ring.{Ops}
use Rattle.forms.specs.Forms.{Form}
use Rattle.machine.specs.Answer.{Answer, good, refused, ◌then◌, check}
use Rattle.workspace.specs.declared.group.Group.{Group}
use Rattle.workspace.specs.declared.leaves.Symbols.TheVariants.{Kept}
use Rattle.walk.specs.Lists.{KnownTests}
use Rattle.walk.specs.Settled.{Known, settled}
use Rattle.walk.specs.Walk.{nth, fits}
use Rattle.walk.specs.Seen.{kept_seen, known_seen, at_hand}
use Rattle.walk.specs.Taking.{KeptBelowTest}
use Rattle.proposal.specs.declared.cursor.FactAt.{FactAt}
use Rattle.proposal.specs.Proposal.{Fact}
use Rattle.proposal.specs.Cursors.{fact_of}
use Rattle.correspondence.specs.Judgement.{fact_form, facts_settled}
use Rattle.rules.specs.Seen.{symbols_seen, noted_fact}
use Rattle.rules.specs.Expressions.{fact_cut, facts_at, ReadableFacts}
use Rattle.rules.proofs.Filling.{one_less, none_left}
use Rattle.rules.proofs.FactSides.{symbols_frame}
use Rattle.rules.proofs.FactsKnown.{facts_more, still_known}

module _ {D : Type 0} (o : Ops D) (known : List (Known D)) (c : ℕ → Option (Form D)) where
  settled_none : (i : ℕ) → facts_settled o known c i [] ≡ good tt
  unfolding facts_settled
  settled_none i = refl

  settled_more : (i : ℕ) (f : Fact) (fs : List Fact) → facts_settled o known c i (f ∷ fs) ≡ (fits (fact_form o c f) then λ k. check (settled o known k) 18 0 i then λ _. facts_settled o known c (suc i) fs)
  unfolding facts_settled
  settled_more i f fs = refl

-- what is left to ask says what the whole says
pub record Asking {D : Type 0} (o : Ops D) (symbols : Group) (ws : List ℕ) (n place : ℕ) (known : KnownTests) (base : List (Form D)) (i at : ℕ) (fs : List (Form D)) : Type 0 where
  pub settles : facts_settled o (known_seen known.items base 0 known.count) (nth (kept_seen base symbols.first symbols.count)) i (facts_at ws (n - i) at) ≡ facts_settled o (known_seen known.items base 0 known.count) (nth (kept_seen base symbols.first symbols.count)) 0 (facts_at ws n place)
  pub readable : ReadableFacts ws (n - i) at
  pub kept : KeptBelowTest base fs

module _ {D : Type 0} (o : Ops D) (symbols : Group) (ws : List ℕ) (n place : ℕ) (known : KnownTests) (base : List (Form D)) where
  c₀ : ℕ → Option (Form D)
  c₀ = nth (kept_seen base symbols.first symbols.count)

  known₀ : List (Known D)
  known₀ = known_seen known.items base 0 known.count

  pub ask_start : ReadableFacts ws n place → Asking o symbols ws n place known base 0 place base
  ask_start readable =
      let z : n ≡ n - 0 = omega arith in
      record {
        settles = ap (λ k. facts_settled o (known_seen known.items base 0 known.count) (nth (kept_seen base symbols.first symbols.count)) 0 (facts_at ws k place)) (sym z);
        readable = subst (λ k. ReadableFacts ws k place) z readable;
        kept = λ i h. refl;
      }

  module _ (i at : ℕ) (fs : List (Form D)) (inv : Asking o symbols ws n place known base i at fs) (lt : i < n) where
    rest : Answer (Unit {0})
    rest = facts_settled o known₀ c₀ (i + 1) (facts_at ws (n - (i + 1)) ((fact_cut ws at).end + 1))

    at_fact : (fits (fact_form o (symbols_seen o (Kept symbols) fs) (fact_of ws at (fact_cut ws at))) then λ k. check (settled o known₀ k) 18 0 i then λ _. rest) ≡ facts_settled o known₀ c₀ 0 (facts_at ws n place)
    unfolding c₀ known₀ rest
    at_fact =
        ap₂ (λ s k. fits (fact_form o s (fact_of ws at (fact_cut ws at))) then λ f. check (settled o known₀ f) 18 0 i then λ _. facts_settled o known₀ c₀ k (facts_at ws (n - (i + 1)) ((fact_cut ws at).end + 1))) (symbols_frame o (Kept symbols) base fs (λ j h. inv.kept j (omega arith))) (add-one i)
        ∙ sym (settled_more o known₀ c₀ i (fact_of ws at (fact_cut ws at)) (facts_at ws (n - (i + 1)) ((fact_cut ws at).end + 1)))
        ∙ ap (λ k. facts_settled o known₀ c₀ i (facts_at ws k at)) (sym (one_less i n lt))
        ∙ inv.settles

    pub ask_over : None ≡ fact_form o (symbols_seen o (Kept symbols) fs) (fact_of ws at (fact_cut ws at)) → refused 11 0 0 ≡ facts_settled o (known_seen known.items base 0 known.count) (nth (kept_seen base symbols.first symbols.count)) 0 (facts_at ws n place)
    unfolding c₀ known₀
    ask_over over = ap (λ m. fits m then λ k. check (settled o known₀ k) 18 0 i then λ _. rest) over ∙ at_fact

    module _ (f : FactAt) (is : f ≡ fact_cut ws at) (fs' : List (Form D)) (value : Some (at_hand fs' (noted_fact (fact_cut ws at))) ≡ fact_form o (symbols_seen o (Kept symbols) fs) (fact_of ws at (fact_cut ws at))) (kept : KeptBelowTest fs fs') (b : Bool) (asked : b ≡ settled o (known_seen known.items fs' 0 known.count) (at_hand fs' (noted_fact f))) where
      answered : (check b 18 0 i then λ _. rest) ≡ facts_settled o known₀ c₀ 0 (facts_at ws n place)
      unfolding known₀
      answered =
          ap (λ x. check x 18 0 i then λ _. rest) (asked ∙ ap₂ (λ k y. settled o k (at_hand fs' (noted_fact y))) (still_known known base fs' (λ j a h. kept j (omega arith) ∙ inv.kept j (omega arith))) is)
          ∙ ap (λ m. fits m then λ k. check (settled o known₀ k) 18 0 i then λ _. rest) value
          ∙ at_fact

      pub ask_unsettled : b ≡ false → refused 18 0 i ≡ facts_settled o (known_seen known.items base 0 known.count) (nth (kept_seen base symbols.first symbols.count)) 0 (facts_at ws n place)
      unfolding c₀ known₀
      ask_unsettled e = ap (λ x. check x 18 0 i then λ _. rest) (sym e) ∙ answered

      pub ask_more : b ≡ true → Asking o symbols ws n place known base (i + 1) (f.end + 1) fs'
      unfolding c₀ known₀ rest
      ask_more e = record {
        settles = ap (λ x. facts_settled o known₀ c₀ (i + 1) (facts_at ws (n - (i + 1)) (x.end + 1))) is ∙ ap (λ x. check x 18 0 i then λ _. rest) (sym e) ∙ answered;
        readable = subst (λ x. ReadableFacts ws (n - (i + 1)) (x.end + 1)) (sym is) (facts_more ws at i n lt inv.readable).1;
        kept = λ j h. kept j h ∙ inv.kept j h;
      }

  pub ask_end : (i at : ℕ) (fs : List (Form D)) → Asking o symbols ws n place known base i at fs → n ≤ i → good tt ≡ facts_settled o (known_seen known.items base 0 known.count) (nth (kept_seen base symbols.first symbols.count)) 0 (facts_at ws n place)
  unfolding c₀ known₀
  ask_end i at fs inv h = sym (settled_none o known₀ c₀ i) ∙ ap (λ k. facts_settled o known₀ c₀ i (facts_at ws k at)) (sym (none_left i n h)) ∙ inv.settles
