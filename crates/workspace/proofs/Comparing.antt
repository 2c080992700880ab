-- Two forms in the slots of a test.
use Rattle.std.proofs.Common.{◌≡◌, ℕ, ◌+◌, ◌≤◌, Bool, true, false, ltb, ◌≢◌, List, [], length, get_or, take, set, Some, None, Ok, Err, Option, Result, sym, refl, ap, ◌∙◌, arith, length-take}
use Rattle.std.proofs.lemmas.List.{get_or-set_same, get_or-set_other, get_or-take, take-take, take-set-le}
use Rattle.std.proofs.lemmas.Bool.{cond-false, le-ltb, true≢false}
use Rattle.domain.specs.Ring.{Ops, Laws}
use Rattle.expression.specs.Run.{meaning}
use Rattle.expression.specs.declared.item.Item.{Item}
use Rattle.workspace.specs.declared.leaves.Leaves.{Leaves}
use Rattle.forms.specs.Forms.{Form, symbol_form, same_form}
use Rattle.forms.specs.Limited.{limited}
use Rattle.forms.proofs.Comparing.{same_form_eq, eq_same_form}
use Rattle.forms.proofs.OneForm as OneForm
use Rattle.workspace.specs.Evaluation.{reading}
use Rattle.workspace.specs.Comparison.{answered, compared, own_leaves, one_form, Judged}

module _ {D : Type 0} (o : Ops D) where
  pub compared_first : (m n : Option (Form D)) → m ≡ None → compared o m n ≡ None
  compared_first m n e = rw e

  pub compared_second : (m n : Option (Form D)) → n ≡ None → compared o m n ≡ None
  compared_second None n e = refl
  compared_second (Some p) n e = rw e

  pub compared_both : (m n : Option (Form D)) (p q : Form D) → m ≡ Some p → n ≡ Some q → compared o m n ≡ Some (same_form o p q)
  compared_both m n p q e f = rw (e, f)

  -- with no registers, the slots are not read
  pub own_reading : (fs : List (Form D)) → reading o own_leaves fs ≡ limited o (λ n. None) (symbol_form o)
  own_reading fs = λ i. limited o (λ n. cond-false (ltb n 0) (Some (get_or fs (0 + n) [])) None (le-ltb n 0 (omega arith)) i) (symbol_form o)

  pub own_compared : (l : Leaves) (fs : List (Form D)) (e e' : List Item) → l ≡ own_leaves → compared o (meaning (reading o l fs) e) (meaning (reading o l fs) e') ≡ one_form o e e'
  own_compared l fs e e' q = ap (λ m. compared o (meaning (reading o m fs) e) (meaning (reading o m fs) e')) q ∙ ap (λ a. compared o (meaning a e) (meaning a e')) (own_reading fs)

abbrev own_form : {D : Type 0} → Ops D → List Item → Option (Form D)
own_form o i = meaning (limited o (λ n. None) (symbol_form o)) i

-- the answer is about the polynomials
module _ {D E : Type 0} {o : Ops D} (laws : Laws o) (e e' : List Item) where
  judged_by : (r : Result Bool E) (m n : Option (Form D)) → own_form o e ≡ m → own_form o e' ≡ n → answered r ≡ compared o m n → Judged o r e e'
  judged_by (Err x) m n h k a = tt
  judged_by (Ok b) None n h k a = let z : ◌≡◌ {A = ℕ} 0 1 = cc in absurd (omega arith)
  judged_by (Ok b) (Some p) None h k a = let z : ◌≡◌ {A = ℕ} 0 1 = cc in absurd (omega arith)
  judged_by (Ok true) (Some p) (Some q) h k a = let t : same_form o p q ≡ true = cc in (OneForm.one_form laws e e' p q h k).0 (same_form_eq laws p q t)
  judged_by (Ok false) (Some p) (Some q) h k a =
      let t : same_form o p q ≡ false = cc in
      λ same. true≢false (sym (eq_same_form laws p) ∙ ap (same_form o p) ((OneForm.one_form laws e e' p q h k).1 same) ∙ t)

  pub judged : (r : Result Bool E) → answered r ≡ one_form o e e' → Judged o r e e'
  judged r a = judged_by r (own_form o e) (own_form o e') refl refl a

module _ {A : Type 0} where
  pub first_kept : (n : ℕ) (fs fs' : List A) (k : ℕ) (v : A) → n ≤ k → n ≤ 154 → take 154 fs' ≡ set (take 154 fs) k v → take n fs' ≡ take n fs
  first_kept n fs fs' k v h l e = sym (take-take n 154 fs' l) ∙ ap (take n) e ∙ take-set-le n (take 154 fs) k v h ∙ take-take n 154 fs l

  pub left_of : (d : A) (f0 f1 f2 : List A) (p q : A) → length f0 ≡ 162 → take 154 f1 ≡ set (take 154 f0) 152 p → take 154 f2 ≡ set (take 154 f1) 153 q → get_or f2 152 d ≡ p
  left_of d f0 f1 f2 p q n e f =
      let l : length (take 154 f0) ≡ 154 = simp length-take (omega arith) in
      let ne : ◌≢◌ {A = ℕ} 152 153 = omega arith in
      sym (get_or-take 154 f2 152 d (omega arith)) ∙ ap (λ s. get_or s 152 d) f ∙ get_or-set_other (take 154 f1) 153 152 q d ne ∙ ap (λ s. get_or s 152 d) e ∙ get_or-set_same (take 154 f0) 152 p d (omega arith)

  pub right_of : (d : A) (f1 f2 : List A) (q : A) → length f1 ≡ 162 → take 154 f2 ≡ set (take 154 f1) 153 q → get_or f2 153 d ≡ q
  right_of d f1 f2 q n f =
      let l : length (take 154 f1) ≡ 154 = simp length-take (omega arith) in
      sym (get_or-take 154 f2 153 d (omega arith)) ∙ ap (λ s. get_or s 153 d) f ∙ get_or-set_same (take 154 f1) 153 q d (omega arith)
