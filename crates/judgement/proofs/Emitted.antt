-- Outputs of two paths, compared from the first on.
use Rattle.std.proofs.Common.{◌≡◌, ℕ, zero, suc, ◌+◌, ◌-◌, ◌<◌, ◌≤◌, min, true, false, ◌≢◌, List, [], ◌∷◌, ◌++◌, sym, refl, ap, ◌∙◌, subst, ap₂, ⊎_elim, arith}
use Rattle.std.proofs.lemmas.Bool.{cases_lt}
use Rattle.domain.specs.Ring.{Ops}
use Rattle.forms.specs.Forms.{Form}
use Rattle.machine.specs.Answer.{Answer, good, refused, ◌then◌, check}
use Rattle.walk.specs.Seen.{outputs_seen}
use Rattle.correspondence.specs.Judgement.{same_outputs}
use Rattle.judgement.specs.Seen.{output_at, same_output}

module _ {X : Type 0} (ports : List ℕ) (fs : List (List X)) (first : ℕ) where
  -- the n outputs from j on
  pub outputs_from : (j n : ℕ) → List (ℕ × List X)
  outputs_from j zero = []
  outputs_from j (suc n) = output_at ports fs first j ∷ outputs_from (suc j) n

  one_behind : (j n : ℕ) → outputs_from j (suc n) ≡ outputs_from j n ++ (output_at ports fs first (j + n) ∷ [])
  unfolding outputs_from
  one_behind j zero = ap (λ k. output_at ports fs first k ∷ []) (omega arith)
  one_behind j (suc n) = ap (λ x. output_at ports fs first j ∷ x) (one_behind (suc j) n ∙ ap (λ k. outputs_from (suc j) n ++ (output_at ports fs first k ∷ [])) (omega arith))

  pub from_first : (n : ℕ) → outputs_from 0 n ≡ outputs_seen ports fs first n
  unfolding outputs_from
  from_first zero = refl
  from_first (suc n) =
      one_behind 0 n ∙ ap (λ k. outputs_from 0 n ++ (output_at ports fs first k ∷ [])) (omega arith)
      ∙ ap (λ x. x ++ (output_at ports fs first n ∷ [])) (from_first n)

module _ {D : Type 0} (o : Ops D) (ps qs : List ℕ) (fs : List (Form D)) (m n : ℕ) where
  -- what is left to compare
  left_from : ℕ → Answer (Unit {0})
  left_from i = same_outputs o i (outputs_from ps fs 64 i (m - i)) (outputs_from qs fs 80 i (n - i))

  -- from output i on the comparison is what it is from the first on
  pub Comparing : ℕ → Type 0
  Comparing i = left_from i ≡ same_outputs o 0 (outputs_seen ps fs 64 m) (outputs_seen qs fs 80 n)

  pub compare_start : Comparing 0
  unfolding Comparing left_from
  compare_start =
      let e : m - 0 ≡ m = omega arith in
      let f : n - 0 ≡ n = omega arith in
      ap₂ (λ x y. same_outputs o 0 (outputs_from ps fs 64 0 x) (outputs_from qs fs 80 0 y)) e f
      ∙ ap₂ (same_outputs o 0) (from_first ps fs 64 m) (from_first qs fs 80 n)

  one_output : (i : ℕ) → i < m → i < n → left_from i ≡ (check (same_output o (output_at ps fs 64 i) (output_at qs fs 80 i)) 15 0 i then λ _. left_from (i + 1))
  unfolding left_from same_outputs outputs_from
  one_output i a b =
      let e : m - i ≡ suc (m - (i + 1)) = omega arith in
      let f : n - i ≡ suc (n - (i + 1)) = omega arith in
      let s : suc i ≡ i + 1 = omega arith in
      ap₂ (λ x y. same_outputs o i (outputs_from ps fs 64 i x) (outputs_from qs fs 80 i y)) e f
      ∙ ap (λ k. check (same_output o (output_at ps fs 64 i) (output_at qs fs 80 i)) 15 0 i then λ _. same_outputs o k (outputs_from ps fs 64 k (m - (i + 1))) (outputs_from qs fs 80 k (n - (i + 1)))) s

  pub same_so_far : (i : ℕ) → i < m → i < n → same_output o (output_at ps fs 64 i) (output_at qs fs 80 i) ≡ true → Comparing i → Comparing (i + 1)
  unfolding Comparing
  same_so_far i a b e inv = sym (one_output i a b ∙ ap (λ t. check t 15 0 i then λ _. left_from (i + 1)) e) ∙ inv

  -- as many outputs are the same
  pub same_below : (k : ℕ) → k ≤ m → k ≤ n → ((i : ℕ) → 0 ≤ i → i < k → same_output o (output_at ps fs 64 i) (output_at qs fs 80 i) ≡ true) → Comparing k
  same_below zero a b h = compare_start
  same_below (suc k) a b h =
      let s : k + 1 ≡ suc k = omega arith in
      subst Comparing s (same_so_far k (omega arith) (omega arith) (h k (omega arith) (omega arith)) (same_below k (omega arith) (omega arith) (λ i l lt. h i l (omega arith))))

  pub not_same : (i : ℕ) → i < m → i < n → same_output o (output_at ps fs 64 i) (output_at qs fs 80 i) ≡ false → Comparing i → refused 15 0 i ≡ same_outputs o 0 (outputs_seen ps fs 64 m) (outputs_seen qs fs 80 n)
  unfolding Comparing
  not_same i a b e inv = sym (one_output i a b ∙ ap (λ t. check t 15 0 i then λ _. left_from (i + 1)) e) ∙ inv

  pub as_many : (i : ℕ) → m ≤ i → n ≤ i → Comparing i → good tt ≡ same_outputs o 0 (outputs_seen ps fs 64 m) (outputs_seen qs fs 80 n)
  unfolding Comparing left_from same_outputs outputs_from
  as_many i a b inv =
      let e : m - i ≡ 0 = omega arith in
      let f : n - i ≡ 0 = omega arith in
      sym (ap₂ (λ x y. same_outputs o i (outputs_from ps fs 64 i x) (outputs_from qs fs 80 i y)) e f) ∙ inv

  one_more : (i : ℕ) → i < m → n ≤ i → Comparing i → refused 15 0 i ≡ same_outputs o 0 (outputs_seen ps fs 64 m) (outputs_seen qs fs 80 n)
  unfolding Comparing left_from same_outputs outputs_from
  one_more i a b inv =
      let e : m - i ≡ suc (m - (i + 1)) = omega arith in
      let f : n - i ≡ 0 = omega arith in
      sym (ap₂ (λ x y. same_outputs o i (outputs_from ps fs 64 i x) (outputs_from qs fs 80 i y)) e f) ∙ inv

  one_less : (i : ℕ) → m ≤ i → i < n → Comparing i → refused 15 0 i ≡ same_outputs o 0 (outputs_seen ps fs 64 m) (outputs_seen qs fs 80 n)
  unfolding Comparing left_from same_outputs outputs_from
  one_less i a b inv =
      let e : m - i ≡ 0 = omega arith in
      let f : n - i ≡ suc (n - (i + 1)) = omega arith in
      sym (ap₂ (λ x y. same_outputs o i (outputs_from ps fs 64 i x) (outputs_from qs fs 80 i y)) e f) ∙ inv

  -- one path has more outputs
  pub uneven : (i : ℕ) → min m n ≤ i → i ≤ m → i ≤ n → m ≢ n → Comparing i → refused 15 0 i ≡ same_outputs o 0 (outputs_seen ps fs 64 m) (outputs_seen qs fs 80 n)
  uneven i a b c ne inv =
      ⊎_elim
      (λ lt. one_less i (omega arith) (omega arith) inv)
      (λ le. one_more i (omega arith) (omega arith) inv)
      (cases_lt m n)
