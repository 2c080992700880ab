-- One step of a scaled list and of a product, and their lengths.
use Rattle.std.proofs.Common.{◌≡◌, ℕ, suc, ◌+◌, ◌-◌, ◌≤◌, ltb, List, [], ◌∷◌, ◌++◌, length, take, drop, sym, ap, ◌∙◌, arith}
use Rattle.std.proofs.lemmas.List.{append_assoc, drop_at, drop-drop, length-append, length-take-le}
use Rattle.std.proofs.lemmas.Bool.{cond_both}
use Rattle.forms.specs.Forms.{added, into, unless_zero}
use Rattle.domain.specs.Ring.{Ops}
use Rattle.forms.specs.Rows.{part, Written}
use Rattle.forms.specs.declared.span.Span.{Span}
use Rattle.forms.specs.declared.term.Term.{Term}
use Rattle.forms.specs.Forms.{term_product, scaled}

module _ {D : Type 0} (o : Ops D) where
  length_unless : (t : Term D) (xs : List (Term D)) (n : ℕ) → length xs ≤ n → length (unless_zero o t xs) ≤ suc n
  length_unless t xs n h = cond_both (o.same t.coefficient o.zero) xs (t ∷ xs) (λ l. length l ≤ suc n) (λ _. omega arith) (λ _. omega arith)

  pub length_scaled : (x : Term D) (ys : List (Term D)) → length (scaled o x ys) ≤ length ys
  length_scaled x [] = omega arith
  length_scaled x (y ∷ ys) = length_unless (term_product o x y) (scaled o x ys) (length ys) (length_scaled x ys)

  length_into : (x : Term D) (f : List (Term D) → List (Term D)) (n : ℕ) → ((ys : List (Term D)) → length (f ys) ≤ n + length ys) → (ys : List (Term D)) → length (into o x f ys) ≤ suc n + length ys
  length_into x f n h [] = let k = h [] in omega arith
  length_into x f n h (y ∷ ys) =
      let P : List (Term D) → Type 0 = λ l. length l ≤ suc n + suc (length ys) in
      let a : length (f (y ∷ ys)) ≤ n + suc (length ys) = h (y ∷ ys) in
      let b = length_into x f n h ys in
      let c = h ys in
      cond_both (ltb y.monomial.0 x.monomial.0) _ _ P (λ _. omega arith)
      (λ _. cond_both (ltb x.monomial.0 y.monomial.0) _ _ P (λ _. omega arith)
      (λ _. let d = length_unless (record { coefficient = o.add x.coefficient y.coefficient; monomial = x.monomial }) (f ys) (n + length ys) c in omega arith))

  pub length_sum : (xs ys : List (Term D)) → length (added o xs ys) ≤ length xs + length ys
  length_sum [] ys = omega arith
  length_sum (x ∷ xs) ys = length_into x (added o xs) (length xs) (length_sum xs) ys

module _ {X : Type 0} where
  -- what lies above what is written is as it was
  pub part_above : (s : Span) (at : ℕ) (base out row : List X) → Written at base out row → at + length out ≤ s.from → part s row ≡ part s base
  part_above s at base out row w h =
      let f = w.fits in
      let e = at + length out in
      let a : length (take at base) ≡ at = length-take-le at base (omega arith) in
      let n : length (take at base ++ out) ≡ e = length-append (take at base) out ∙ omega arith in
      let d : drop e row ≡ drop e base = ap (drop e) (w.is ∙ sym (append_assoc (take at base) out (drop e base))) ∙ drop_at (take at base ++ out) (drop e base) e n in
      let k : e + (s.from - e) ≡ s.from = omega arith in
      let l : drop s.from row ≡ drop s.from base = ap (λ j. drop j row) (sym k) ∙ sym (drop-drop (s.from - e) e row) ∙ ap (drop (s.from - e)) d ∙ drop-drop (s.from - e) e base ∙ ap (λ j. drop j base) k in
      ap (take (s.to - s.from)) l
