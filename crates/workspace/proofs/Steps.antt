-- Steps that the slots' functions share.
use Rattle.std.proofs.Common.{◌≡◌, ℕ, suc, ◌-◌, ◌*◌, ◌<◌, ◌≤◌, true, false, cond, leb, List, [], ◌∷◌, length, get_or, set, Some, None, Option, sym, refl, ap, ◌∙◌, add-zero, arith, length-drop, length-take}
use Rattle.std.proofs.lemmas.List.{length-set}
use Rattle.std.proofs.lemmas.Bool.{cond_both, leb-true, leb-false}
use Rattle.forms.specs.Rows.{part, Within, Written, Kept, Put}
use Rattle.forms.specs.Forms.{unless_zero, limit, negation, multiplied}
use Rattle.domain.specs.Ring.{Ops}
use Rattle.forms.specs.declared.span.Span.{Span}
use Rattle.forms.specs.declared.term.Term.{Term}
use Rattle.forms.proofs.Parts.{written_none, written_more, length_written}
use Rattle.forms.proofs.Turns.{length_part, length_turn}
use Rattle.workspace.specs.Slots.{slots, place, Ready, give}
use Rattle.workspace.proofs.Laws.{slots_kept, slots_set, slot_is, few_set}

module _ {X : Type 0} where
  pub length_inside : (s : Span) (row : List X) → Within s (length row) → length (part s row) ≡ s.to - s.from
  length_inside s row w = let a = w.ordered in let b = w.below in simp (length-take, length-drop) (omega arith)

  -- a form of slot k, by its place
  pub form_at : (ns : List ℕ) (xs : List X) (k : ℕ) (s : Span) → Ready ns xs → k < 162 → s ≡ place ns k → part s xs ≡ get_or (slots ns xs) k []
  form_at ns xs k s r lt e = rw e (sym (slot_is ns xs k (omega (arith, r.count))))

  pub place_within : (ns : List ℕ) (xs : List X) (k : ℕ) → Ready ns xs → k < 162 → Within (place ns k) 2592
  place_within ns xs k r lt = let f = r.few k in record { ordered = omega arith; below = omega arith }

  -- work behind the slots
  pub ready_kept : (ns : List ℕ) (xs ys : List X) → Ready ns xs → Kept 2592 xs ys → Ready ns ys
  ready_kept ns xs ys r k = record { count = r.count; few = r.few; room = let a = r.room in let b = k.long in omega arith }

  pub forms_kept : (ns : List ℕ) (xs ys : List X) → Ready ns xs → Kept 2592 xs ys → slots ns ys ≡ slots ns xs
  forms_kept ns xs ys r k =
      let e : 2592 ≡ 16 * length ns = omega (arith, r.count) in
      slots_kept ns xs ys r.few (rw e at k)

  -- a slot is given a form
  pub given : (ns : List ℕ) (xs ys out : List X) (k n : ℕ) → Ready ns xs → k < 162 → n ≡ length out → n ≤ 16 → Written (16 * k) xs out ys → Ready (set ns k n) ys × (slots (set ns k n) ys ≡ set (slots ns xs) k out)
  given ns xs ys out k n r lt e le w =
      let c = r.count in
      let l = length_written (16 * k) xs out ys w in
      let h : k < length ns = omega arith in (
        record { count = length-set ns k n ∙ c; few = few_set ns k n h le r.few; room = let a = r.room in omega arith },
        ap (λ m. slots (set ns k m) ys) e ∙ slots_set ns xs ys out k r.few h (omega arith) w,
      )

  pub give_over : (k : ℕ) (p : List X) (fs : List (List X)) → 16 < length p → None ≡ give k (limit p) fs
  give_over k p fs h = cond_both (leb (length p) 16) (Some p) None (λ o. None ≡ give k o fs) (λ e. absurd (omega (arith, leb-true (length p) 16 e))) (λ _. refl)

  pub give_fits : (k : ℕ) (p : List X) (fs : List (List X)) → length p ≤ 16 → Some (set fs k p) ≡ give k (limit p) fs
  give_fits k p fs h = cond_both (leb (length p) 16) (Some p) None (λ o. Some (set fs k p) ≡ give k o fs) (λ _. refl) (λ e. absurd (omega (arith, leb-false (length p) 16 e)))

  -- what settles after work behind the slots
  pub settled : (ns : List ℕ) (xs ys out : List X) (k : ℕ) (s : Span) (t : Option (List (List X))) → Ready ns xs → Kept 2592 xs ys → part s ys ≡ out → t ≡ give k (limit (part s ys)) (slots ns ys) → t ≡ give k (limit out) (slots ns xs)
  settled ns xs ys out k s t r kept is e = e ∙ ap (λ q. give k (limit q) (slots ns ys)) is ∙ ap (give k (limit out)) (forms_kept ns xs ys r kept)

module _ {D : Type 0} (o : Ops D) (ns : List ℕ) (xs : List (Term D)) (k : ℕ) (t : Term D) where
  pub given_none : Ready ns xs → k < 162 → o.same t.coefficient o.zero ≡ true → Ready (set ns k 0) xs × (slots (set ns k 0) xs ≡ set (slots ns xs) k (unless_zero o t []))
  given_none r lt e =
      let a = r.room in
      let g = given ns xs xs [] k 0 r lt refl (omega arith) (written_none (16 * k) xs (omega arith)) in
      (g.0, g.1 ∙ ap (λ b. set (slots ns xs) k (cond b [] (t ∷ []))) (sym e))

  pub given_one : Ready ns xs → k < 162 → o.same t.coefficient o.zero ≡ false → Ready (set ns k 1) (set xs (16 * k) t) × (slots (set ns k 1) (set xs (16 * k) t) ≡ set (slots ns xs) k (unless_zero o t []))
  given_one r lt e =
      let a = r.room in
      let w = written_more (16 * k) xs [] xs t (written_none (16 * k) xs (omega arith)) (omega arith) in
      let w2 : Written (16 * k) xs (t ∷ []) (set xs (16 * k) t) = rw add-zero at w in
      let g = given ns xs (set xs (16 * k) t) (t ∷ []) k 1 r lt refl (omega arith) w2 in
      (g.0, g.1 ∙ ap (λ b. set (slots ns xs) k (cond b [] (t ∷ []))) (sym e))

module _ {X : Type 0} where
  -- a form is short
  pub short : (ns : List ℕ) (xs : List X) (k : ℕ) (s : Span) → Ready ns xs → s ≡ place ns k → length (part s xs) ≤ 16
  short ns xs k s r e =
      let f = r.few k in
      let l = length_part (place ns k) xs in
      rw e (omega arith)

  -- what is made behind the slots lies in the row
  pub made_within : (ns : List ℕ) (xs ys out : List X) (s : Span) → Ready ns xs → Put 2592 xs out ys s → length out ≤ 544 → Within s (length ys)
  made_within ns xs ys out s r p h =
      let a = r.room in
      let b = p.kept.long in
      let f = p.from in
      let t = p.to in
      record { ordered = omega arith; below = omega arith }

module _ {D : Type 0} (o : Ops D) where
  pub length_negation : (ts : List (Term D)) → length (negation o ts) ≡ length ts
  length_negation [] = refl
  length_negation (t ∷ ts) = ap suc (length_negation ts)

  pub length_product : (xs ys : List (Term D)) → length ys ≤ 16 → length (multiplied o xs ys) ≤ 16 * length xs
  length_product [] ys h = omega arith
  length_product (x ∷ xs) ys h =
      let i = length_product xs ys h in
      let t = length_turn o 0 [] x xs ys in
      omega arith
