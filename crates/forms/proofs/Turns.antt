-- One turn of a product.
use Rattle.std.proofs.Common.{◌≡◌, ℕ, ◌+◌, ◌-◌, ◌<◌, ◌≤◌, List, [], ◌∷◌, length, get_or, sym, refl, ap, ◌∙◌, add-zero, arith, length-take}
use Rattle.forms.specs.Rows.{Put}
use Rattle.forms.specs.Forms.{added}
use Rattle.domain.specs.Ring.{Ops}
use Rattle.forms.specs.Rows.{part, Within, Kept}
use Rattle.forms.specs.declared.span.Span.{Span}
use Rattle.forms.specs.declared.term.Term.{Term}
use Rattle.forms.proofs.Parts.{part_kept, kept_then, part_none, step_kept}
use Rattle.forms.specs.Forms.{scaled, multiplied}
use Rattle.forms.proofs.Scaling.{length_sum, length_scaled}

module _ {X : Type 0} where
  pub length_part : (s : Span) (row : List X) → length (part s row) ≤ s.to - s.from
  length_part s row = simp length-take (omega arith)

  -- one term more in front of a part, read in a row that is kept below `at`
  pub step_back : (at : ℕ) (base row : List X) (i to : ℕ) (t : X) → Kept at base row → 0 < i → i ≤ to → to ≤ at → to ≤ length row → t ≡ get_or row (i - 1) t → part (record { from = i - 1; to = to }) base ≡ t ∷ part (record { from = i; to = to }) base
  step_back at base row i to t k some le below inside read =
      let e : i - 1 + 1 ≡ i = omega arith in
      step_kept at base row (record { from = i - 1; to = to }) t k (record { ordered = omega arith; below = below }) (record { ordered = omega arith; below = below }) (omega arith) inside read
      ∙ ap (λ j. t ∷ part (record { from = j; to = to }) base) e

module _ {D : Type 0} (o : Ops D) (at : ℕ) (base : List (Term D)) where
  pub none_yet : (xs ys : List (Term D)) → xs ≡ [] → Put at base (multiplied o xs ys) base (record { from = at; to = at })
  none_yet xs ys e = rw e (record { from = refl; to = sym (add-zero at); is = part_none (record { from = at; to = at }) base (omega arith); kept = record { long = refl; same = refl } })

  pub turn : (row row1 row2 row3 : List (Term D)) (b acc s m r : Span) (x : Term D) (xs : List (Term D)) → Within b at
      → Put at base (multiplied o xs (part b base)) row acc
      → Put acc.to row (scaled o x (part b row)) row1 s
      → Put s.to row1 (added o (part s row1) (part acc row1)) row2 m
      → Put at row2 (part m row2) row3 r
      → Put at base (multiplied o (x ∷ xs) (part b base)) row3 r
  turn row row1 row2 row3 b acc s m r x xs wb pa ps pm pr =
      let ys = part b base in
      let lo : at ≤ acc.to = let t = pa.to in omega arith in
      let hi : acc.to ≤ s.to = let t = ps.to in omega arith in
      let wa : Within acc acc.to = let f = pa.from in record { ordered = omega arith; below = omega arith } in
      let e1 : part s row1 ≡ scaled o x ys = ps.is ∙ ap (scaled o x) (part_kept b at base row wb pa.kept) in
      let e2 : part acc row1 ≡ multiplied o xs ys = part_kept acc acc.to row row1 wa ps.kept ∙ pa.is in
      let e3 : part m row2 ≡ added o (scaled o x ys) (multiplied o xs ys) = pm.is ∙ ap (λ p. added o p (part acc row1)) e1 ∙ ap (added o (scaled o x ys)) e2 in
      let k1 = kept_then at acc.to base row row1 lo pa.kept ps.kept in
      let k2 = kept_then at s.to base row1 row2 (omega arith) k1 pm.kept in
      record {
        from = pr.from;
        to = pr.to ∙ ap (λ l. at + length l) e3;
        is = pr.is ∙ e3;
        kept = record { long = pr.kept.long ∙ k2.long; same = pr.kept.same ∙ k2.same };
      }

  pub length_turn : (x : Term D) (xs ys : List (Term D)) → length (multiplied o (x ∷ xs) ys) ≤ length ys + length (multiplied o xs ys)
  length_turn x xs ys = let a = length_sum o (scaled o x ys) (multiplied o xs ys) in let b = length_scaled o x ys in omega arith
