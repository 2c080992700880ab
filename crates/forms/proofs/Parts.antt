-- A part of a row by its front, and rows with something written behind.
use Rattle.std.proofs.Common.{◌≡◌, ℕ, suc, ◌+◌, ◌-◌, ◌<◌, ◌≤◌, List, [], ◌∷◌, ◌++◌, length, get_or, take, drop, set, sym, refl, ap, ◌∙◌, add-zero, arith}
use Rattle.std.proofs.lemmas.List.{append_assoc, append-nil, drop_more, length-append, length-take, length-take-le, length-drop, length_push, set-append_right, set_at, take-append-drop, take_at, take-take, drop_at}
use Rattle.std.proofs.lemmas.Grind.{take-set_at}
use Rattle.std.proofs.lemmas.Slice.{between_is, between-put_mid, take-put_mid_below}
use borrow.Rule.Slice.PartMut.{put_mid}
use Rattle.forms.specs.Rows.{part, Within, Written, Kept, Put}
use Rattle.forms.specs.declared.span.Span.{Span}

module _ {X : Type 0} where
  pub part_none : (s : Span) (row : List X) → s.to ≤ s.from → part s row ≡ []
  part_none s row h = let z : s.to - s.from ≡ 0 = omega arith in rw z

  pub part_front : (s : Span) (row : List X) (t : X) → s.from < s.to → s.to ≤ length row → t ≡ get_or row s.from t → part s row ≡ t ∷ part (record { from = s.from + 1; to = s.to }) row
  part_front s row t some within read =
      let z : s.to - s.from ≡ suc (s.to - (s.from + 1)) = omega arith in
      let e = drop_more row s.from t (omega arith) in
      rw (z, e, ← read)

  pub written_none : (at : ℕ) (base : List X) → at ≤ length base → Written at base [] base
  written_none at base h = record {
    fits = rw add-zero h;
    is = rw add-zero (sym (take-append-drop at base));
  }

  pub length_written : (at : ℕ) (base out row : List X) → Written at base out row → length row ≡ length base
  length_written at base out row w =
      let f = w.fits in
      let a : length (take at base) ≡ at = length-take-le at base (omega arith) in
      ap length w.is ∙ length-append (take at base) _ ∙ omega (arith, length-append out (drop (at + length out) base), length-drop (at + length out) base)

  pub written_kept : (at : ℕ) (base out row : List X) → Written at base out row → Kept at base row
  written_kept at base out row w =
      let f = w.fits in
      record {
        long = length_written at base out row w;
        same = ap (take at) w.is ∙ take_at (take at base) _ at (length-take-le at base (omega arith));
      }

  -- one term more, right behind
  pub written_more : (at : ℕ) (base out row : List X) (t : X) → Written at base out row → at + length out < length base → Written at base (out ++ (t ∷ [])) (set row (at + length out) t)
  written_more at base out row t w room =
      let n : length (out ++ (t ∷ [])) ≡ length out + 1 = length_push out t in
      let a : length (take at base) ≡ at = length-take-le at base (omega arith) in
      let d : drop (at + length out) base ≡ get_or base (at + length out) t ∷ drop (at + length out + 1) base = drop_more base (at + length out) t room in
      record {
        fits = omega arith;
        is =
            ap (λ r. set r (at + length out) t) (w.is ∙ ap (λ e. take at base ++ (out ++ e)) d)
            ∙ set-append_right (take at base) _ at (at + length out) t a (omega arith)
            ∙ ap (λ e. take at base ++ e) (set_at out _ _ t _ (omega arith) ∙ sym (append_assoc out (t ∷ []) _))
            ∙ ap (λ k. take at base ++ ((out ++ (t ∷ [])) ++ drop k base)) (omega arith);
      }

  -- what lies below is as it was
  pub part_kept : (s : Span) (n : ℕ) (base row : List X) → Within s n → Kept n base row → part s row ≡ part s base
  part_kept s n base row inside k =
      let le : s.to ≤ n = inside.below in
      between_is row s.from s.to
      ∙ ap (drop s.from) (sym (take-take s.to n row le) ∙ ap (take s.to) k.same ∙ take-take s.to n base le)
      ∙ sym (between_is base s.from s.to)

  -- what lies below, where the row is cut
  pub part_below : (s : Span) (n : ℕ) (base row : List X) → Within s n → row ≡ take n base → part s row ≡ part s base
  part_below s n base row inside e =
      let le : s.to ≤ n = inside.below in
      between_is row s.from s.to ∙ ap (drop s.from) (ap (take s.to) e ∙ take-take s.to n base le) ∙ sym (between_is base s.from s.to)

  pub part_written : (at : ℕ) (base out row : List X) → Written at base out row → part (record { from = at; to = at + length out }) row ≡ out
  part_written at base out row w =
      let f = w.fits in
      let n : at + length out - at ≡ length out = omega arith in
      let a : length (take at base) ≡ at = length-take-le at base (omega arith) in
      ap (λ k. take k (drop at row)) n
      ∙ ap (take (length out)) (ap (drop at) w.is ∙ drop_at (take at base) _ at a)
      ∙ take_at out _ (length out) refl

  pub part_written_at : (s : Span) (at : ℕ) (base out row : List X) → s.from ≡ at → s.to ≡ at + length out → Written at base out row → part s row ≡ out
  part_written_at s at base out row p q w = rw (p, q) (part_written at base out row w)

  -- a list of the same length, written over a part
  pub put_over : (s : Span) (at : ℕ) (base out row ys : List X) → Put at base out row s → length out ≡ length ys → at + length out ≤ length base → Put at base ys (put_mid s.from (s.to - s.from) row ys) s
  put_over s at base out row ys p n room =
      let f = p.from in
      let t = p.to in
      let l = p.kept.long in
      record {
        from = f;
        to = omega arith;
        is = between-put_mid s.from (s.to - s.from) row ys s.to (omega arith) (omega arith);
        kept = record { long = simp (length-append, length-take, length-drop) (omega arith); same = take-put_mid_below s.from (s.to - s.from) row ys at (omega arith) (omega arith) ∙ p.kept.same };
      }

  -- n elements behind what lies below `at`
  pub put_behind : (at n : ℕ) (base below target out : List X) → at ≤ length base → below ≡ take at base → length (below ++ target) ≡ length base → n ≤ length target → take n target ++ [] ≡ out → Put at base out (below ++ target) (record { from = at; to = at + n })
  put_behind at n base below target out h e long some made =
      let a : length below ≡ at = ap length e ∙ length-take-le at base h in
      let o : take n target ≡ out = sym (append-nil (take n target)) ∙ made in
      let m : at + n - at ≡ n = omega arith in
      record {
        from = refl;
        to = ap (λ k. at + k) (sym (length-take-le n target some) ∙ ap length o);
        is = ap (λ k. take k (drop at (below ++ target))) m ∙ ap (take n) (drop_at below target at a) ∙ o;
        kept = record { long = long; same = take_at below target at a ∙ e };
      }

  -- one more behind what is made so far of the whole
  pub made_more : (n : ℕ) (target rest more whole : List X) (t : X) → take n target ++ rest ≡ whole → rest ≡ t ∷ more → n < length target → take (n + 1) (set target n t) ++ more ≡ whole
  made_more n target rest more whole t made e h = rw (take-set_at target n (n + 1) t refl h, append_assoc) (ap (λ r. take n target ++ r) (sym e) ∙ made)

  pub kept_then : (n m : ℕ) (xs ys zs : List X) → n ≤ m → Kept n xs ys → Kept m ys zs → Kept n xs zs
  kept_then n m xs ys zs le a b = record {
    long = b.long ∙ a.long;
    same = sym (take-take n m zs le) ∙ ap (take n) b.same ∙ take-take n m ys le ∙ a.same;
  }

pub within_less : (at : ℕ) (s t : Span) → Within t s.to → Within s at → Within t at
within_less at s t i j = record { ordered = i.ordered; below = let a = i.below in let b = j.below in omega arith }

-- the front of a part, read in a row that is kept below `at`
pub step_kept : {X : Type 0} (at : ℕ) (base row : List X) (s : Span) (t : X) → Kept at base row → Within s at → Within (record { from = s.from + 1; to = s.to }) at → s.from < s.to → s.to ≤ length row → t ≡ get_or row s.from t → part s base ≡ t ∷ part (record { from = s.from + 1; to = s.to }) base
step_kept at base row s t k i j some inside read =
    sym (part_kept s at base row i k) ∙ part_front s row t some inside read ∙ ap (λ r. t ∷ r) (part_kept (record { from = s.from + 1; to = s.to }) at base row j k)
