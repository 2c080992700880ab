-- The part of a list from one place to another, one more at its end.
use Rattle.std.proofs.Common.{◌≡◌, ℕ, ◌+◌, ◌-◌, ◌<◌, ◌≤◌, List, [], ◌∷◌, ◌++◌, length, take, drop, ap, ◌∙◌, arith, length-drop}
use Rattle.std.proofs.lemmas.List.{take_more, get_or-drop}
use Rattle.machine.specs.Words.{part, word}

pub part_none : (ws : List ℕ) (p : ℕ) → part ws p p ≡ []
part_none ws p = let z : p - p ≡ 0 = omega arith in rw z

pub part_more : (ws : List ℕ) (p i : ℕ) → p ≤ i → i < length ws → part ws p (i + 1) ≡ part ws p i ++ word ws i ∷ []
part_more ws p i h k =
    let one : i + 1 - p ≡ i - p + 1 = omega arith in
    let back : p + (i - p) ≡ i = omega arith in
    let in_drop : i - p < length (drop p ws) = simp length-drop (omega arith) in
    ap (λ n. take n (drop p ws)) one ∙ take_more (drop p ws) (i - p) 0 in_drop ∙ rw (get_or-drop p ws (i - p) 0, back)
