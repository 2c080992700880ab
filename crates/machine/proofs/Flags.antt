-- The flags of the registers that a transition has stored.
use Rattle.std.proofs.Common.{◌≡◌, ℕ, ◌<◌, Bool, true, false, not, ◌≢◌, List, [], ◌∷◌, length, get_or, set, sym, refl, ap, ◌∙◌, ⊎_elim, arith}
use Rattle.std.proofs.lemmas.List.{get_or-set_same, get_or-set_other}
use Rattle.std.proofs.lemmas.Bool.{cases_eq}
use Rattle.machine.specs.Machine.{Action, store, emit}
use Rattle.machine.specs.Sound.{Unstored}

-- no flag stands at a register that these actions store
abbrev pub Unmarked : List Bool → List Action → Type 0
Unmarked st [] = Unit {0}
Unmarked st (store r e ∷ rest) = (get_or st r false ≡ false) × Unmarked st rest
Unmarked st (emit port e ∷ rest) = Unmarked st rest

true_false : true ≡ false → ⊥
true_false e = let z : ◌≡◌ {A = ℕ} 0 1 = cc in omega arith

pub not_true : (b : Bool) → not b ≡ true → b ≡ false
not_true true e = absurd (true_false (sym e))
not_true false e = refl

-- a register that is neither flagged nor n, if n was flagged too
apart : (st : List Bool) (n r : ℕ) → n < length st → get_or (set st n true) r false ≡ false → (n ≢ r) × (get_or st r false ≡ false)
apart st n r long h = ⊎_elim
    (λ e. absurd (true_false (sym (ap (λ k. get_or (set st n true) k false) e ∙ get_or-set_same st n true false long) ∙ h)))
    (λ ne. ((λ e. ne (sym e)), sym (get_or-set_other st n r true false ne) ∙ h))
    (cases_eq r n)

pub unmark : (st : List Bool) (n : ℕ) (actions : List Action) → n < length st → Unmarked (set st n true) actions → Unmarked st actions × Unstored n actions
unmark st n [] long h = (tt, tt)
unmark st n (store r e ∷ rest) long h = let a = apart st n r long h.0 in let b = unmark st n rest long h.1 in ((a.1, b.0), (a.0, b.1))
unmark st n (emit port e ∷ rest) long h = unmark st n rest long h

-- and back: a store of a register that no later action stores
pub mark : (st : List Bool) (n : ℕ) (actions : List Action) → Unmarked st actions → Unstored n actions → Unmarked (set st n true) actions
mark st n [] h u = tt
mark st n (store r e ∷ rest) h u = (get_or-set_other st n r true false (λ k. u.0 (sym k)) ∙ h.0, mark st n rest h.1 u.1)
mark st n (emit port e ∷ rest) h u = mark st n rest h u
