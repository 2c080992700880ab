-- What holds of each entry of a list.
use Rattle.std.proofs.Common.{ℕ, zero, suc, List, [], ◌∷◌, ◌++◌, get_or}
use Rattle.machine.specs.Machine.{Each}

pub each_or : {A : Type 0} (P : A → Type 0) (xs : List A) (s : ℕ) (d : A) → Each P xs → P d → P (get_or xs s d)
each_or P [] s d h k = k
each_or P (x ∷ xs) zero d h k = h.0
each_or P (x ∷ xs) (suc s) d h k = each_or P xs s d h.1 k

pub each_map : {A : Type 0} (P Q : A → Type 0) (xs : List A) → ((x : A) → P x → Q x) → Each P xs → Each Q xs
each_map P Q [] f h = tt
each_map P Q (x ∷ xs) f h = (f x h.0, each_map P Q xs f h.1)

pub each_push : {A : Type 0} (P : A → Type 0) (xs : List A) (x : A) → Each P xs → P x → Each P (xs ++ x ∷ [])
each_push P [] x h k = (k, tt)
each_push P (y ∷ xs) x h k = (h.0, each_push P xs x h.1 k)

pub each_append : {A : Type 0} (P : A → Type 0) (xs ys : List A) → Each P xs → Each P ys → Each P (xs ++ ys)
each_append P [] ys p q = q
each_append P (x ∷ xs) ys p q = (p.0, each_append P xs ys p.1 q)
