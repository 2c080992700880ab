-- Looking through the known tests one by one, and the parts of a settled test.
use Rattle.std.proofs.Common.{◌≡◌, ℕ, zero, suc, ◌+◌, Bool, ◌||◌, List, refl, ap, ◌∙◌, arith}
use Rattle.std.specs.List.{list_any, range_with_len}
use Rattle.domain.specs.Ring.{Ops}
use Rattle.forms.specs.Forms.{Form, fixed}
use Rattle.walk.specs.declared.known.Noted.{Noted}
use Rattle.walk.specs.Settled.{Known, any, twin, by_constants, one_form, settled}
use Rattle.walk.specs.Seen.{known_at, known_seen}

-- a test of the numbers of known tests, and of the known tests themselves
pub any_seen : {D : Type 0} (f : Known D → Bool) (noted : List Noted) (fs : List (Form D)) (j n : ℕ) → list_any (λ i. f (known_at noted fs i)) (range_with_len j n) ≡ any f (known_seen noted fs j n)
any_seen f noted fs j zero = refl
any_seen f noted fs j (suc n) =
    let s : j + 1 ≡ suc j = omega arith in
    ap (λ b. f (known_at noted fs j) || b) (ap (λ i. list_any (λ k. f (known_at noted fs k)) (range_with_len i n)) s ∙ any_seen f noted fs (suc j) n)

-- a settled test by its parts
pub settled_parts : {D : Type 0} (o : Ops D) (known : List (Known D)) (k : Known D) → settled o known k ≡ (any (twin o k) known || (by_constants o k.test k.says (fixed o k.left) (fixed o k.right) || one_form o k))
unfolding settled
settled_parts o known k = refl
