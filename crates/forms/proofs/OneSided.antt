-- A sum of two forms of which one has no terms: both, one behind the other.
use Rattle.std.proofs.Common.{◌≡◌, true, [], ◌∷◌, ◌++◌, length, refl, ap, arith}
use Rattle.std.specs.Bool.{◌==◌}
use Rattle.std.proofs.lemmas.Bool.{eqb-true}
use Rattle.domain.specs.Ring.{Ops}
use Rattle.forms.specs.Forms.{Form, added}

pub none_behind : {D : Type 0} (o : Ops D) (p q : Form D) → (length q == 0) ≡ true → added o p q ≡ p ++ q
none_behind o [] q e = refl
none_behind o (x ∷ p) [] e = ap (λ r. x ∷ r) (none_behind o p [] e)
none_behind o (x ∷ p) (y ∷ q) e = let z = eqb-true (length (y ∷ q)) 0 e in absurd (omega arith)

pub none_before : {D : Type 0} (o : Ops D) (p q : Form D) → (length p == 0) ≡ true → added o p q ≡ p ++ q
none_before o [] q e = refl
none_before o (x ∷ p) q e = let z = eqb-true (length (x ∷ p)) 0 e in absurd (omega arith)
