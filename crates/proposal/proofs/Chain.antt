-- Chains of readings: what is left of them where only the places count.
use Rattle.std.proofs.Common.{◌≡◌, ℕ, refl}
use Rattle.machine.specs.Answer.{Answer, good, refused, ◌then◌}
use Rattle.proposal.specs.Reading.{Read, read}
use Rattle.proposal.specs.Places.{behind}

pub behind_last : {X Y : Type 0} (a : Answer (Read X)) (k : Read X → Y) → behind (a then λ y. good (read (k y) y.place)) ≡ behind a
behind_last (good y) k = refl
behind_last (refused n m p) k = refl

-- one reading behind another
pub behind_both : {X Y Z : Type 0} (a : Answer (Read X)) (f : ℕ → Answer (Read Y)) (k : Read X → Read Y → Z) → behind (a then λ x. f x.place then λ y. good (read (k x y) y.place)) ≡ (behind a then λ q. behind (f q))
behind_both (good x) f k = behind_last (f x.place) (k x)
behind_both (refused n m p) f k = refl

pub then_assoc : {X Y Z : Type 0} (a : Answer X) (f : X → Answer Y) (g : Y → Answer Z) → ((a then f) then g) ≡ (a then λ x. f x then g)
then_assoc (good x) f g = refl
then_assoc (refused n m p) f g = refl

-- two chains that go on alike
pub then_same : {X Y : Type 0} (a : Answer X) (f g : X → Answer Y) → ((x : X) → a ≡ good x → f x ≡ g x) → (a then f) ≡ (a then g)
then_same (good x) f g h = h x refl
then_same (refused n m p) f g h = refl
