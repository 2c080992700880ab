-- What a chain of checks that met no refusal went through.
use Rattle.std.proofs.Common.{◌≡◌, ℕ, Bool, true, false, cond, ◌⊎◌, refl, inl, inr, arith}
use Rattle.machine.specs.Answer.{Answer, good, refused, ◌then◌, check}

pub refused_good : {X : Type 0} {n m p : ℕ} {x : X} → refused n m p ≡ good x → ⊥
refused_good e = let z : ◌≡◌ {A = ℕ} 0 1 = cc in omega arith

pub good_same : {X : Type 0} (x y : X) → ◌≡◌ {A = Answer X} (good x) (good y) → x ≡ y
good_same x y e = cc

pub then_good : {X Y : Type 0} (a : Answer X) (f : X → Answer Y) (y : Y) → (a then f) ≡ good y → (x : X) × (a ≡ good x) × (f x ≡ good y)
then_good (good x) f y e = (x, refl, e)
then_good (refused n m p) f y e = absurd (refused_good e)

pub check_good : {Y : Type 0} (b : Bool) (n m p : ℕ) (f : Unit {0} → Answer Y) (y : Y) → (check b n m p then f) ≡ good y → (b ≡ true) × (f tt ≡ good y)
check_good true n m p f y e = (refl, e)
check_good false n m p f y e = absurd (refused_good e)

-- a choice, by the side that was good
pub cond_good : {X : Type 0} (b : Bool) (u v : Answer X) (y : X) → cond b u v ≡ good y → ((b ≡ true) × (u ≡ good y)) ⊎ ((b ≡ false) × (v ≡ good y))
cond_good true u v y e = inl (refl, e)
cond_good false u v y e = inr (refl, e)

-- where the other side refuses
pub only_true : {X : Type 0} (b : Bool) (n m p : ℕ) (u : Answer X) (y : X) → cond b u (refused n m p) ≡ good y → (b ≡ true) × (u ≡ good y)
only_true true n m p u y e = (refl, e)
only_true false n m p u y e = absurd (refused_good e)

pub only_false : {X : Type 0} (b : Bool) (n m p : ℕ) (v : Answer X) (y : X) → cond b (refused n m p) v ≡ good y → (b ≡ false) × (v ≡ good y)
only_false true n m p v y e = absurd (refused_good e)
only_false false n m p v y e = (refl, e)
