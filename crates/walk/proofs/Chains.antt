-- Answers and options one after another, taken apart again.
use Rattle.std.proofs.Common.{◌≡◌, ℕ, Bool, true, false, Some, None, Option, refl, arith}
use Rattle.expression.specs.Run.{and_then}
use Rattle.machine.specs.Answer.{Answer, good, refused, ◌then◌, check}
use Rattle.walk.specs.Walk.{fits}

pub refused_good : {X : Type 0} (n m p : ℕ) (x : X) → refused n m p ≡ good x → ⊥
refused_good n m p x e = let z : ◌≡◌ {A = ℕ} 0 1 = cc in omega arith

pub none_some : {X : Type 0} (x : X) → None ≡ Some x → ⊥
none_some x e = let z : ◌≡◌ {A = ℕ} 0 1 = cc in omega arith

pub good_same : {X : Type 0} (x y : X) → good x ≡ good y → x ≡ y
good_same x y e = cc

pub some_same : {X : Type 0} (x y : X) → Some x ≡ Some y → x ≡ y
some_same x y e = cc

-- both parts of a chain that is good
pub split : {X Y : Type 0} (a : Answer X) (k : X → Answer Y) (y : Y) → a then k ≡ good y → (x : X) × (a ≡ good x) × (k x ≡ good y)
split (good x) k y e = (x, refl, e)
split (refused n m p) k y e = absurd (refused_good n m p y e)

pub split_check : {Y : Type 0} (b : Bool) (n m p : ℕ) (k : Unit {0} → Answer Y) (y : Y) → check b n m p then k ≡ good y → (b ≡ true) × (k tt ≡ good y)
split_check true n m p k y e = (refl, e)
split_check false n m p k y e = absurd (refused_good n m p y e)

pub check_true : (b : Bool) (n m p : ℕ) → check b n m p ≡ good tt → b ≡ true
check_true true n m p e = refl
check_true false n m p e = absurd (refused_good n m p tt e)

pub split_fits : {X Y : Type 0} (v : Option X) (k : X → Answer Y) (y : Y) → fits v then k ≡ good y → (x : X) × (v ≡ Some x) × (k x ≡ good y)
split_fits (Some x) k y e = (x, refl, e)
split_fits None k y e = absurd (refused_good 11 0 0 y e)

pub split_some : {X Y : Type 0} (v : Option X) (k : X → Option Y) (y : Y) → and_then v k ≡ Some y → (x : X) × (v ≡ Some x) × (k x ≡ Some y)
split_some (Some x) k y e = (x, refl, e)
split_some None k y e = absurd (none_some y e)
