-- Steps of the loops over the codes of a word.
use Rattle.std.proofs.Common.{◌≡◌, ℕ, zero, suc, eqb, ap, ◌∙◌, ◌+◌, ◌-◌, ◌*◌, ◌^◌, ◌<◌, ◌≤◌, max, [], ◌∷◌, add-one, pow-suc, arith}
use Rattle.std.specs.List.{fold}
use Rattle.std.proofs.Math.Nat.{pow-le-pow_right}
use Rattle.std.proofs.lemmas.Bool.{cond_both, eq-eqb, ne_eqb, le-leb, lt-leb}
use Rattle.forms.specs.Forms.{Form, top}
use Rattle.forms.specs.Monomials.{degree, first, rest, filled, merged_codes}

less_one : (r : ℕ) → suc r - 1 ≡ r
less_one r = omega arith

pub filled_empty : (k r w : ℕ) → 0 < r → first k w ≡ 0 → filled k r w ≡ filled k (r - 1) (rest k w)
filled_empty k zero w h e = absurd (omega arith)
filled_empty k (suc r) w h e = rw (less_one r, eq-eqb (first k w) 0 e) (omega arith)

pub filled_more : (k r w : ℕ) → 0 < r → (first k w ≡ 0 → ⊥) → filled k r w ≡ 1 + filled k (r - 1) (rest k w)
filled_more k zero w h e = absurd (omega arith)
filled_more k (suc r) w h e = rw (less_one r, ne_eqb (first k w) 0 e) (omega arith)

pub filled_few : (k r w : ℕ) → filled k r w ≤ r
filled_few k zero w = omega arith
filled_few k (suc r) w =
    let few = filled_few k r (rest k w) in
    cond_both (eqb (first k w) 0) 0 1 (λ b. b + filled k r (rest k w) ≤ suc r) (λ _. omega arith) (λ _. omega arith)

-- the same behind i of k codes
pub filled_empty_at : (k i w : ℕ) → i < k → first k w ≡ 0 → filled k (k - i) w ≡ filled k (k - (i + 1)) (rest k w)
filled_empty_at k i w h e = filled_empty k (k - i) w (omega arith) e ∙ ap (λ r. filled k r (rest k w)) (omega arith)

pub filled_more_at : (k i w : ℕ) → i < k → (first k w ≡ 0 → ⊥) → filled k (k - i) w ≡ 1 + filled k (k - (i + 1)) (rest k w)
filled_more_at k i w h e = filled_more k (k - i) w (omega arith) e ∙ ap (λ r. 1 + filled k r (rest k w)) (omega arith)

pub filled_end : (k i w : ℕ) → k ≤ i → filled k (k - i) w ≡ 0
filled_end k i w h = let e : k - i ≡ 0 = omega arith in rw e

pub merged_left : (k r x y out : ℕ) → 0 < r → first k y ≤ first k x → merged_codes k r x y out ≡ merged_codes k (r - 1) (rest k x) y (out * 256 + first k x)
merged_left k zero x y out h l = absurd (omega arith)
merged_left k (suc r) x y out h l = rw (less_one r, le-leb (first k y) (first k x) l)

pub merged_right : (k r x y out : ℕ) → 0 < r → first k x < first k y → merged_codes k r x y out ≡ merged_codes k (r - 1) x (rest k y) (out * 256 + first k y)
merged_right k zero x y out h l = absurd (omega arith)
merged_right k (suc r) x y out h l = rw (less_one r, lt-leb (first k y) (first k x) l)

pub merged_left_at : (k i x y out : ℕ) → i < k → first k y ≤ first k x → merged_codes k (k - i) x y out ≡ merged_codes k (k - (i + 1)) (rest k x) y (out * 256 + first k x)
merged_left_at k i x y out h l = merged_left k (k - i) x y out (omega arith) l ∙ ap (λ r. merged_codes k r (rest k x) y (out * 256 + first k x)) (omega arith)

pub merged_right_at : (k i x y out : ℕ) → i < k → first k x < first k y → merged_codes k (k - i) x y out ≡ merged_codes k (k - (i + 1)) x (rest k y) (out * 256 + first k y)
merged_right_at k i x y out h l = merged_right k (k - i) x y out (omega arith) l ∙ ap (λ r. merged_codes k r x (rest k y) (out * 256 + first k y)) (omega arith)

pub merged_end : (k i x y out : ℕ) → k ≤ i → merged_codes k (k - i) x y out ≡ out
merged_end k i x y out h = let e : k - i ≡ 0 = omega arith in rw e

-- behind less than four codes a word has room for one more
pub code_room : (i : ℕ) → i < 4 → 256 ^ i * 256 ≤ 256 ^ 4
code_room i h = let e : 256 ^ suc i ≤ 256 ^ 4 = pow-le-pow_right {n = 256} (omega arith) {i = suc i} {j = 4} (omega arith) in rw (pow-suc 256 i) at e

-- a number of i digits with one digit more behind it
pub digit_more : (i out c : ℕ) → out < 256 ^ i → c < 256 → out * 256 + c < 256 ^ (i + 1)
digit_more i out c small low = rw (add-one, pow-suc) (omega arith)

-- the largest degree, as a fold takes it
top_from : {D : Type 0} (p : Form D) (a : ℕ) → fold (λ n t. max n (degree t.monomial)) a p ≡ max a (top p)
top_from [] a = omega arith
top_from (t ∷ p) a = let ih = top_from p (max a (degree t.monomial)) in omega arith

pub top_fold : {D : Type 0} (p : Form D) → fold (λ n t. max n (degree t.monomial)) 0 p ≡ top p
top_fold p = let e = top_from p 0 in omega arith
