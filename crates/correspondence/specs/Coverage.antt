-- Which paths are covered, and the verdict.
use Rattle.std.specs.Prelude.{◌≡◌, ℕ, zero, suc, ◌<◌, Bool, true, false, ◌&&◌, List, [], ◌∷◌, ◌++◌, length, Some, None, Option, ◌==◌}
use Rattle.std.specs.Bool.{beq}
use mathlib.Core.List.{Memᴰ}
use Rattle.machine.specs.Machine.{Machine, Row, straight, branch, row_at, chosen}
use Rattle.walk.specs.Settled.{any}
use Rattle.proposal.specs.Proposal.{Claim, live, infeasible}
use Rattle.correspondence.specs.State.{Open, pair_at}

-- The meaning

-- A path is filed from a pair.
pub data Filed (b : Open) (p : ℕ) (path : List Bool) : Type 0 where
  as_live : (end : ℕ) (path₂ : List Bool) → Memᴰ (live p end path path₂) b.claims → Filed b p path
  as_infeasible : Memᴰ (infeasible p path) b.claims → Filed b p path

-- The state that a path leads to: its turns alone say it.
abbrev pub led : Machine → ℕ → List Bool → ℕ
led m s [] = s
led m s (t ∷ path) = led m (chosen (row_at m s) t).target path

-- At a straight row only yes continues.
abbrev pub Continues : Row → Bool → Type 0
Continues (straight t) turn = turn ≡ true
Continues (branch test left right on_yes on_no) turn = Unit {0}

-- A path is covered when it is filed from its pair, or when a longer filed path begins with it and each of its one-step continuations is covered.
pub data Covered (b : Open) (p : ℕ) : List Bool → Type 0 where
  filed : {path : List Bool} → Filed b p path → Covered b p path
  begun : {path : List Bool} (t : Bool) (rest : List Bool) → Filed b p (path ++ (t ∷ rest)) → ((u : Bool) → Continues (row_at b.machine₁ (led b.machine₁ (pair_at b p).state₁ path)) u → Covered b p (path ++ (u ∷ []))) → Covered b p path

-- The empty path of every pair is covered.
abbrev pub AllCovered : Open → Type 0
AllCovered b = (p : ℕ) → p < length b.pairs → Covered b p []

-- A path that is not filed, begins no filed path and has no filed beginning.
pub record Unmatched (b : Open) (p : ℕ) (path : List Bool) : Type 0 where
  pub begins_none : (t : Bool) (rest : List Bool) → ¬ Filed b p (path ++ (t ∷ rest))
  pub none_begins : (front back : List Bool) → front ++ back ≡ path → ¬ Filed b p front

-- The answer

abbrev pub is_path : List Bool → List Bool → Bool
is_path [] [] = true
is_path [] (u ∷ q) = false
is_path (t ∷ p) [] = false
is_path (t ∷ p) (u ∷ q) = beq t u && is_path p q

-- The second is longer and begins with the first.
abbrev pub begins : List Bool → List Bool → Bool
begins [] [] = false
begins [] (u ∷ q) = true
begins (t ∷ p) [] = false
begins (t ∷ p) (u ∷ q) = beq t u && begins p q

abbrev pub claim_start : Claim → ℕ
claim_start (live start end path₁ path₂) = start
claim_start (infeasible start path₁) = start

abbrev pub claim_path : Claim → List Bool
claim_path (live start end path₁ path₂) = path₁
claim_path (infeasible start path₁) = path₁

abbrev pub is_filed : Open → ℕ → List Bool → Bool
is_filed b p path = any (λ c. (claim_start c == p) && is_path path (claim_path c)) b.claims

abbrev pub begins_filed : Open → ℕ → List Bool → Bool
begins_filed b p path = any (λ c. (claim_start c == p) && begins path (claim_path c)) b.claims

abbrev pub first_of : Option (List Bool) → Option (List Bool) → Option (List Bool)
first_of (Some q) r = Some q
first_of None r = r

abbrev pub judged : (is_filed begins_filed : Bool) → Row → List Bool → (on_yes on_no : Option (List Bool)) → Option (List Bool)
judged true longer row path on_yes on_no = None
judged false false row path on_yes on_no = Some path
judged false true (straight t) path on_yes on_no = on_yes
judged false true (branch test left right y n) path on_yes on_no = first_of on_yes on_no

-- From a path on, the first path, beginnings before continuations and yes before no, that is unmatched.
-- n is how many turns more a filed path can have, and one.
unfoldable pub unmatched : Open → ℕ → ℕ → List Bool → Option (List Bool)
unmatched b p zero path = Some path
unmatched b p (suc n) path =
    let on_yes = unmatched b p n (path ++ (true ∷ [])) in
    let on_no = unmatched b p n (path ++ (false ∷ [])) in
    judged (is_filed b p path) (begins_filed b p path) (row_at b.machine₁ (led b.machine₁ (pair_at b p).state₁ path)) path on_yes on_no

pub data Verdict : Type 0 where
  equivalent : Verdict
  lacks : (pair : ℕ) (path : List Bool) → Verdict

abbrev pub unless_lacking : ℕ → Option (List Bool) → Verdict → Verdict
unless_lacking p None later = later
unless_lacking p (Some path) later = lacks p path

-- Of the n pairs from p on, the first that is not covered, and the path that it lacks. No filed path is longer than 16.
abbrev pub verdict_from : Open → (p n : ℕ) → Verdict
verdict_from b p zero = equivalent
verdict_from b p (suc n) = unless_lacking p (unmatched b p 17 []) (verdict_from b (suc p) n)

unfoldable pub verdict : Open → Verdict
verdict b = verdict_from b 0 (length b.pairs)
