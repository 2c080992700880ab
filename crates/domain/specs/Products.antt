-- Products of bytes through logarithms.
use Rattle.std.specs.Prelude.{◌≡◌, ℕ, zero, suc, ◌+◌, ◌*◌, ◌/◌, ◌%◌, ◌<◌}
use Rattle.std.proofs.Common.{sym, ap, subst, ◌∙◌, zero-add, suc-add, add_comm, add_assoc, add-zero, zero-mul, arith, lit<}
use Rattle.std.proofs.Math.Nat.{mod-add-div'}
use Rattle.domain.specs.Fips.{byte_times, three_to}
use Rattle.domain.specs.Shifts.{byte_times_lt, byte_times_zero, zero_byte_times, byte_times_one, one_byte_times, three_byte_times, triple, triple_byte_times}
use Rattle.domain.specs.Rule.{log, log_rule, cycle}

pub three_to_lt : (k : ℕ) → three_to k < 256
three_to_lt zero = lit< tt
three_to_lt (suc k) = byte_times_lt 3 (three_to k) (lit< tt)

-- exponents add up
pub three_to_byte_times : (i j : ℕ) → byte_times (three_to i) (three_to j) ≡ three_to (i + j)
three_to_byte_times zero j = one_byte_times (three_to j) (three_to_lt j) ∙ ap three_to (sym (zero-add j))
three_to_byte_times (suc i) j =
    ap (λ w. byte_times w (three_to j)) (three_byte_times (three_to i) (three_to_lt i)) ∙ triple_byte_times (three_to i) (three_to j) (three_to_lt i)
    ∙ ap triple (three_to_byte_times i j) ∙ sym (three_byte_times (three_to (i + j)) (three_to_lt (i + j))) ∙ ap three_to (sym (suc-add i j))

-- and count modulo 255
three_to_turn : (r q : ℕ) → three_to (r + q * 255) ≡ three_to r
three_to_turn r zero = ap (λ n. three_to (r + n)) (zero-mul 255) ∙ ap three_to (add-zero r)
three_to_turn r (suc q) =
    let e : r + suc q * 255 ≡ (r + q * 255) + 255 = omega arith in
    ap three_to e ∙ sym (three_to_byte_times (r + q * 255) 255) ∙ ap (byte_times (three_to (r + q * 255))) cycle ∙ byte_times_one (three_to (r + q * 255)) ∙ three_to_turn r q

pub three_to_mod : (n : ℕ) → three_to (n % 255) ≡ three_to n
three_to_mod n = sym (three_to_turn (n % 255) (n / 255)) ∙ ap three_to (mod-add-div' n 255)

-- a number below 256 is 0 or a power of hex 03
data Shown : ℕ → Type 0 where
  none : Shown 0
  some : (k : ℕ) → Shown (three_to k)

shown : (a : ℕ) → a < 256 → Shown a
shown zero h = none
shown (suc a) h = subst Shown (log_rule (suc a) h (omega arith)) (some (log (suc a)))

comm : (a b : ℕ) → Shown a → Shown b → byte_times a b ≡ byte_times b a
comm a b (none) sb = zero_byte_times b ∙ sym (byte_times_zero b)
comm a b (some i) (none) = byte_times_zero (three_to i) ∙ sym (zero_byte_times (three_to i))
comm a b (some i) (some j) = three_to_byte_times i j ∙ ap three_to (add_comm i j) ∙ sym (three_to_byte_times j i)

assoc : (a b c : ℕ) → Shown a → Shown b → Shown c → byte_times (byte_times a b) c ≡ byte_times a (byte_times b c)
assoc a b c (none) sb sc = ap (λ w. byte_times w c) (zero_byte_times b) ∙ zero_byte_times c ∙ sym (zero_byte_times (byte_times b c))
assoc a b c (some i) (none) sc =
    ap (λ w. byte_times w c) (byte_times_zero (three_to i)) ∙ zero_byte_times c ∙ sym (byte_times_zero (three_to i)) ∙ ap (byte_times (three_to i)) (sym (zero_byte_times c))
assoc a b c (some i) (some j) (none) =
    byte_times_zero (byte_times (three_to i) (three_to j)) ∙ sym (byte_times_zero (three_to i)) ∙ ap (byte_times (three_to i)) (sym (byte_times_zero (three_to j)))
assoc a b c (some i) (some j) (some k) =
    ap (λ w. byte_times w (three_to k)) (three_to_byte_times i j) ∙ three_to_byte_times (i + j) k ∙ ap three_to (add_assoc i j k)
    ∙ sym (three_to_byte_times i (j + k)) ∙ ap (byte_times (three_to i)) (sym (three_to_byte_times j k))

pub byte_times_comm : (a b : ℕ) → a < 256 → b < 256 → byte_times a b ≡ byte_times b a
byte_times_comm a b p q = comm a b (shown a p) (shown b q)

pub byte_times_assoc : (a b c : ℕ) → a < 256 → b < 256 → c < 256 → byte_times (byte_times a b) c ≡ byte_times a (byte_times b c)
byte_times_assoc a b c p q r = assoc a b c (shown a p) (shown b q) (shown c r)

-- what the code computes where neither is 0
pub logs_byte_times : (a b i j : ℕ) → three_to i ≡ a → three_to j ≡ b → three_to ((i + j) % 255) ≡ byte_times a b
logs_byte_times a b i j p q = three_to_mod (i + j) ∙ sym (three_to_byte_times i j) ∙ ap (λ w. byte_times w (three_to j)) p ∙ ap (byte_times a) q
