-- The rule of the two tables at every entry.
use Rattle.std.specs.Prelude.{◌≡◌, refl, ℕ, zero, suc, ◌<◌, T, ltb, eqb, get_or}
use Rattle.std.proofs.Common.{sym, ap, ◌∙◌, arith, eqb→eq, ltb→lt}
use Rattle.domain.specs.Fips.{byte_times, three_to, xtime}
use Rattle.domain.specs.Tables.{powers, logs}
use Rattle.domain.specs.Every.{every, at}

unfoldable pub power : ℕ → ℕ
power k = get_or powers k 0

unfoldable pub log : ℕ → ℕ
log a = get_or logs a 0

-- each power is hex 03 times the one before
step_test : T (every (λ k. eqb (power (suc k)) (byte_times 3 (power k))) 254)
unfolding power powers byte_times xtime
step_test = tt

start : power 0 ≡ 1
unfolding power powers
start = refl

pub power_rule : (k : ℕ) → k < 255 → power k ≡ three_to k
power_rule zero h = start
power_rule (suc k) h =
    let l : k < 254 = omega arith in
    let m : k < 255 = omega arith in
    eqb→eq (power (suc k)) (byte_times 3 (power k)) (at (λ k. eqb (power (suc k)) (byte_times 3 (power k))) 254 step_test k l)
    ∙ ap (byte_times 3) (power_rule k m)

last : byte_times 3 (power 254) ≡ 1
unfolding power powers byte_times xtime
last = refl

-- and the last of them times hex 03 is the first
pub cycle : three_to 255 ≡ 1
cycle = ap (byte_times 3) (sym (power_rule 254 (omega arith))) ∙ last

back_test : T (every (λ k. eqb (power (log (suc k))) (suc k)) 255)
unfolding power log powers logs
back_test = tt

range_test : T (every (λ k. ltb (log k) 255) 256)
unfolding log logs
range_test = tt

pub log_lt : (a : ℕ) → a < 256 → log a < 255
log_lt a h = ltb→lt (log a) 255 (at (λ k. ltb (log k) 255) 256 range_test a h)

pub log_rule : (a : ℕ) → a < 256 → 0 < a → three_to (log a) ≡ a
log_rule zero h p = absurd (omega arith)
log_rule (suc k) h p =
    let l : k < 255 = omega arith in
    sym (power_rule (log (suc k)) (log_lt (suc k) h))
    ∙ eqb→eq (power (log (suc k))) (suc k) (at (λ k. eqb (power (log (suc k))) (suc k)) 255 back_test k l)

-- the entry that is not used
pub log_zero : (a : ℕ) → a ≡ 0 → log a ≡ 0
unfolding log logs
log_zero a e = ap log e
