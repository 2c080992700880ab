-- The product by shifts is linear in both factors.
use Rattle.std.specs.Prelude.{◌≡◌, refl, true, false, cond, ℕ, zero, suc, ◌+◌, ◌*◌, ◌/◌, ◌%◌, ◌<◌, T, eqb, ltb}
use Rattle.std.proofs.Common.{sym, ap, ◌∙◌, add-zero, arith, ltb→lt, eqb→eq, lit<}
use Rattle.std.specs.Int.Bits.{bit_xor, xor_assoc, xor_self, xor_zero_l, xor_zero_r}
use Rattle.std.proofs.lemmas.Nat.{xor_comm, xor_shr, xor_mod, xor_lt, xor_block}
use Rattle.domain.specs.Fips.{byte_times, shifts, xtime, picked}
use Rattle.domain.specs.Every.{every, at}

xor_left_comm : (a b c : ℕ) → bit_xor a (bit_xor b c) ≡ bit_xor b (bit_xor a c)
xor_left_comm a b c = sym (xor_assoc a b c) ∙ ap (λ w. bit_xor w c) (xor_comm a b) ∙ xor_assoc b a c

xor_swap : (a b c d : ℕ) → bit_xor (bit_xor a b) (bit_xor c d) ≡ bit_xor (bit_xor a c) (bit_xor b d)
xor_swap a b c d = xor_assoc a b (bit_xor c d) ∙ ap (bit_xor a) (xor_left_comm b c d) ∙ sym (xor_assoc a c (bit_xor b d))

-- in the bit
picked_bit : (a i j : ℕ) → i < 2 → j < 2 → picked a (bit_xor i j) ≡ bit_xor (picked a i) (picked a j)
picked_bit a zero zero p q = refl
picked_bit a zero (suc zero) p q = sym (xor_zero_l a)
picked_bit a (suc zero) zero p q = sym (xor_zero_r a)
picked_bit a (suc zero) (suc zero) p q = sym (xor_self a)
picked_bit a (suc (suc i)) j p q = absurd (omega arith)
picked_bit a zero (suc (suc j)) p q = absurd (omega arith)
picked_bit a (suc zero) (suc (suc j)) p q = absurd (omega arith)

-- in the number
picked_xor : (a b i : ℕ) → picked (bit_xor a b) i ≡ bit_xor (picked a i) (picked b i)
picked_xor a b i =
    elim (eqb i 1) as (λ t. cond t (bit_xor a b) 0 ≡ bit_xor (cond t a 0) (cond t b 0)) [ true ↦ refl | false ↦ refl ]

picked_lt : (a i : ℕ) → a < 256 → picked a i < 256
picked_lt a i h = elim (eqb i 1) as (λ t. cond t a 0 < 256) [ true ↦ h | false ↦ lit< tt ]

xtime_zero : xtime 0 ≡ 0
unfolding xtime
xtime_zero = refl

picked_xtime : (a i : ℕ) → xtime (picked a i) ≡ picked (xtime a) i
picked_xtime a i = elim (eqb i 1) as (λ t. xtime (cond t a 0) ≡ cond t (xtime a) 0) [ true ↦ refl | false ↦ xtime_zero ]

xtime_test : T (every (λ a. ltb (xtime a) 256) 256)
unfolding xtime
xtime_test = tt

xtime_lt : (a : ℕ) → a < 256 → xtime a < 256
xtime_lt a h = ltb→lt (xtime a) 256 (at (λ a. ltb (xtime a) 256) 256 xtime_test a h)

xtime_xor : (a b : ℕ) → a < 256 → b < 256 → xtime (bit_xor a b) ≡ bit_xor (xtime a) (xtime b)
unfolding xtime
xtime_xor a b p q =
    let shifted : bit_xor a b * 2 ≡ bit_xor (a * 2) (b * 2) =
    sym (ap (λ w. bit_xor w (b * 2)) (sym (add-zero (a * 2))) ∙ ap (bit_xor (a * 2 + 0)) (sym (add-zero (b * 2)))
    ∙ xor_block 1 a b 0 0 (lit< tt) (lit< tt) ∙ add-zero (bit_xor a b * 2)) in
    let reduced : picked 283 (bit_xor a b / 128) ≡ bit_xor (picked 283 (a / 128)) (picked 283 (b / 128)) =
    ap (picked 283) (xor_shr a b 7) ∙ picked_bit 283 (a / 128) (b / 128) (omega arith) (omega arith) in
    ap (λ w. bit_xor w (picked 283 (bit_xor a b / 128))) shifted ∙ ap (bit_xor (bit_xor (a * 2) (b * 2))) reduced
    ∙ xor_swap (a * 2) (b * 2) (picked 283 (a / 128)) (picked 283 (b / 128))

-- linear in the second factor
shifts_right : (k a b c : ℕ) → shifts k a (bit_xor b c) ≡ bit_xor (shifts k a b) (shifts k a c)
shifts_right zero a b c = refl
shifts_right (suc k) a b c =
    let low : picked a (bit_xor b c % 2) ≡ bit_xor (picked a (b % 2)) (picked a (c % 2)) =
    ap (picked a) (xor_mod b c 1) ∙ picked_bit a (b % 2) (c % 2) (omega arith) (omega arith) in
    let high : shifts k (xtime a) (bit_xor b c / 2) ≡ bit_xor (shifts k (xtime a) (b / 2)) (shifts k (xtime a) (c / 2)) =
    ap (shifts k (xtime a)) (xor_shr b c 1) ∙ shifts_right k (xtime a) (b / 2) (c / 2) in
    ap (λ w. bit_xor w (shifts k (xtime a) (bit_xor b c / 2))) low
    ∙ ap (bit_xor (bit_xor (picked a (b % 2)) (picked a (c % 2)))) high
    ∙ xor_swap (picked a (b % 2)) (picked a (c % 2)) (shifts k (xtime a) (b / 2)) (shifts k (xtime a) (c / 2))

shifts_lt : (k a b : ℕ) → a < 256 → shifts k a b < 256
shifts_lt zero a b h = lit< tt
shifts_lt (suc k) a b h =
    xor_lt 8 (picked a (b % 2)) (shifts k (xtime a) (b / 2)) (picked_lt a (b % 2) h) (shifts_lt k (xtime a) (b / 2) (xtime_lt a h))

-- and in the first
shifts_left : (k a b c : ℕ) → a < 256 → b < 256 → shifts k (bit_xor a b) c ≡ bit_xor (shifts k a c) (shifts k b c)
shifts_left zero a b c p q = refl
shifts_left (suc k) a b c p q =
    ap (λ w. bit_xor w (shifts k (xtime (bit_xor a b)) (c / 2))) (picked_xor a b (c % 2))
    ∙ ap (λ w. bit_xor (bit_xor (picked a (c % 2)) (picked b (c % 2))) (shifts k w (c / 2))) (xtime_xor a b p q)
    ∙ ap (bit_xor (bit_xor (picked a (c % 2)) (picked b (c % 2)))) (shifts_left k (xtime a) (xtime b) (c / 2) (xtime_lt a p) (xtime_lt b q))
    ∙ xor_swap (picked a (c % 2)) (picked b (c % 2)) (shifts k (xtime a) (c / 2)) (shifts k (xtime b) (c / 2))

shifts_xtime : (k a b : ℕ) → a < 256 → shifts k (xtime a) b ≡ xtime (shifts k a b)
shifts_xtime zero a b h = sym xtime_zero
shifts_xtime (suc k) a b h =
    ap (bit_xor (picked (xtime a) (b % 2))) (shifts_xtime k (xtime a) (b / 2) (xtime_lt a h))
    ∙ ap (λ w. bit_xor w (xtime (shifts k (xtime a) (b / 2)))) (sym (picked_xtime a (b % 2)))
    ∙ sym (xtime_xor (picked a (b % 2)) (shifts k (xtime a) (b / 2)) (picked_lt a (b % 2) h) (shifts_lt k (xtime a) (b / 2) (xtime_lt a h)))

pub byte_times_lt : (a b : ℕ) → a < 256 → byte_times a b < 256
unfolding byte_times
byte_times_lt a b h = shifts_lt 8 a b h

pub byte_times_xor : (a b c : ℕ) → byte_times a (bit_xor b c) ≡ bit_xor (byte_times a b) (byte_times a c)
unfolding byte_times
byte_times_xor a b c = shifts_right 8 a b c

pub byte_times_zero : (a : ℕ) → byte_times a 0 ≡ 0
byte_times_zero a = byte_times_xor a 0 0 ∙ xor_self (byte_times a 0)

pub byte_times_one : (a : ℕ) → byte_times a 1 ≡ a
unfolding byte_times
byte_times_one a = xor_zero_r a

-- times hex 03
abbrev pub triple : ℕ → ℕ
triple a = bit_xor a (xtime a)

pub triple_byte_times : (a b : ℕ) → a < 256 → byte_times (triple a) b ≡ triple (byte_times a b)
unfolding byte_times
triple_byte_times a b h = shifts_left 8 a (xtime a) b h (xtime_lt a h) ∙ ap (bit_xor (shifts 8 a b)) (shifts_xtime 8 a b h)

small_test : T (every (λ a. eqb (byte_times 1 a) a) 256)
unfolding xtime byte_times
small_test = tt

pub one_byte_times : (a : ℕ) → a < 256 → byte_times 1 a ≡ a
one_byte_times a h = eqb→eq (byte_times 1 a) a (at (λ a. eqb (byte_times 1 a) a) 256 small_test a h)

triple_one : triple 1 ≡ 3
unfolding xtime
triple_one = refl

pub three_byte_times : (a : ℕ) → a < 256 → byte_times 3 a ≡ triple a
three_byte_times a h = ap (λ w. byte_times w a) (sym triple_one) ∙ triple_byte_times 1 a (lit< tt) ∙ ap triple (one_byte_times a h)

zero_shifts : (k b : ℕ) → shifts k 0 b ≡ 0
zero_shifts zero b = refl
zero_shifts (suc k) b =
    ap (λ w. bit_xor w (shifts k (xtime 0) (b / 2))) (elim (eqb (b % 2) 1) as (λ t. ◌≡◌ {A = ℕ} (cond t 0 0) 0) [ true ↦ refl | false ↦ refl ])
    ∙ xor_zero_l (shifts k (xtime 0) (b / 2)) ∙ ap (λ w. shifts k w (b / 2)) xtime_zero ∙ zero_shifts k (b / 2)

pub zero_byte_times : (b : ℕ) → byte_times 0 b ≡ 0
unfolding byte_times
zero_byte_times b = zero_shifts 8 b
