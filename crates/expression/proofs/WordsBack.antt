-- An item and its word determine each other.
use Rattle.std.proofs.Common.{◌≡◌, ℕ, zero, suc, ◌+◌, ◌*◌, ◌/◌, ◌%◌, ◌<◌, refl, ◌∙◌, arith}
use Rattle.expression.specs.declared.item.Item.{Item}
use Rattle.expression.specs.declared.item.Item.TheVariants.{Constant, Register, Input, Symbol, Sum, Difference, Product, Negation}
use Rattle.expression.specs.Words.{kind, number, item, item_of, operation, item_word, FitsWord, WordsReadBack}

by_kind : (P : ℕ → Type 0) (k : ℕ) → 0 < k → k < 6 → P 1 → P 2 → P 3 → P 4 → P 5 → P k
by_kind P zero l h a b c d e = absurd (omega arith)
by_kind P (suc zero) l h a b c d e = a
by_kind P (suc (suc zero)) l h a b c d e = b
by_kind P (suc (suc (suc zero))) l h a b c d e = c
by_kind P (suc (suc (suc (suc zero)))) l h a b c d e = d
by_kind P (suc (suc (suc (suc (suc zero))))) l h a b c d e = e
by_kind P (suc (suc (suc (suc (suc (suc k)))))) l h a b c d e = absurd (omega arith)

operation_back : (n : ℕ) → n < 4 → item_word (operation n) ≡ 0x50000000 + n
operation_back zero h = refl
operation_back (suc zero) h = refl
operation_back (suc (suc zero)) h = refl
operation_back (suc (suc (suc zero))) h = refl
operation_back (suc (suc (suc (suc n)))) h = absurd (omega arith)

pub word_back : (w : ℕ) → 0 < kind w → kind w < 6 → (kind w ≡ 5 → number w < 4) → item_word (item_of w) ≡ w
unfolding item_of
word_back w l h op =
    let P : ℕ → Type 0 = λ k. w / 268435456 ≡ k → (k ≡ 5 → w % 268435456 < 4) → item_word (item k (w % 268435456)) ≡ w in
    by_kind P (w / 268435456) l h
    (λ e b. omega arith)
    (λ e b. omega arith)
    (λ e b. omega arith)
    (λ e b. omega arith)
    (λ e b. operation_back (w % 268435456) (b refl) ∙ omega arith)
    refl op

parts : (k n : ℕ) → n < 0x10000000 → ((k * 0x10000000 + n) / 0x10000000 ≡ k) × ((k * 0x10000000 + n) % 0x10000000 ≡ n)
parts k n h = (omega arith, omega arith)

module _ (n : ℕ) (h : n < 0x10000000) where
  is_kind : (k w : ℕ) → w ≡ k * 0x10000000 + n → item (w / 0x10000000) (w % 0x10000000) ≡ item k n
  is_kind k w e = let p = parts k n h in rw (e, p.0, p.1)

pub item_back : (i : Item) → FitsWord i → item_of (item_word i) ≡ i
unfolding item_of
item_back (Constant n) h = is_kind n h 1 (0x10000000 + n) refl
item_back (Register n) h = is_kind n h 2 (0x20000000 + n) refl
item_back (Input n) h = is_kind n h 3 (0x30000000 + n) refl
item_back (Symbol n) h = is_kind n h 4 (0x40000000 + n) refl
item_back Sum h = refl
item_back Difference h = refl
item_back Product h = refl
item_back Negation h = refl

pub read_back : WordsReadBack
read_back = record { words = word_back; items = item_back }
