-- The words that bytes make up.
use Rattle.std.proofs.Common.{◌≡◌, ℕ, zero, suc, ◌*◌, map, w32, ◌/◌, ◌%◌, ◌<◌, List, [], ◌∷◌, length, Some, None, sym, refl, ap, ◌∙◌, arith}
use Rattle.std.specs.Int.{from_be_bytes}
use Rattle.std.specs.Simd.{first_chunks}
use Rattle.records.specs.Files.{and_then, word, words_of}

-- four bytes at a time
words_whole : (n : ℕ) (bytes : List ℕ) → length bytes ≡ 4 * n → words_of bytes ≡ Some (map (from_be_bytes w32) (first_chunks 4 n bytes))
words_whole zero [] e = refl
words_whole zero (a ∷ bytes) e = absurd (omega arith)
words_whole (suc n) [] e = absurd (omega arith)
words_whole (suc n) (a ∷ []) e = absurd (omega arith)
words_whole (suc n) (a ∷ (b ∷ [])) e = absurd (omega arith)
words_whole (suc n) (a ∷ (b ∷ (c ∷ []))) e = absurd (omega arith)
words_whole (suc n) (a ∷ (b ∷ (c ∷ (d ∷ bytes)))) e = ap (λ o. and_then o (λ ws. Some (word a b c d ∷ ws))) (words_whole n bytes (omega arith))

pub words_odd : (bytes : List ℕ) → 0 < length bytes % 4 → words_of bytes ≡ None
words_odd [] h = absurd (omega arith)
words_odd (a ∷ []) h = refl
words_odd (a ∷ (b ∷ [])) h = refl
words_odd (a ∷ (b ∷ (c ∷ []))) h = refl
words_odd (a ∷ (b ∷ (c ∷ (d ∷ bytes)))) h = ap (λ o. and_then o (λ ws. Some (word a b c d ∷ ws))) (words_odd bytes (omega arith))

pub words_read : (bytes ws : List ℕ) → length bytes % 4 ≡ 0 → ws ≡ map (from_be_bytes w32) (first_chunks 4 (length bytes / 4) bytes) → words_of bytes ≡ Some ws
words_read bytes ws e is = words_whole (length bytes / 4) bytes (omega arith) ∙ ap Some (sym is)
