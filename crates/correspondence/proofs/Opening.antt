-- Pair 0 means that the shared registers are equal.
use Rattle.std.proofs.Common.{◌≡◌, ℕ, zero, suc, ◌+◌, ◌-◌, ◌<◌, ◌≤◌, cond, ltb, [], ◌∷◌, ◌++◌, length, get_or, sym, refl, ap, ◌∙◌, add-zero, zero-add, arith, length-append}
use native.Mathlib.Decide.{dec_lt}
use Rattle.std.proofs.lemmas.List.{get_or_append_left, get_or-append_right}
use Rattle.std.proofs.lemmas.Bool.{cond_below, cond_above}
use Rattle.domain.specs.Ring.{Ops}
use Rattle.expression.specs.declared.item.Item.TheVariants.{Symbol}
use Rattle.expression.specs.Run.{meaning}
use Rattle.expression.specs.Values.{Bank, in_proposal}
use Rattle.machine.specs.Runs.{Agree}
use Rattle.proposal.specs.Proposal.{opening_pair, symbols_from}
use Rattle.correspondence.proofs.Meaning.{Holds}

length_symbols : (from n : ℕ) → length (symbols_from from n) ≡ n
length_symbols from zero = refl
length_symbols from (suc n) = ap suc (length_symbols (suc from) n)

get_or_symbols : (from n i : ℕ) → i < n → get_or (symbols_from from n) i [] ≡ Symbol (from + i) ∷ []
get_or_symbols from zero i h = absurd (omega arith)
get_or_symbols from (suc n) zero h = rw add-zero
get_or_symbols from (suc n) (suc i) h =
    let e : suc from + i ≡ from + suc i = omega arith in
    get_or_symbols (suc from) n i (omega arith) ∙ ap (λ k. Symbol k ∷ []) e

module _ {V : Type 0} (o : Ops V) (shared count₁ count₂ : ℕ) (fits₁ : shared ≤ count₁) (fits₂ : shared ≤ count₂) (inputs : Bank V) where
  -- What the symbols of pair 0 give.
  given₁ : (symbols : Bank V) (r : ℕ) → r < count₁ → in_proposal o inputs symbols (get_or (symbols_from 0 count₁) r []) ≡ symbols r
  unfolding in_proposal meaning
  given₁ symbols r h = ap (in_proposal o inputs symbols) (get_or_symbols 0 count₁ r h) ∙ ap symbols (zero-add r)

  given_shared : (symbols : Bank V) (r : ℕ) → r < shared → in_proposal o inputs symbols (get_or (symbols_from 0 shared ++ symbols_from count₁ (count₂ - shared)) r []) ≡ symbols r
  unfolding in_proposal meaning
  given_shared symbols r h =
      let e = get_or_append_left (symbols_from 0 shared) (symbols_from count₁ (count₂ - shared)) [] r (omega (arith, length_symbols 0 shared)) in
      ap (in_proposal o inputs symbols) (e ∙ get_or_symbols 0 shared r h) ∙ ap symbols (zero-add r)

  given_private : (symbols : Bank V) (r : ℕ) → shared ≤ r → r < count₂ → in_proposal o inputs symbols (get_or (symbols_from 0 shared ++ symbols_from count₁ (count₂ - shared)) r []) ≡ symbols (count₁ + (r - shared))
  unfolding in_proposal meaning
  given_private symbols r from h =
      let e = get_or-append_right (symbols_from 0 shared) (symbols_from count₁ (count₂ - shared)) shared r [] (length_symbols 0 shared) from in
      ap (in_proposal o inputs symbols) (e ∙ get_or_symbols count₁ (count₂ - shared) (r - shared) (omega arith))

  length₂ : length (symbols_from 0 shared ++ symbols_from count₁ (count₂ - shared)) ≡ count₂
  length₂ = length-append (symbols_from 0 shared) (symbols_from count₁ (count₂ - shared)) ∙ omega (arith, length_symbols 0 shared, length_symbols count₁ (count₂ - shared))

  pub opening_agrees : (one two : Bank V) → Holds o (opening_pair shared count₁ count₂) inputs one two → Agree o shared one two
  opening_agrees one two h r below =
      let f = h.1.first r (omega (arith, length_symbols 0 count₁)) in
      let g = h.1.second r (omega (arith, length₂)) in
      f ∙ given₁ h.0 r (omega arith) ∙ sym (g ∙ given_shared h.0 r below)

  pub opening_holds : (one two : Bank V) → Agree o shared one two → Holds o (opening_pair shared count₁ count₂) inputs one two
  opening_holds one two h = (
    symbols,
    record {
      first = λ r within. sym (given₁ symbols r (omega (arith, length_symbols 0 count₁)) ∙ at_first r (omega (arith, length_symbols 0 count₁)));
      second = λ r within. at_second r (omega (arith, length₂)) (dec_lt r shared);
      facts = tt;
    },
  )
    where
      symbols : Bank V
      symbols n = cond (ltb n count₁) (one n) (two (n - count₁ + shared))

      at_first : (r : ℕ) → r < count₁ → symbols r ≡ one r
      at_first r h = sym (cond_below r count₁ (one r) (two (r - count₁ + shared)) h)

      at_second : (r : ℕ) → r < count₂ → Dec (r < shared) → two r ≡ in_proposal o inputs symbols (get_or (symbols_from 0 shared ++ symbols_from count₁ (count₂ - shared)) r [])
      at_second r within (yes below) = sym (given_shared symbols r below ∙ at_first r (omega arith) ∙ h r below)
      at_second r within (no apart) =
          let n = count₁ + (r - shared) in
          let e : r ≡ n - count₁ + shared = omega arith in
          cond_above n count₁ (one n) (two (n - count₁ + shared)) (two r) (omega arith) (ap two e) ∙ sym (given_private symbols r (omega arith) within)
