-- The substitution of a claim is read as registers that all have expressions.
use Rattle.std.proofs.Common.{◌≡◌, ℕ, zero, suc, ◌+◌, ◌-◌, ◌/◌, ◌%◌, ◌^◌, ◌≤◌, Bool, true, List, [], ◌∷◌, drop, sym, refl, ap, ◌∙◌, subst, ap₂, pow-suc, arith, pow_pos}
use Rattle.std.proofs.lemmas.Bool.{eq-eqb}
use Rattle.expression.specs.declared.item.Item.{Item}
use Rattle.machine.specs.declared.words.Limits.{Limits}
use Rattle.machine.specs.Answer.{good}
use Rattle.machine.proofs.Chains.{good_same}
use Rattle.proposal.specs.Reading.{read, all_stored, bits, due, count_from, registers_of}
use Rattle.proposal.proofs.Cuts.{cuts_stored}
use Rattle.rules.specs.Kept.{substitution_registers}
use Rattle.rules.specs.Expressions.{end_at, expression_at}
use Rattle.rules.proofs.Cutting.{Stand, filed_stand}

ones : ℕ → List Bool
ones zero = []
ones (suc n) = true ∷ ones n

all_ones : (k n : ℕ) → n ≤ k → bits n (2 ^ k - 1) ≡ ones n
unfolding ones
all_ones k zero h = refl
all_ones zero (suc n) h = absurd (omega arith)
all_ones (suc k) (suc n) h =
    let low : (2 ^ suc k - 1) % 2 ≡ 1 = omega (arith, pow-suc 2 k, pow_pos k) in
    let high : (2 ^ suc k - 1) / 2 ≡ 2 ^ k - 1 = omega (arith, pow-suc 2 k, pow_pos k) in
    ap₂ ◌∷◌ (eq-eqb ((2 ^ suc k - 1) % 2) 1 low) (ap (bits n) high ∙ all_ones k n (omega arith))

due_ones : (n r : ℕ) → due (ones n) r ≡ count_from r n
unfolding ones
due_ones zero r = refl
due_ones (suc n) r = ap (λ x. r ∷ x) (due_ones n (suc r))

-- each is the one that was read for it
registers_ones : (refusal : ℕ) (l : Limits) (ws : List ℕ) (n r p : ℕ) (es : List (List Item)) (q : ℕ) → all_stored refusal l (count_from r n) ws p ≡ good (read es q) → registers_of (ones n) r es ≡ es
unfolding ones all_stored
registers_ones refusal l ws zero r p es q e = ap (λ x. x.value) (good_same (read [] p) (read es q) e)
registers_ones refusal l ws (suc n) r p es q e =
    let cut = cuts_stored ws p refusal l r (count_from (suc r) n) es q e in
    ap (registers_of (true ∷ ones n) r) cut.first ∙ ap (λ x. expression_at ws p ∷ x) (registers_ones refusal l ws n (suc r) (end_at ws p + 1) (drop 1 es) q cut.rest) ∙ sym cut.first

pub substitution_stand : (l : Limits) (ws : List ℕ) (n : ℕ) (es : List (List Item)) (q : ℕ) → n ≤ 32 → all_stored 7 l (count_from 0 n) ws 3 ≡ good (read es q) → Stand ws n substitution_registers es q
substitution_stand l ws n es q few e =
    let mask = all_ones 32 n few in
    let stand = filed_stand 7 l ws n 0xffffffff 0 3 es q (omega arith) (ap (λ m. all_stored 7 l (due m 0) ws 3) mask ∙ ap (λ d. all_stored 7 l d ws 3) (due_ones n 0) ∙ e) in
    subst (λ x. Stand ws n substitution_registers x q) (ap (λ m. registers_of m 0 es) mask ∙ registers_ones 7 l ws n 0 3 es q e) stand
