-- The registers and facts that were read from words are those at their places.
use Rattle.std.proofs.Common.{◌≡◌, ℕ, zero, suc, ◌+◌, ◌/◌, ◌%◌, ◌<◌, ◌≤◌, Bool, true, false, cond, eqb, ltb, List, [], ◌∷◌, ◌++◌, drop, sym, refl, ap, ◌∙◌, subst, ap₂, add-one, arith}
use Rattle.std.proofs.lemmas.Bool.{cond-true, cond-false, le-ltb, lt-ltb}
use Rattle.expression.specs.declared.item.Item.{Item}
use Rattle.expression.specs.declared.item.Item.TheVariants.{Symbol}
use Rattle.machine.specs.declared.words.Limits.{Limits}
use Rattle.machine.specs.Answer.{good}
use Rattle.machine.proofs.Chains.{good_same}
use Rattle.proposal.specs.Proposal.{Fact, symbols_from}
use Rattle.proposal.specs.Reading.{read, all_stored, read_facts, bits, due, registers_of}
use Rattle.proposal.specs.Cursors.{fact_of}
use Rattle.proposal.proofs.Cuts.{cuts_stored, cuts_fact}
use Rattle.rules.specs.declared.registers.Registers.{Registers}
use Rattle.rules.specs.Expressions.{end_at, expression_at, next_register, registers_at, behind_registers, ReadableRegisters, fact_cut, facts_at, ReadableFacts}

-- n registers from here on are these, and behind them is this place
pub record Stand (ws : List ℕ) (n : ℕ) (rs : Registers) (es : List (List Item)) (q : ℕ) : Type 0 where
  pub values : registers_at ws n rs ≡ es
  pub behind : behind_registers ws n rs ≡ q
  pub readable : ReadableRegisters ws n rs

-- registers of a pair that was filed
abbrev pub filed : (r m p : ℕ) → Registers
filed r m p = record { register = r; mask = m; place = p; shared = 0; offset = 0 }

module _ (refusal : ℕ) (l : Limits) (ws : List ℕ) where
  Reads : (n m : ℕ) → List Bool → Type 0
  Reads n m mask = (r p : ℕ) (es : List (List Item)) (q : ℕ) → r + n ≤ 32 → all_stored refusal l (due mask r) ws p ≡ good (read es q) → Stand ws n (filed r m p) (registers_of mask r es) q

  not_both : {A : Type 0} (b : Bool) → b ≡ false → b ≡ true → A
  not_both b e h = absurd (let z : ◌≡◌ {A = ℕ} 0 1 = cc in omega arith)

  one_more : (b : Bool) (n m : ℕ) → eqb (m % 2) 1 ≡ b → Reads n (m / 2) (bits n (m / 2)) → Reads (suc n) m (b ∷ bits n (m / 2))
  unfolding Reads
  one_more true n m is rest r p es q few e =
      let mask = bits n (m / 2) in
      let cut = cuts_stored ws p refusal l r (due mask (suc r)) es q e in
      let h = rest (suc r) (end_at ws p + 1) (drop 1 es) q (omega arith) cut.rest in
      let next : filed (suc r) (m / 2) (end_at ws p + 1) ≡ next_register ws (filed r m p) = ap₂ (λ a b. filed a (m / 2) b) (sym (add-one r)) (sym (cond-true (eqb (m % 2) 1) (end_at ws p + 1) p is)) in
      record {
        values = ap₂ (λ x y. x ∷ registers_at ws n y) (cond-true (eqb (m % 2) 1) (expression_at ws p) _ is) (sym next)
            ∙ ap (λ x. expression_at ws p ∷ x) h.values ∙ ap (registers_of (true ∷ mask) r) (sym cut.first);
        behind = ap (behind_registers ws n) (sym next) ∙ h.behind;
        readable = (record { small = omega arith; expression = λ _. record { from = cut.from; within = cut.within; expression = cut.expression } }, subst (ReadableRegisters ws n) next h.readable);
      }
  one_more false n m is rest r p es q few e =
      let mask = bits n (m / 2) in
      let h = rest (suc r) p es q (omega arith) e in
      let next : filed (suc r) (m / 2) p ≡ next_register ws (filed r m p) = ap₂ (λ a b. filed a (m / 2) b) (sym (add-one r)) (sym (cond-false (eqb (m % 2) 1) (end_at ws p + 1) p is)) in
      let own : cond (ltb r 0) r (r + 0) ≡ r = cond-false (ltb r 0) r (r + 0) (le-ltb r 0 (omega arith)) ∙ omega arith in
      record {
        values = ap₂ (λ x y. x ∷ registers_at ws n y) (cond-false (eqb (m % 2) 1) (expression_at ws p) _ is ∙ ap (λ k. Symbol k ∷ []) own) (sym next)
            ∙ ap (λ x. (Symbol r ∷ []) ∷ x) h.values;
        behind = ap (behind_registers ws n) (sym next) ∙ h.behind;
        readable = (record { small = omega arith; expression = λ t. not_both (eqb (m % 2) 1) is t }, subst (ReadableRegisters ws n) next h.readable);
      }

  stored_stand : (n m : ℕ) → Reads n m (bits n m)
  unfolding Reads all_stored
  stored_stand zero m r p es q few e = record { values = refl; behind = ap (λ x. x.place) (good_same (read [] p) (read es q) e); readable = tt }
  stored_stand (suc n) m r p es q few e = one_more (eqb (m % 2) 1) n m refl (stored_stand n (m / 2)) r p es q few e

  pub filed_stand : (n m r p : ℕ) (es : List (List Item)) (q : ℕ) → r + n ≤ 32 → all_stored refusal l (due (bits n m) r) ws p ≡ good (read es q) → Stand ws n (filed r m p) (registers_of (bits n m) r es) q
  unfolding Reads
  filed_stand n m = stored_stand n m

-- facts that were read
pub record FactsStand (ws : List ℕ) (n p : ℕ) (fs : List Fact) : Type 0 where
  pub values : facts_at ws n p ≡ fs
  pub readable : ReadableFacts ws n p

pub facts_stand : (l : Limits) (ws : List ℕ) (n p : ℕ) (fs : List Fact) (q : ℕ) → read_facts l n ws p ≡ good (read fs q) → FactsStand ws n p fs
unfolding read_facts
facts_stand l ws zero p fs q e = record { values = ap (λ x. x.value) (good_same (read [] p) (read fs q) e); readable = tt }
facts_stand l ws (suc n) p fs q e =
    let cut = cuts_fact ws p l n fs q e in
    let h = facts_stand l ws n ((fact_cut ws p).end + 1) (drop 1 fs) q cut.rest in
    record {
      values = ap (λ x. fact_of ws p (fact_cut ws p) ∷ x) h.values ∙ sym cut.first;
      readable = (record { from = cut.from; before = cut.before; within = cut.within; left = cut.left; right = cut.right }, h.readable);
    }

-- registers of pair 0
abbrev pub opening : (r p s o : ℕ) → Registers
opening r p s o = record { register = r; mask = 0; place = p; shared = s; offset = o }

pub private_stand : (n r p s o : ℕ) → s ≤ r → r + n + o < 0x10000000 → Stand [] n (opening r p s o) (symbols_from (r + o) n) p
private_stand zero r p s o h small = record { values = refl; behind = refl; readable = tt }
private_stand (suc n) r p s o h small =
    let rest = private_stand n (r + 1) p s o (omega arith) (omega arith) in
    let own = cond-false (ltb r s) r (r + o) (le-ltb r s h) in
    let next : r + 1 + o ≡ suc (r + o) = omega arith in
    record {
      values = ap (λ k. (Symbol k ∷ []) ∷ registers_at [] n (opening (r + 1) p s o)) own ∙ ap (λ x. (Symbol (r + o) ∷ []) ∷ x) (rest.values ∙ ap (λ k. symbols_from k n) next);
      behind = rest.behind;
      readable = (record { small = omega arith; expression = λ e. absurd (let z : ◌≡◌ {A = ℕ} 0 1 = cc in omega arith) }, rest.readable);
    }

pub opening_stand : (d n m r p s o : ℕ) → n ≡ d + m → s ≡ r + d → r + n + o < 0x10000000 → Stand [] n (opening r p s o) (symbols_from r d ++ symbols_from (s + o) m) p
opening_stand zero n m r p s o e f small =
    let a : n ≡ m = omega arith in
    let b : r ≡ s = omega arith in
    subst (λ x. Stand [] n (opening r p s o) x p) (ap₂ (λ x y. symbols_from (x + o) y) b a) (private_stand n r p s o (omega arith) small)
opening_stand (suc d) zero m r p s o e f small = absurd (omega arith)
opening_stand (suc d) (suc n) m r p s o e f small =
    let rest = opening_stand d n m (r + 1) p s o (omega arith) (omega arith) (omega arith) in
    let own = cond-true (ltb r s) r (r + o) (lt-ltb r s (omega arith)) in
    record {
      values = ap (λ k. (Symbol k ∷ []) ∷ registers_at [] n (opening (r + 1) p s o)) own ∙ ap (λ x. (Symbol r ∷ []) ∷ x) (rest.values ∙ ap (λ k. symbols_from k d ++ symbols_from (s + o) m) (add-one r));
      behind = rest.behind;
      readable = (record { small = omega arith; expression = λ e. absurd (let z : ◌≡◌ {A = ℕ} 0 1 = cc in omega arith) }, rest.readable);
    }
