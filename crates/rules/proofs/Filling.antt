-- A group of slots that gets the forms of registers, one by one.
use Rattle.std.proofs.Common.{◌≡◌, ℕ, zero, suc, ◌+◌, ◌-◌, ◌<◌, ◌≤◌, List, [], ◌∷◌, ◌++◌, get_or, Some, None, Option, sym, refl, ap, ◌∙◌, subst, inl, inr, append_assoc, append-nil, arith}
use Rattle.domain.specs.Ring.{Ops}
use Rattle.expression.specs.Run.{and_then}
use Rattle.forms.specs.Forms.{Form, symbol_form}
use Rattle.workspace.specs.declared.group.Group.{Group}
use Rattle.walk.specs.Seen.{kept_seen, KeptBut}
use Rattle.walk.proofs.Waiting.{kept_frame}
use Rattle.rules.specs.declared.registers.Registers.{Registers}
use Rattle.correspondence.specs.Judgement.{form_in_proposal, formed}
use Rattle.rules.specs.Seen.{KeptButGroup}
use Rattle.rules.specs.Expressions.{register_at, next_register, registers_at, behind_registers, ReadableRegister, ReadableRegisters}

-- one register more
pub one_less : (i n : ℕ) → i < n → n - i ≡ suc (n - (i + 1))
one_less i n h = omega arith

pub none_left : (i n : ℕ) → n ≤ i → n - i ≡ 0
none_left i n h = omega arith

pub readable_more : (ws : List ℕ) (rs : Registers) (i n : ℕ) → i < n → ReadableRegisters ws (n - i) rs → ReadableRegister ws rs × ReadableRegisters ws (n - (i + 1)) (next_register ws rs)
readable_more ws rs i n h readable = subst (λ k. ReadableRegisters ws k rs) (one_less i n h) readable

kept_more : {X : Type 0} (fs : List (List X)) (first n : ℕ) → kept_seen fs first (suc n) ≡ kept_seen fs first n ++ (get_or fs (first + n) [] ∷ [])
kept_more fs first zero = ap (λ k. get_or fs k [] ∷ []) (omega arith)
kept_more fs first (suc n) = ap (λ x. get_or fs first [] ∷ x) (kept_more fs (suc first) n ∙ ap (λ k. kept_seen fs (suc first) n ++ (get_or fs k [] ∷ [])) (omega arith))

-- forms behind those that are there
abbrev pub joined : {X : Type 0} → List X → Option (List X) → Option (List X)
joined xs m = and_then m (λ ys. Some (xs ++ ys))

pub joined_one : {X : Type 0} (xs : List X) (x : X) (m : Option (List X)) → joined (xs ++ (x ∷ [])) m ≡ joined xs (and_then m (λ ys. Some (x ∷ ys)))
joined_one xs x None = refl
joined_one xs x (Some ys) = ap Some (append_assoc xs (x ∷ []) ys)

pub none_before : {X : Type 0} (m : Option (List X)) → joined [] m ≡ m
none_before None = refl
none_before (Some x) = refl

-- what is left to do, behind what is done, is the whole
pub record Filling {D : Type 0} (o : Ops D) (ws : List ℕ) (from : Registers) (g : Group) (base : List (Form D)) (i : ℕ) (rs : Registers) (fs : List (Form D)) : Type 0 where
  pub values : joined (kept_seen fs g.first i) (formed o (symbol_form o) (registers_at ws (g.count - i) rs)) ≡ formed o (symbol_form o) (registers_at ws g.count from)
  pub behind : behind_registers ws (g.count - i) rs ≡ behind_registers ws g.count from
  pub readable : ReadableRegisters ws (g.count - i) rs
  pub kept : KeptButGroup g base fs

module _ {D : Type 0} (o : Ops D) (ws : List ℕ) (from : Registers) (g : Group) (base : List (Form D)) where
  pub fill_start : ReadableRegisters ws g.count from → Filling o ws from g base 0 from base
  fill_start readable =
      let z : g.count ≡ g.count - 0 = omega arith in
      record {
        values = none_before _ ∙ ap (λ n. formed o (symbol_form o) (registers_at ws n from)) (sym z);
        behind = ap (λ n. behind_registers ws n from) (sym z);
        readable = subst (λ n. ReadableRegisters ws n from) z readable;
        kept = λ i a b. refl;
      }

  module _ (i : ℕ) (rs : Registers) (fs : List (Form D)) (inv : Filling o ws from g base i rs fs) where
    left_more : (lt : i < g.count) → formed o (symbol_form o) (registers_at ws (g.count - i) rs) ≡ and_then (form_in_proposal o (symbol_form o) (register_at ws rs)) (λ f. and_then (formed o (symbol_form o) (registers_at ws (g.count - (i + 1)) (next_register ws rs))) (λ fs. Some (f ∷ fs)))
    left_more lt = ap (λ n. formed o (symbol_form o) (registers_at ws n rs)) (one_less i g.count lt)

    pub fill_more : (next : Registers) (fs' : List (Form D)) → i < g.count → Some (get_or fs' (g.first + i) []) ≡ form_in_proposal o (symbol_form o) (register_at ws rs) → next ≡ next_register ws rs → KeptBut (g.first + i) fs fs' → Filling o ws from g base (i + 1) next fs'
    fill_more next fs' lt value is kept =
        let f = get_or fs' (g.first + i) [] in
        let more : i + 1 ≡ suc i = omega arith in
        let rest = formed o (symbol_form o) (registers_at ws (g.count - (i + 1)) (next_register ws rs)) in
        let before : kept_seen fs' g.first i ≡ kept_seen fs g.first i = kept_frame fs fs' g.first i (λ j a b. kept j (omega arith) (omega arith)) in
        record {
          values =
              ap (λ x. joined (kept_seen fs' g.first (i + 1)) (formed o (symbol_form o) (registers_at ws (g.count - (i + 1)) x))) is
              ∙ ap (λ x. joined x rest) (ap (kept_seen fs' g.first) more ∙ kept_more fs' g.first i ∙ ap (λ x. x ++ (f ∷ [])) before)
              ∙ joined_one (kept_seen fs g.first i) f rest
              ∙ ap (λ m. joined (kept_seen fs g.first i) (and_then m (λ v. and_then rest (λ vs. Some (v ∷ vs))))) value
              ∙ ap (joined (kept_seen fs g.first i)) (sym (left_more lt))
              ∙ inv.values;
          behind = ap (behind_registers ws (g.count - (i + 1))) is ∙ ap (λ n. behind_registers ws n rs) (sym (one_less i g.count lt)) ∙ inv.behind;
          readable = subst (ReadableRegisters ws (g.count - (i + 1))) (sym is) (readable_more ws rs i g.count lt inv.readable).1;
          kept = λ j a b. kept j a (elim b [
            | inl h ↦ omega arith
            | inr h ↦ omega arith
          ]) ∙ inv.kept j a b;
        }

    pub fill_over : i < g.count → None ≡ form_in_proposal o (symbol_form o) (register_at ws rs) → None ≡ formed o (symbol_form o) (registers_at ws g.count from)
    fill_over lt over =
        ap (λ m. joined (kept_seen fs g.first i) (and_then m (λ v. and_then (formed o (symbol_form o) (registers_at ws (g.count - (i + 1)) (next_register ws rs))) (λ vs. Some (v ∷ vs))))) over
        ∙ ap (joined (kept_seen fs g.first i)) (sym (left_more lt))
        ∙ inv.values

    pub fill_end : g.count ≤ i → i ≤ g.count → (Some (kept_seen fs g.first g.count) ≡ formed o (symbol_form o) (registers_at ws g.count from)) × (rs.place ≡ behind_registers ws g.count from)
    fill_end h k =
        let all : g.count ≡ i = omega arith in
        let z = none_left i g.count h in (
          ap (λ n. Some (kept_seen fs g.first n)) all
              ∙ ap Some (sym (append-nil (kept_seen fs g.first i)))
              ∙ ap (λ n. joined (kept_seen fs g.first i) (formed o (symbol_form o) (registers_at ws n rs))) (sym z) ∙ inv.values,
          ap (λ n. behind_registers ws n rs) (sym z) ∙ inv.behind,
        )
