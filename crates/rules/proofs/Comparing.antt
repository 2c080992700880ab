-- Registers of the end pair, compared with those reached one by one.
use Rattle.std.proofs.Common.{◌≡◌, ℕ, suc, ◌+◌, ◌-◌, ◌<◌, ◌≤◌, Bool, true, false, List, [], ◌∷◌, get_or, Some, None, Option, sym, refl, ap, ◌∙◌, subst, ap₂, add-one, arith}
use Rattle.domain.specs.Ring.{Ops}
use Rattle.expression.specs.declared.item.Item.{Item}
use Rattle.forms.specs.Forms.{Form, same_form}
use Rattle.machine.specs.Answer.{Answer, good, refused, ◌then◌, check}
use Rattle.workspace.specs.declared.group.Group.{Group}
use Rattle.workspace.specs.declared.leaves.Symbols.TheVariants.{Kept}
use Rattle.walk.specs.Walk.{nth, fits}
use Rattle.walk.specs.Seen.{kept_seen, KeptBut}
use Rattle.walk.proofs.WorkedOut.{nth_kept}
use Rattle.rules.specs.declared.registers.Registers.{Registers}
use Rattle.correspondence.specs.Judgement.{form_in_proposal, is_form, same_registers}
use Rattle.rules.specs.Seen.{symbols_seen}
use Rattle.rules.specs.Expressions.{register_at, next_register, registers_at, behind_registers, ReadableRegisters}
use Rattle.rules.proofs.Filling.{one_less, none_left, readable_more}
use Rattle.rules.proofs.FactSides.{symbols_frame}

module _ {D : Type 0} (o : Ops D) (which : ℕ) (c : ℕ → Option (Form D)) where
  same_none : (r : ℕ) (reached : List (Form D)) → same_registers o which c r [] reached ≡ good tt
  unfolding same_registers
  same_none r reached = refl

  same_more : (r : ℕ) (e : List Item) (es : List (List Item)) (reached : List (Form D)) → same_registers o which c r (e ∷ es) reached ≡ (fits (form_in_proposal o c e) then λ f. check (is_form o f (nth reached r)) 17 which r then λ _. same_registers o which c (suc r) es reached)
  unfolding same_registers
  same_more r e es reached = refl

-- what is left to compare says what the whole says
pub record Comparing {D : Type 0} (o : Ops D) (symbols : Group) (ws : List ℕ) (from : Registers) (reached : Group) (which : ℕ) (base : List (Form D)) (i : ℕ) (rs : Registers) (fs : List (Form D)) : Type 0 where
  pub same : same_registers o which (nth (kept_seen base symbols.first symbols.count)) i (registers_at ws (reached.count - i) rs) (kept_seen base reached.first reached.count) ≡ same_registers o which (nth (kept_seen base symbols.first symbols.count)) 0 (registers_at ws reached.count from) (kept_seen base reached.first reached.count)
  pub behind : behind_registers ws (reached.count - i) rs ≡ behind_registers ws reached.count from
  pub readable : ReadableRegisters ws (reached.count - i) rs
  pub kept : KeptBut 152 base fs

module _ {D : Type 0} (o : Ops D) (symbols : Group) (ws : List ℕ) (from : Registers) (reached : Group) (which : ℕ) (base : List (Form D)) where
  c₀ : ℕ → Option (Form D)
  c₀ = nth (kept_seen base symbols.first symbols.count)

  reached₀ : List (Form D)
  reached₀ = kept_seen base reached.first reached.count

  whole : Answer (Unit {0})
  whole = same_registers o which c₀ 0 (registers_at ws reached.count from) reached₀

  pub compare_start : ReadableRegisters ws reached.count from → Comparing o symbols ws from reached which base 0 from base
  compare_start readable =
      let z : reached.count ≡ reached.count - 0 = omega arith in
      record {
        same = ap (λ n. same_registers o which (nth (kept_seen base symbols.first symbols.count)) 0 (registers_at ws n from) (kept_seen base reached.first reached.count)) (sym z);
        behind = ap (λ n. behind_registers ws n from) (sym z);
        readable = subst (λ n. ReadableRegisters ws n from) z readable;
        kept = λ i a b. refl;
      }

  module _ (i : ℕ) (rs : Registers) (fs : List (Form D)) (inv : Comparing o symbols ws from reached which base i rs fs) (lt : i < reached.count) where
    rest : Answer (Unit {0})
    rest = same_registers o which c₀ (i + 1) (registers_at ws (reached.count - (i + 1)) (next_register ws rs)) reached₀

    at_register : (fits (form_in_proposal o (symbols_seen o (Kept symbols) fs) (register_at ws rs)) then λ f. check (is_form o f (nth reached₀ i)) 17 which i then λ _. rest) ≡ whole
    unfolding c₀ reached₀ whole rest
    at_register =
        ap₂ (λ s k. fits (form_in_proposal o s (register_at ws rs)) then λ f. check (is_form o f (nth reached₀ i)) 17 which i then λ _. same_registers o which c₀ k (registers_at ws (reached.count - (i + 1)) (next_register ws rs)) reached₀) (symbols_frame o (Kept symbols) base fs (λ j h. inv.kept j (omega arith) (omega arith))) (add-one i)
        ∙ sym (same_more o which c₀ i (register_at ws rs) (registers_at ws (reached.count - (i + 1)) (next_register ws rs)) reached₀)
        ∙ ap (λ n. same_registers o which c₀ i (registers_at ws n rs) reached₀) (sym (one_less i reached.count lt))
        ∙ inv.same

    pub compare_over : None ≡ form_in_proposal o (symbols_seen o (Kept symbols) fs) (register_at ws rs) → refused 11 0 0 ≡ (same_registers o which (nth (kept_seen base symbols.first symbols.count)) 0 (registers_at ws reached.count from) (kept_seen base reached.first reached.count) then λ _. good (behind_registers ws reached.count from))
    unfolding c₀ reached₀ whole
    compare_over over =
        ap (λ a. a then λ _. good (behind_registers ws reached.count from))
        (ap (λ m. fits m then λ f. check (is_form o f (nth reached₀ i)) 17 which i then λ _. rest) over ∙ at_register)

    module _ (fs' : List (Form D)) (value : Some (get_or fs' 152 []) ≡ form_in_proposal o (symbols_seen o (Kept symbols) fs) (register_at ws rs)) (kept : KeptBut 152 fs fs') (b : Bool) (is : b ≡ same_form o (get_or fs' 152 []) (get_or fs' (reached.first + i) [])) where
      compared : (check b 17 which i then λ _. rest) ≡ whole
      unfolding reached₀
      compared =
          let slot : get_or fs' (reached.first + i) [] ≡ get_or base (reached.first + i) [] = kept (reached.first + i) (omega arith) (omega arith) ∙ inv.kept (reached.first + i) (omega arith) (omega arith) in
          ap (λ x. check x 17 which i then λ _. rest) (is ∙ ap (same_form o (get_or fs' 152 [])) slot ∙ ap (is_form o (get_or fs' 152 [])) (sym (nth_kept base reached.first reached.count i lt)))
          ∙ ap (λ m. fits m then λ f. check (is_form o f (nth reached₀ i)) 17 which i then λ _. rest) value
          ∙ at_register

      pub compare_unequal : b ≡ false → refused 17 which i ≡ (same_registers o which (nth (kept_seen base symbols.first symbols.count)) 0 (registers_at ws reached.count from) (kept_seen base reached.first reached.count) then λ _. good (behind_registers ws reached.count from))
      unfolding c₀ reached₀ whole
      compare_unequal e = ap (λ a. a then λ _. good (behind_registers ws reached.count from)) (ap (λ x. check x 17 which i then λ _. rest) (sym e) ∙ compared)

      pub compare_more : (next : Registers) → b ≡ true → next ≡ next_register ws rs → Comparing o symbols ws from reached which base (i + 1) next fs'
      unfolding c₀ reached₀ whole rest
      compare_more next e go = record {
        same = ap (λ x. same_registers o which c₀ (i + 1) (registers_at ws (reached.count - (i + 1)) x) reached₀) go ∙ ap (λ x. check x 17 which i then λ _. rest) (sym e) ∙ compared;
        behind = ap (behind_registers ws (reached.count - (i + 1))) go ∙ ap (λ n. behind_registers ws n rs) (sym (one_less i reached.count lt)) ∙ inv.behind;
        readable = subst (ReadableRegisters ws (reached.count - (i + 1))) (sym go) (readable_more ws rs i reached.count lt inv.readable).1;
        kept = λ j a d. kept j a d ∙ inv.kept j a d;
      }

  pub compare_end : (i : ℕ) (rs : Registers) (fs : List (Form D)) → Comparing o symbols ws from reached which base i rs fs → reached.count ≤ i → good rs.place ≡ (same_registers o which (nth (kept_seen base symbols.first symbols.count)) 0 (registers_at ws reached.count from) (kept_seen base reached.first reached.count) then λ _. good (behind_registers ws reached.count from))
  unfolding c₀ reached₀
  compare_end i rs fs inv h =
      let z = none_left i reached.count h in
      ap good (ap (λ n. behind_registers ws n rs) (sym z) ∙ inv.behind)
      ∙ ap (λ a. a then λ _. good (behind_registers ws reached.count from)) (sym (same_none o which c₀ i reached₀) ∙ ap (λ n. same_registers o which c₀ i (registers_at ws n rs) reached₀) (sym z) ∙ inv.same)
