-- The actions of a transition, read one by one.
use Rattle.std.proofs.Common.{◌≡◌, ℕ, ◌+◌, ◌<◌, Bool, true, false, cond, ltb, List, [], ◌∷◌, ◌++◌, length, set, Some, None, Option, sym, refl, ap, ◌∙◌, subst, ap₂, inl, inr, arith}
use Rattle.domain.specs.Ring.{Ops}
use Rattle.expression.specs.declared.item.Item.{Item}
use Rattle.expression.specs.Run.{and_then}
use Rattle.forms.specs.Forms.{Form}
use Rattle.machine.specs.Machine.{store, emit, Transition}
use Rattle.machine.specs.Reading.{acting}
use Rattle.walk.specs.Lists.{Outputs}
use Rattle.walk.specs.Lists.{Pending}
use Rattle.walk.specs.declared.side.Side.{Side}
use Rattle.walk.specs.Walk.{Acted, act, form_in_table}
use Rattle.walk.specs.Seen.{kept_seen, stored_seen, outputs_seen, KeptBut, KeptNamed, KeptOutside, KeptBeside, KeptApart}
use Rattle.walk.specs.Taking.{Readable, held_seen, acted_seen, acted}
use Rattle.walk.proofs.Waiting.{stored_frame, outputs_frame, kept_frame}

module _ {D : Type 0} (o : Ops D) where
  store_fits : (m : Option (Form D)) (S S' : List (Form D)) (r : ℕ) (k : List (Form D) → Option (Acted D)) → Some S' ≡ and_then m (λ f. Some (set S r f)) → and_then m (λ f. k (set S r f)) ≡ k S'
  store_fits None S S' r k h = absurd (let z : ◌≡◌ {A = ℕ} 0 1 = cc in omega arith)
  store_fits (Some f) S S' r k h = let e : S' ≡ set S r f = cc in ap k (sym e)

  store_over : (m : Option (Form D)) (S : List (Form D)) (r : ℕ) (k : List (Form D) → Option (Acted D)) → None ≡ and_then m (λ f. Some (set S r f)) → and_then m (λ f. k (set S r f)) ≡ None
  store_over None S r k h = refl
  store_over (Some f) S r k h = absurd (let z : ◌≡◌ {A = ℕ} 0 1 = cc in omega arith)

  emit_fits : (m : Option (Form D)) (b : Bool) (O O' : List (ℕ × Form D)) (p : ℕ) (k : List (ℕ × Form D) → Option (Acted D)) → Some O' ≡ and_then m (λ f. cond b (Some (O ++ ((p, f) ∷ []))) None) → and_then m (λ f. cond b (k (O ++ ((p, f) ∷ []))) None) ≡ k O'
  emit_fits None b O O' p k h = absurd (let z : ◌≡◌ {A = ℕ} 0 1 = cc in omega arith)
  emit_fits (Some f) false O O' p k h = absurd (let z : ◌≡◌ {A = ℕ} 0 1 = cc in omega arith)
  emit_fits (Some f) true O O' p k h = let e : O' ≡ O ++ ((p, f) ∷ []) = cc in ap k (sym e)

  emit_over : (m : Option (Form D)) (b : Bool) (O : List (ℕ × Form D)) (p : ℕ) (k : List (ℕ × Form D) → Option (Acted D)) → None ≡ and_then m (λ f. cond b (Some (O ++ ((p, f) ∷ []))) None) → and_then m (λ f. cond b (k (O ++ ((p, f) ∷ []))) None) ≡ None
  emit_over None b O p k h = refl
  emit_over (Some f) false O p k h = refl
  emit_over (Some f) true O p k h = absurd (let z : ◌≡◌ {A = ℕ} 0 1 = cc in omega arith)

-- where the reading stands: what is left acts on what is held as the whole does on what was
pub record Holding {D : Type 0} (o : Ops D) (side : Side) (base : List (Form D)) (whole : Transition) (pending₀ : Pending) (outputs₀ : Outputs) (fs : List (Form D)) (left : Transition) (pending : Pending) (outputs : Outputs) : Type 0 where
  pub readable : Readable pending.count left
  pub acts : acted o (form_in_table o (kept_seen base side.registers.first side.registers.count)) left.actions (held_seen side pending outputs (kept_seen base side.registers.first side.registers.count) fs)
      ≡ acted o (form_in_table o (kept_seen base side.registers.first side.registers.count)) whole.actions (held_seen side pending₀ outputs₀ (kept_seen base side.registers.first side.registers.count) base)
  pub target : left.target ≡ whole.target
  pub kept : KeptBeside side base fs

module _ {D : Type 0} (o : Ops D) (side : Side) (base : List (Form D)) (whole : Transition) (pending₀ : Pending) (outputs₀ : Outputs) (fs : List (Form D)) (left rest : Transition) (pending : Pending) (outputs : Outputs) (inv : Holding o side base whole pending₀ outputs₀ fs left pending outputs) where
  kept_registers : List (Form D)
  kept_registers = kept_seen base side.registers.first side.registers.count

  same_registers : kept_seen fs side.registers.first side.registers.count ≡ kept_registers
  unfolding kept_registers
  same_registers = kept_frame base fs side.registers.first side.registers.count (λ j a b. inv.kept j (omega (arith, side.low, side.behind)) (inl (omega (arith, side.low, side.behind))))

  form_of : List Item → Option (Form D)
  form_of e = form_in_table o (kept_seen fs side.registers.first side.registers.count) e

  module _ (r : ℕ) (e : List Item) (is : left ≡ acting (store r e) rest) where
    -- what is left, with the store first
    store_left : acted o (form_in_table o kept_registers) left.actions (held_seen side pending outputs kept_registers fs) ≡ and_then (form_of e) (λ f. act o (form_in_table o kept_registers) rest.actions (set (stored_seen pending.items fs pending.count kept_registers) r f) (outputs_seen outputs.items fs side.outputs outputs.count))
    unfolding form_of
    store_left =
        ap (λ t. acted o (form_in_table o kept_registers) t.actions (held_seen side pending outputs kept_registers fs)) is
        ∙ ap (λ k. and_then (form_in_table o k e) (λ f. act o (form_in_table o kept_registers) rest.actions (set (stored_seen pending.items fs pending.count kept_registers) r f) (outputs_seen outputs.items fs side.outputs outputs.count))) (sym same_registers)

    pub after_store : (fs' : List (Form D)) (pending' : Pending) → ((registers : List (Form D)) → Some (stored_seen pending'.items fs' pending'.count registers) ≡ and_then (form_in_table o (kept_seen fs side.registers.first side.registers.count) e) (λ f. Some (set (stored_seen pending.items fs pending.count registers) r f))) → pending'.count ≡ pending.count + 1 → KeptNamed fs fs' → Holding o side base whole pending₀ outputs₀ fs' rest pending' outputs
    unfolding kept_registers form_of
    after_store fs' pending' waits more kept =
        let readable = subst (λ t. Readable pending.count t) is inv.readable in
        let out = outputs_frame outputs.items outputs.items fs fs' side.outputs outputs.count (λ j h. refl) (λ j h. kept (side.outputs + j) (omega (arith, side.before, outputs.few))) in
        record {
          readable = record { few = (let f = readable.few in omega arith); each = readable.each.1 };
          acts = ap (λ x. act o (form_in_table o kept_registers) rest.actions (stored_seen pending'.items fs' pending'.count kept_registers) x) out
              ∙ sym (store_fits o (form_of e) _ _ r (λ s. act o (form_in_table o kept_registers) rest.actions s (outputs_seen outputs.items fs side.outputs outputs.count)) (waits kept_registers))
              ∙ sym store_left ∙ inv.acts;
          target = ap (λ t. t.target) (sym is) ∙ inv.target;
          kept = λ i a b. kept i a ∙ inv.kept i a b;
        }

    pub over_store : ((registers : List (Form D)) → None ≡ and_then (form_in_table o (kept_seen fs side.registers.first side.registers.count) e) (λ f. Some (set (stored_seen pending.items fs pending.count registers) r f))) → None ≡ acted o (form_in_table o (kept_seen base side.registers.first side.registers.count)) whole.actions (held_seen side pending₀ outputs₀ (kept_seen base side.registers.first side.registers.count) base)
    unfolding kept_registers form_of
    over_store waits = sym (sym inv.acts ∙ store_left ∙ store_over o (form_of e) _ r (λ s. act o (form_in_table o kept_registers) rest.actions s (outputs_seen outputs.items fs side.outputs outputs.count)) (waits kept_registers))

  module _ (port : ℕ) (e : List Item) (is : left ≡ acting (emit port e) rest) where
    -- the outputs so far, and the registers as they will be
    so_far : List (ℕ × Form D)
    so_far = outputs_seen outputs.items fs side.outputs outputs.count

    waiting : List (Form D)
    waiting = stored_seen pending.items fs pending.count kept_registers

    emit_left : acted o (form_in_table o kept_registers) left.actions (held_seen side pending outputs kept_registers fs) ≡ and_then (form_of e) (λ f. cond (ltb (length so_far) 16) (act o (form_in_table o kept_registers) rest.actions waiting (so_far ++ ((port, f) ∷ []))) None)
    unfolding form_of so_far waiting
    emit_left =
        ap (λ t. acted o (form_in_table o kept_registers) t.actions (held_seen side pending outputs kept_registers fs)) is
        ∙ ap (λ k. and_then (form_in_table o k e) (λ f. cond (ltb (length so_far) 16) (act o (form_in_table o kept_registers) rest.actions waiting (so_far ++ ((port, f) ∷ []))) None)) (sym same_registers)

    pub after_emit : (fs' : List (Form D)) (outputs' : Outputs) → Some (outputs_seen outputs'.items fs' side.outputs outputs'.count) ≡ and_then (form_in_table o (kept_seen fs side.registers.first side.registers.count) e) (λ f. cond (ltb (length (outputs_seen outputs.items fs side.outputs outputs.count)) 16) (Some (outputs_seen outputs.items fs side.outputs outputs.count ++ ((port, f) ∷ []))) None) → (outputs.count < 16) × KeptBut (side.outputs + outputs.count) fs fs' → Holding o side base whole pending₀ outputs₀ fs' rest pending outputs'
    unfolding kept_registers form_of so_far waiting
    after_emit fs' outputs' appends kept =
        let readable = subst (λ t. Readable pending.count t) is inv.readable in
        let few = kept.0 in
        let stored = stored_frame pending.items pending.items fs fs' pending.count kept_registers (λ j h. refl) (λ j h. kept.1 (144 + j) (omega (arith, pending.few)) (omega (arith, side.before, pending.few))) in
        record {
          readable = record { few = (let f = readable.few in omega arith); each = readable.each.1 };
          acts = ap (λ x. act o (form_in_table o kept_registers) rest.actions x (outputs_seen outputs'.items fs' side.outputs outputs'.count)) stored
              ∙ sym (emit_fits o (form_of e) (ltb (length so_far) 16) so_far _ port (λ x. act o (form_in_table o kept_registers) rest.actions waiting x) appends)
              ∙ sym emit_left ∙ inv.acts;
          target = ap (λ t. t.target) (sym is) ∙ inv.target;
          kept = λ i a b. kept.1 i (omega arith) (elim b [
            | inl x ↦ omega arith
            | inr y ↦ omega arith
          ]) ∙ inv.kept i a b;
        }

    pub over_emit : None ≡ and_then (form_in_table o (kept_seen fs side.registers.first side.registers.count) e) (λ f. cond (ltb (length (outputs_seen outputs.items fs side.outputs outputs.count)) 16) (Some (outputs_seen outputs.items fs side.outputs outputs.count ++ ((port, f) ∷ []))) None) → None ≡ acted o (form_in_table o (kept_seen base side.registers.first side.registers.count)) whole.actions (held_seen side pending₀ outputs₀ (kept_seen base side.registers.first side.registers.count) base)
    unfolding kept_registers form_of so_far waiting
    over_emit appends = sym (sym inv.acts ∙ emit_left ∙ emit_over o (form_of e) (ltb (length so_far) 16) so_far port (λ x. act o (form_in_table o kept_registers) rest.actions waiting x) appends)

module _ {D : Type 0} (o : Ops D) (side : Side) (base fs fs' : List (Form D)) (pending : Pending) (outputs : Outputs) (read : KeptBeside side base fs) (kept : KeptOutside side.registers fs fs') where
  -- once the stores are made, what was held is what the slots have
  pub made : kept_seen fs' side.registers.first side.registers.count ≡ stored_seen pending.items fs pending.count (kept_seen fs side.registers.first side.registers.count) → acted_seen side outputs fs' ≡ held_seen side pending outputs (kept_seen base side.registers.first side.registers.count) fs
  made stored =
      let same = kept_frame base fs side.registers.first side.registers.count (λ j a b. read j (omega (arith, side.low, side.behind)) (inl (omega (arith, side.low, side.behind)))) in
      let out = outputs_frame outputs.items outputs.items fs fs' side.outputs outputs.count (λ j h. refl) (λ j h. kept (side.outputs + j) (inr (omega (arith, side.low, side.behind)))) in
      ap₂ (λ r x. record { registers = r; outputs = x }) (stored ∙ ap (stored_seen pending.items fs pending.count) same) out

  pub made_apart : KeptApart side base fs'
  made_apart i a b c = kept i b ∙ read i a c
