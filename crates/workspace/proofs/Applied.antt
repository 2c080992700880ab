-- One item worked on the stack in the slots, by what it puts there.
use Rattle.std.proofs.Common.{◌≡◌, ℕ, ◌+◌, ◌-◌, List, length, get_or, [], take, set, Ok, Option, Result, ap, ◌∙◌}
use Rattle.domain.specs.Ring.{Ops}
use Rattle.expression.specs.declared.item.Item.{Item}
use Rattle.expression.specs.Run.{Algebra, pushed, on_one, on_two, step}
use Rattle.expression.specs.Words.{takes}
use Rattle.forms.specs.Forms.{Form}
use Rattle.workspace.specs.declared.leaves.Leaves.{Leaves}
use Rattle.workspace.specs.declared.slots.Slots.{Slots}
use Rattle.workspace.specs.Slots.{told, give}
use Rattle.workspace.specs.Views.{forms, named}
use Rattle.workspace.specs.Evaluation.{reading, stack, Stands}
use Rattle.workspace.proofs.Laws.{length_slots}
use Rattle.workspace.proofs.Stack.{leafed, changed, paired}

module _ {D : Type 0} (o : Ops D) (leaves : Leaves) (slots : Slots D) (depth : ℕ) (i : Item) (stands : Stands depth i) where
  algebra : Algebra (Form D)
  algebra = reading o leaves (named (forms slots))

  wide : length (forms slots) ≡ 162
  wide = length_slots slots.lens.of slots.row.now ∙ slots.count

  -- What a call leaves that works the item: the stack as the algebra has it, and the slots below it as they were.
  abbrev pub Worked : {U E : Type 0} → Result U E → List (Form D) → Type 0
  Worked r after = (told r (stack (depth - takes i + 1) after) ≡ step (reading o leaves (named (forms slots))) i (stack depth (forms slots))) × (told r (take 154 after) ≡ told r (take 154 (forms slots)))

  module _ (j : Item) (is : i ≡ j) where
    pub on_leaf : {U E : Type 0} (r : Result U E) (after : List (Form D)) (v : Option (Form D)) → takes j ≡ 0 → ((s : List (Form D)) → step (reading o leaves (named (forms slots))) j s ≡ pushed v s) → told r after ≡ give (154 + depth) v (forms slots) → Worked r after
    unfolding algebra
    on_leaf r after v none steps e = leafed r algebra i depth (forms slots) after v wide (ap takes is ∙ none) (λ s. ap (λ x. step algebra x s) is ∙ steps s) stands.room e

    pub on_last : (after : List (Form D)) (f : Form D → Form D) → takes j ≡ 1 → ((s : List (Form D)) → step (reading o leaves (named (forms slots))) j s ≡ on_one f s) → after ≡ set (forms slots) (154 + depth - 1) (f (get_or (forms slots) (154 + depth - 1) [])) → Worked {U = Unit {0}} {E = Unit {0}} (Ok tt) after
    unfolding algebra
    on_last after f one steps e = changed algebra i f depth (forms slots) after wide (ap takes is ∙ one) stands.values (λ s. ap (λ x. step algebra x s) is ∙ steps s) stands.room e

    pub on_both : {U E : Type 0} (r : Result U E) (after : List (Form D)) (f : Form D → Form D → Option (Form D)) → takes j ≡ 2 → ((s : List (Form D)) → step (reading o leaves (named (forms slots))) j s ≡ on_two f s) → told r after ≡ give (154 + depth - 2) (f (get_or (forms slots) (154 + depth - 2) []) (get_or (forms slots) (154 + depth - 1) [])) (forms slots) → Worked r after
    unfolding algebra
    on_both r after f two steps e = paired r algebra i f depth (forms slots) after wide (ap takes is ∙ two) stands.values (λ s. ap (λ x. step algebra x s) is ∙ steps s) stands.room e
