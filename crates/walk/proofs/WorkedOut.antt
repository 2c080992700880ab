-- An expression of a table over the slots, and what its evaluation keeps.
use Rattle.std.proofs.Common.{◌≡◌, ℕ, zero, suc, ◌+◌, ◌<◌, ◌≤◌, ltb, List, [], length, get_or, take, set, IfOk, Some, None, Ok, Err, Option, Result, sym, refl, ap, ◌∙◌, ap₂, arith, length-take}
use mathlib.Core.Path.{fun_ext}
use Rattle.std.proofs.lemmas.List.{get_or-set_same, get_or-set_other, get_or-take}
use Rattle.std.proofs.lemmas.Bool.{cond-false, le-ltb, cond_both, ltb-true, ltb-false}
use Rattle.domain.specs.Ring.{Ops}
use Rattle.expression.specs.Run.{meaning}
use Rattle.expression.specs.declared.item.Item.{Item}
use Rattle.forms.specs.Forms.{Form}
use Rattle.forms.specs.Limited.{limited}
use Rattle.workspace.specs.declared.group.Group.{Group}
use Rattle.workspace.specs.Slots.{told, give}
use Rattle.workspace.specs.Views.{named}
use Rattle.workspace.specs.Evaluation.{reading, group_form, no_group}
use Rattle.walk.specs.Walk.{nth, form_in_table}
use Rattle.walk.specs.Seen.{kept_seen, table_leaves, KeptBut}

module _ {X : Type 0} (fs : List (List X)) where
  pub nth_kept : (first n i : ℕ) → i < n → nth (kept_seen fs first n) i ≡ Some (get_or fs (first + i) [])
  nth_kept first zero i h = absurd (omega arith)
  nth_kept first (suc n) zero h = ap (λ k. Some (get_or fs k [])) (omega arith)
  nth_kept first (suc n) (suc i) h = nth_kept (suc first) n i (omega arith) ∙ ap (λ k. Some (get_or fs k [])) (omega arith)

  pub nth_past : (first n i : ℕ) → n ≤ i → nth (kept_seen fs first n) i ≡ None
  nth_past first zero i h = refl
  nth_past first (suc n) zero h = absurd (omega arith)
  nth_past first (suc n) (suc i) h = nth_past (suc first) n i (omega arith)

  -- a register's form is the one in its slot
  pub group_nth : (g : Group) (i : ℕ) → group_form (named fs) g i ≡ nth (kept_seen fs g.first g.count) i
  group_nth g i =
      cond_both (ltb i g.count) (Some (get_or (named fs) (g.first + i) [])) None (λ v. v ≡ nth (kept_seen fs g.first g.count) i)
      (λ h. let lt : i < g.count = ltb-true i g.count h in ap Some (get_or-take 144 fs (g.first + i) [] (omega (arith, g.below))) ∙ sym (nth_kept g.first g.count i lt))
      (λ h. sym (nth_past g.first g.count i (ltb-false i g.count h)))

  pub none_there : (i : ℕ) → group_form (named fs) no_group i ≡ None
  none_there i = cond-false (ltb i 0) (Some (get_or (named fs) (0 + i) [])) None (le-ltb i 0 (omega arith))

module _ {D : Type 0} (o : Ops D) where
  pub reads : (fs : List (Form D)) (g : Group) (e : List Item) → meaning (reading o (table_leaves g) (named fs)) e ≡ form_in_table o (kept_seen fs g.first g.count) e
  reads fs g e = ap₂ (λ r s. meaning (limited o r s) e) (fun_ext (group_nth fs g)) (fun_ext (none_there fs))

module _ {X U E : Type 0} (fs fs' : List (List X)) (to : ℕ) (lt : to < 154) (long : length fs ≡ 162) where
  -- what the evaluation of an expression into a slot leaves there, and elsewhere
  pub worked : (r : Result U E) (m : Option (List X)) → told r (take 154 fs') ≡ give to m (take 154 fs) → (told r (get_or fs' to []) ≡ m) × IfOk r (λ _. KeptBut to fs fs')
  worked (Err e) None h = (refl, tt)
  worked (Err e) (Some p) h = absurd (let z : ◌≡◌ {A = ℕ} 0 1 = cc in omega arith)
  worked (Ok u) None h = absurd (let z : ◌≡◌ {A = ℕ} 0 1 = cc in omega arith)
  worked (Ok u) (Some p) h =
      let e : take 154 fs' ≡ set (take 154 fs) to p = cc in
      let l : length (take 154 fs) ≡ 154 = simp length-take (omega arith) in (
        ap Some (sym (get_or-take 154 fs' to [] lt) ∙ ap (λ s. get_or s to []) e ∙ get_or-set_same (take 154 fs) to p [] (omega arith)),
        λ i h ne. sym (get_or-take 154 fs' i [] h) ∙ ap (λ s. get_or s i []) e ∙ get_or-set_other (take 154 fs) to i p [] ne ∙ get_or-take 154 fs i [] h,
      )
