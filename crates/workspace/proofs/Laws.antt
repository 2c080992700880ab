-- Writing a slot is `set` in the list of forms; writing behind the slots changes none.
use Rattle.std.proofs.Common.{◌≡◌, ℕ, zero, suc, ◌+◌, ◌*◌, ◌<◌, ◌≤◌, ◌≢◌, List, [], ◌∷◌, length, get_or, take, drop, set, replicate, sym, refl, ap, ◌∙◌, inl, inr, arith}
use Rattle.std.proofs.Math.Bridge.{le_prop}
use mathlib.Core.HLevel.{is_prop→PathP}
use Rattle.std.proofs.lemmas.List.{drop-drop, ext_get_or, get_or-set_same, get_or-set_other, length-set, length-replicate}
use Rattle.std.proofs.lemmas.Bool.{cases_order}
use Rattle.forms.specs.Rows.{part, Written, Kept}
use Rattle.forms.proofs.Parts.{part_kept, part_written_at, written_kept}
use Rattle.forms.proofs.Scaling.{part_above}
use Rattle.workspace.specs.declared.group.Group.{Group}
use Rattle.workspace.specs.declared.slots.Slots.{Slots}
use Rattle.workspace.specs.Slots.{slots, place, Ready}

module _ {X : Type 0} where
  pub length_slots : (ns : List ℕ) (xs : List X) → length (slots ns xs) ≡ length ns
  unfolding slots
  length_slots [] xs = refl
  length_slots (n ∷ ns) xs = ap suc (length_slots ns (drop 16 xs))

  slot_take : (ns : List ℕ) (xs : List X) (k : ℕ) → k < length ns → get_or (slots ns xs) k [] ≡ take (get_or ns k 0) (drop (16 * k) xs)
  unfolding slots
  slot_take [] xs k h = absurd (omega arith)
  slot_take (n ∷ ns) xs zero h = refl
  slot_take (n ∷ ns) xs (suc k) h =
      slot_take ns (drop 16 xs) k (omega arith)
      ∙ ap (take (get_or ns k 0)) (drop-drop (16 * k) 16 xs ∙ ap (λ j. drop j xs) (omega arith))

  -- the form in slot k stands at its place
  pub slot_is : (ns : List ℕ) (xs : List X) (k : ℕ) → k < length ns → get_or (slots ns xs) k [] ≡ part (place ns k) xs
  slot_is ns xs k h = slot_take ns xs k h ∙ ap (λ n. take n (drop (16 * k) xs)) (omega arith)

  -- what is written behind the slots changes None of them
  pub slots_kept : (ns : List ℕ) (xs ys : List X) → ((k : ℕ) → get_or ns k 0 ≤ 16) → Kept (16 * length ns) xs ys → slots ns ys ≡ slots ns xs
  slots_kept ns xs ys few k =
      ext_get_or [] (slots ns ys) (slots ns xs) (length_slots ns ys ∙ sym (length_slots ns xs))
      (λ i h.
      let lt : i < length ns = omega (arith, length_slots ns ys) in
      let f = few i in
      slot_is ns ys i lt
      ∙ part_kept (place ns i) (16 * length ns) xs ys (record { ordered = omega arith; below = omega arith }) k
      ∙ sym (slot_is ns xs i lt))

  -- what is written into slot k is its form
  pub slots_set : (ns : List ℕ) (xs ys out : List X) (k : ℕ) → ((j : ℕ) → get_or ns j 0 ≤ 16) → k < length ns → length out ≤ 16 → Written (16 * k) xs out ys → slots (set ns k (length out)) ys ≡ set (slots ns xs) k out
  slots_set ns xs ys out k few lt le w =
      let ms = set ns k (length out) in
      let n : length ms ≡ length ns = length-set ns k (length out) in
      let m : length (set (slots ns xs) k out) ≡ length ns = length-set (slots ns xs) k out ∙ length_slots ns xs in
      ext_get_or [] (slots ms ys) (set (slots ns xs) k out) (length_slots ms ys ∙ n ∙ sym m)
      (λ i h.
      let ilt : i < length ns = omega (arith, length_slots ms ys) in
      let f = few i in
      let same : (i ≢ k) → part (place ns i) ys ≡ part (place ns i) xs → get_or (slots ms ys) i [] ≡ get_or (set (slots ns xs) k out) i [] =
      λ ne e. slot_is ms ys i (omega arith)
      ∙ ap (λ d. part (record { from = 16 * i; to = 16 * i + d }) ys) (get_or-set_other ns k i (length out) 0 ne)
      ∙ e ∙ sym (slot_is ns xs i ilt) ∙ sym (get_or-set_other (slots ns xs) k i out [] ne) in
      elim (cases_order i k) [
        | inl e ↦
            rw e (slot_is ms ys k (omega arith)
            ∙ part_written_at (place ms k) (16 * k) xs out ys refl (ap (λ d. 16 * k + d) (get_or-set_same ns k (length out) 0 lt)) w
            ∙ sym (get_or-set_same (slots ns xs) k out [] (omega (arith, length_slots ns xs))))
        | inr (inl b) ↦
            same (omega arith) (part_kept (place ns i) (16 * k) xs ys (record { ordered = omega arith; below = omega arith }) (written_kept (16 * k) xs out ys w))
        | inr (inr b) ↦
            same (omega arith) (part_above (place ns i) (16 * k) xs out ys w (omega arith))
      ])

-- lengths stay at most sixteen
pub few_set : (ns : List ℕ) (k n : ℕ) → k < length ns → n ≤ 16 → ((j : ℕ) → get_or ns j 0 ≤ 16) → (j : ℕ) → get_or (set ns k n) j 0 ≤ 16
few_set ns k n lt le few j =
    let f = few j in
    elim (cases_order j k) [
      | inl e ↦ rw e (rw (get_or-set_same ns k n 0 lt) le)
      | inr (inl b) ↦ let ne : j ≢ k = omega arith in rw (get_or-set_other ns k j n 0 ne) f
      | inr (inr b) ↦ let ne : j ≢ k = omega arith in rw (get_or-set_other ns k j n 0 ne) f
    ]

-- with no lengths, every slot is empty
pub slots_empty : {X : Type 0} (n : ℕ) (xs : List X) → slots (replicate n 0) xs ≡ replicate n []
unfolding slots
slots_empty zero xs = refl
slots_empty (suc n) xs = ap (λ r. [] ∷ r) (slots_empty n (drop 16 xs))

pub ready_empty : {X : Type 0} (ns : List ℕ) (xs : List X) → ns ≡ replicate 162 0 → 3136 ≤ length xs → Ready ns xs
ready_empty ns xs e h = rw e (record { count = length-replicate {A = ℕ} 162 0; few = zeros; room = h })
  where
    past : (n k : ℕ) → ◌≡◌ {A = ℕ} (get_or (replicate n 0) k 0) 0
    past zero k = refl
    past (suc n) zero = refl
    past (suc n) (suc k) = past n k

    zeros : (k : ℕ) → get_or (replicate 162 0) k 0 ≤ 16
    zeros k = let z = past 162 k in omega arith

-- what the type says of slots
pub ready : {D : Type 0} (s : Slots D) → Ready s.lens.of s.row.now
ready s = record { count = s.count; few = s.few; room = s.room }

-- a group is told by its first slot and its count
pub group_is : (g h : Group) → g.first ≡ h.first → g.count ≡ h.count → g ≡ h
group_is g h e f = λ i. record { first = e i; count = f i; below = is_prop→PathP (λ k. e k + f k ≤ 144) (λ k. le_prop) g.below h.below i }
