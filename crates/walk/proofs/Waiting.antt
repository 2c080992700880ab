-- Stores that wait, and outputs, in their slots.
use Rattle.std.proofs.Common.{◌≡◌, ℕ, zero, suc, ◌+◌, ◌<◌, ◌≤◌, cond, ltb, List, [], ◌∷◌, ◌++◌, length, get_or, set, Some, None, Option, sym, refl, ap, ◌∙◌, ap₂, inl, inr, arith}
use lib.Seq.{set_out as set_past}
use Rattle.std.proofs.lemmas.List.{get_or-set_same, get_or-set_other, length-append}
use Rattle.std.proofs.lemmas.Bool.{cond-true, cond-false, lt-ltb, le-ltb}
use Rattle.expression.specs.Run.{and_then}
use Rattle.workspace.specs.declared.group.Group.{Group}
use Rattle.walk.specs.Seen.{kept_seen, stored_seen, outputs_seen, KeptBut, KeptNamed, KeptOutside}

module _ {X : Type 0} where
  pub stored_frame : (ts ts' : List ℕ) (fs fs' : List (List X)) (n : ℕ) (registers : List (List X)) → ((j : ℕ) → j < n → get_or ts' j 0 ≡ get_or ts j 0) → ((j : ℕ) → j < n → get_or fs' (144 + j) [] ≡ get_or fs (144 + j) []) → stored_seen ts' fs' n registers ≡ stored_seen ts fs n registers
  stored_frame ts ts' fs fs' zero registers t f = refl
  stored_frame ts ts' fs fs' (suc n) registers t f =
      ap (λ s. set s (get_or ts' n 0) (get_or fs' (144 + n) [])) (stored_frame ts ts' fs fs' n registers (λ j h. t j (omega arith)) (λ j h. f j (omega arith)))
      ∙ ap₂ (λ r g. set (stored_seen ts fs n registers) r g) (t n (omega arith)) (f n (omega arith))

  -- a store behind n others
  pub waits_more : (ts : List ℕ) (fs fs' : List (List X)) (n register : ℕ) (form : Option (List X)) → length ts ≡ 8 → n < 8 → Some (get_or fs' (144 + n) []) ≡ form → KeptBut (144 + n) fs fs' → (registers : List (List X)) → Some (stored_seen (set ts n register) fs' (n + 1) registers) ≡ and_then form (λ f. Some (set (stored_seen ts fs n registers) register f))
  waits_more ts fs fs' n register form long lt e kept registers =
      let more : n + 1 ≡ suc n = omega arith in
      let before = stored_frame ts (set ts n register) fs fs' n registers (λ j h. get_or-set_other ts n j register 0 (omega arith)) (λ j h. kept (144 + j) (omega arith) (omega arith)) in
      ap (λ k. Some (stored_seen (set ts n register) fs' k registers)) more
      ∙ ap₂ (λ s r. Some (set s r (get_or fs' (144 + n) []))) before (get_or-set_same ts n register 0 (omega arith))
      ∙ ap (λ m. and_then m (λ f. Some (set (stored_seen ts fs n registers) register f))) e

  pub kept_named : (fs fs' : List (List X)) (to : ℕ) → 144 ≤ to → KeptBut to fs fs' → KeptNamed fs fs'
  kept_named fs fs' to h kept i lt = kept i (omega arith) (omega arith)

  pub length_outputs : (ports : List ℕ) (fs : List (List X)) (first n : ℕ) → length (outputs_seen ports fs first n) ≡ n
  length_outputs ports fs first zero = refl
  length_outputs ports fs first (suc n) = length-append (outputs_seen ports fs first n) _ ∙ ap (λ k. k + 1) (length_outputs ports fs first n) ∙ omega arith

  pub outputs_frame : (ps ps' : List ℕ) (fs fs' : List (List X)) (first n : ℕ) → ((j : ℕ) → j < n → get_or ps' j 0 ≡ get_or ps j 0) → ((j : ℕ) → j < n → get_or fs' (first + j) [] ≡ get_or fs (first + j) []) → outputs_seen ps' fs' first n ≡ outputs_seen ps fs first n
  outputs_frame ps ps' fs fs' first zero p f = refl
  outputs_frame ps ps' fs fs' first (suc n) p f =
      ap (λ s. s ++ ((get_or ps' n 0, get_or fs' (first + n) []) ∷ [])) (outputs_frame ps ps' fs fs' first n (λ j h. p j (omega arith)) (λ j h. f j (omega arith)))
      ∙ ap₂ (λ q g. outputs_seen ps fs first n ++ ((q, g) ∷ [])) (p n (omega arith)) (f n (omega arith))

  -- an output behind n others
  pub appends_more : (ps : List ℕ) (fs fs' : List (List X)) (first n port : ℕ) (form : Option (List X)) → length ps ≡ 16 → n < 16 → first + 16 ≤ 154 → Some (get_or fs' (first + n) []) ≡ form → KeptBut (first + n) fs fs' → Some (outputs_seen (set ps n port) fs' first (n + 1)) ≡ and_then form (λ f. cond (ltb (length (outputs_seen ps fs first n)) 16) (Some (outputs_seen ps fs first n ++ ((port, f) ∷ []))) None)
  appends_more ps fs fs' first n port form long lt below e kept =
      let more : n + 1 ≡ suc n = omega arith in
      let out = outputs_seen ps fs first n in
      let before = outputs_frame ps (set ps n port) fs fs' first n (λ j h. get_or-set_other ps n j port 0 (omega arith)) (λ j h. kept (first + j) (omega arith) (omega arith)) in
      ap (λ k. Some (outputs_seen (set ps n port) fs' first k)) more
      ∙ ap₂ (λ s p. Some (s ++ ((p, get_or fs' (first + n) []) ∷ []))) before (get_or-set_same ps n port 0 (omega arith))
      ∙ sym (cond-true (ltb (length out) 16) (Some (out ++ ((port, get_or fs' (first + n) []) ∷ []))) None (lt-ltb (length out) 16 (omega (arith, length_outputs ps fs first n))))
      ∙ ap (λ m. and_then m (λ f. cond (ltb (length out) 16) (Some (out ++ ((port, f) ∷ []))) None)) e

  pub appends_none : (ps : List ℕ) (fs : List (List X)) (first n port : ℕ) (form : Option (List X)) → 16 ≤ n → None ≡ and_then form (λ f. cond (ltb (length (outputs_seen ps fs first n)) 16) (Some (outputs_seen ps fs first n ++ ((port, f) ∷ []))) None)
  appends_none ps fs first n port None h = refl
  appends_none ps fs first n port (Some f) h = sym (cond-false (ltb (length (outputs_seen ps fs first n)) 16) _ None (le-ltb (length (outputs_seen ps fs first n)) 16 (omega (arith, length_outputs ps fs first n))))

  pub length_kept : (fs : List (List X)) (first n : ℕ) → length (kept_seen fs first n) ≡ n
  length_kept fs first zero = refl
  length_kept fs first (suc n) = ap suc (length_kept fs (suc first) n)

  pub kept_frame : (fs fs' : List (List X)) (first n : ℕ) → ((j : ℕ) → first ≤ j → j < first + n → get_or fs' j [] ≡ get_or fs j []) → kept_seen fs' first n ≡ kept_seen fs first n
  kept_frame fs fs' first zero h = refl
  kept_frame fs fs' first (suc n) h = ap₂ ◌∷◌ (h first (omega arith) (omega arith)) (kept_frame fs fs' (suc first) n (λ j a b. h j (omega arith) (omega arith)))

  -- a register's slot is set
  pub kept_set : (fs : List (List X)) (first n r : ℕ) (v : List X) → r < n → first + n ≤ length fs → kept_seen (set fs (first + r) v) first n ≡ set (kept_seen fs first n) r v
  kept_set fs first zero r v lt long = absurd (omega arith)
  kept_set fs first (suc n) zero v lt long =
      ap₂ ◌∷◌ (ap (λ k. get_or (set fs k v) first []) (omega arith) ∙ get_or-set_same fs first v [] (omega arith))
      (kept_frame fs (set fs (first + 0) v) (suc first) n (λ j a b. get_or-set_other fs (first + 0) j v [] (omega arith)))
  kept_set fs first (suc n) (suc r) v lt long =
      ap₂ ◌∷◌ (get_or-set_other fs (first + suc r) first v [] (omega arith))
      (ap (λ k. kept_seen (set fs k v) (suc first) n) (omega arith) ∙ kept_set fs (suc first) n r v (omega arith) (omega arith))

  -- the first j stores have been made
  pub record Committing (ts : List ℕ) (g : Group) (base fs : List (List X)) (j : ℕ) : Type 0 where
    pub stored : kept_seen fs g.first g.count ≡ stored_seen ts base j (kept_seen base g.first g.count)
    pub kept : KeptOutside g base fs

  module _ (ts : List ℕ) (g : Group) (base : List (List X)) where
    pub none_yet : Committing ts g base base 0
    none_yet = record { stored = refl; kept = λ i h. refl }

    -- one more is made
    pub one_more : (fs fs' : List (List X)) (j : ℕ) → kept_seen fs' g.first g.count ≡ set (kept_seen fs g.first g.count) (get_or ts j 0) (get_or fs (144 + j) []) → KeptOutside g fs fs' → Committing ts g base fs j → Committing ts g base fs' (j + 1)
    one_more fs fs' j e kept inv =
        let more : suc j ≡ j + 1 = omega arith in
        record {
          stored = e ∙ ap₂ (λ s v. set s (get_or ts j 0) v) inv.stored (inv.kept (144 + j) (inr (omega (arith, g.below)))) ∙ ap (λ k. stored_seen ts base k (kept_seen base g.first g.count)) more;
          kept = λ i h. kept i h ∙ inv.kept i h;
        }

module _ {X : Type 0} (g : Group) (fs : List (List X)) (r : ℕ) (v : List X) where
  -- a store into a register that is there, and into one that is not
  pub store_there : length fs ≡ 162 → r < g.count → (kept_seen (set fs (g.first + r) v) g.first g.count ≡ set (kept_seen fs g.first g.count) r v) × KeptOutside g fs (set fs (g.first + r) v)
  store_there long lt = (
    kept_set fs g.first g.count r v lt (omega (arith, g.below)),
    λ i h. get_or-set_other fs (g.first + r) i v [] (elim h [
      | inl a ↦ omega arith
      | inr b ↦ omega arith
    ]),
  )

  pub store_nowhere : g.count ≤ r → kept_seen fs g.first g.count ≡ set (kept_seen fs g.first g.count) r v
  store_nowhere h = sym (set_past (kept_seen fs g.first g.count) r v (omega (arith, length_kept fs g.first g.count)))
