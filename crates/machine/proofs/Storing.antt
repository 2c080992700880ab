-- The stores of a transition take effect together.
use Rattle.std.proofs.Common.{◌≡◌, ℕ, cond, eqb, List, [], ◌∷◌, sym, refl, ap, ◌∙◌, arith}
use mathlib.Core.List.{Memᴰ}
use Rattle.std.proofs.lemmas.Bool.{eq-eqb, ne_eqb, cond-true, cond-false}
use Rattle.domain.specs.Ring.{Ops}
use Rattle.expression.specs.declared.item.Item.{Item}
use Rattle.expression.specs.Values.{Bank}
use Rattle.machine.specs.Machine.{Action, store, emit}
use Rattle.machine.specs.Sound.{Unstored, StoresOnce}
use Rattle.machine.specs.Runs.{stored, Together}

module _ {V : Type 0} (value : List Item → V) where
  keeps : (actions : List Action) (before : Bank V) (r : ℕ) → Unstored r actions → stored value actions before r ≡ before r
  keeps [] before r h = refl
  keeps (store s e ∷ rest) before r h = keeps rest _ r h.1 ∙ cond-false (eqb r s) (value e) (before r) (ne_eqb r s h.0)
  keeps (emit port e ∷ rest) before r h = keeps rest before r h

  same_register : (r s : ℕ) (e f : List Item) → store r e ≡ store s f → r ≡ s
  same_register r s e f k = cc

  same_value : (r s : ℕ) (e f : List Item) → store r e ≡ store s f → e ≡ f
  same_value r s e f k = cc

  no_emit : (r port : ℕ) (e f : List Item) → store r e ≡ emit port f → ⊥
  no_emit r port e f k = let z : ◌≡◌ {A = ℕ} 0 1 = cc in omega arith

  stores : (actions : List Action) (before : Bank V) (r : ℕ) (e : List Item) → StoresOnce actions → Memᴰ (store r e) actions → stored value actions before r ≡ value e
  stores [] before r e once none = elim none [ ]
  stores (store s f ∷ rest) before r e once (Memᴰ.head k) =
      let is = same_register r s e f k in
      ap (stored value rest (λ i. cond (eqb i s) (value f) (before i))) is ∙ keeps rest (λ i. cond (eqb i s) (value f) (before i)) s once.0 ∙ cond-true (eqb s s) (value f) (before s) (eq-eqb s s refl) ∙ ap value (sym (same_value r s e f k))
  stores (store s f ∷ rest) before r e once (Memᴰ.tail k) = stores rest (λ i. cond (eqb i s) (value f) (before i)) r e once.1 k
  stores (emit port f ∷ rest) before r e once (Memᴰ.head k) = absurd (no_emit r port e f k)
  stores (emit port f ∷ rest) before r e once (Memᴰ.tail k) = stores rest before r e once k

pub together : {V : Type 0} (o : Ops V) → Together o
together o = record { stores = λ value actions before r e. stores value actions before r e; keeps = λ value actions before r. keeps value actions before r }
