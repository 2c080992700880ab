-- An expression on the way.
use Rattle.std.proofs.Common.{◌≡◌, ℕ, zero, suc, ◌+◌, ◌-◌, ◌<◌, ◌≤◌, true, ◌&&◌, eqb, leb, List, [], ◌∷◌, map, length, get_or, take, drop, set, Some, None, Option, sym, refl, ap, ◌∙◌, arith}
use Rattle.std.proofs.lemmas.List.{drop_more, drop_all, take-take}
use Rattle.std.proofs.lemmas.Bool.{and_parts, leb-true, eqb-true}
use Rattle.expression.specs.Run.{Algebra, and_then, step, run, only, meaning}
use Rattle.expression.specs.Words.{item_of, takes}
use Rattle.expression.specs.Shape.{lands, is_expression}
use Rattle.expression.specs.declared.item.Item.{Item}
use Rattle.workspace.specs.Slots.{give}
use Rattle.workspace.specs.Evaluation.{Stands, stack}

-- the words from i on are left, with d values on the stack
pub record Evaluating {X : Type 0} (g : Algebra (List X)) (base fs : List (List X)) (ws : List ℕ) (i d : ℕ) : Type 0 where
  pub kept : take 154 fs ≡ take 154 base
  pub deep : d ≤ 8
  pub valid : lands d (map item_of (drop i ws)) ≡ true
  pub runs : run g (map item_of (drop i ws)) (stack d fs) ≡ run g (map item_of ws) []

pub expression_lands : (e : List Item) → is_expression e ≡ true → lands 0 e ≡ true
unfolding is_expression
expression_lands e h = (and_parts (leb (length e) 24) (lands 0 e) h).1

module _ {X : Type 0} (g : Algebra (List X)) (base : List (List X)) (ws : List ℕ) where
  pub started : is_expression (map item_of ws) ≡ true → Evaluating g base base ws 0 0
  unfolding stack
  started v = record { kept = refl; deep = omega arith; valid = expression_lands (map item_of ws) v; runs = refl }

  module _ (fs : List (List X)) (i d : ℕ) (e : Evaluating g base fs ws i d) (lt : i < length ws) where
    front : drop i ws ≡ get_or ws i 0 ∷ drop (i + 1) ws
    front = drop_more ws i 0 lt

    next_lands : lands d (item_of (get_or ws i 0) ∷ map item_of (drop (i + 1) ws)) ≡ true
    next_lands = rw front at e.valid

    parts : (takes (item_of (get_or ws i 0)) ≤ d) × (d - takes (item_of (get_or ws i 0)) + 1 ≤ 8) × (lands (d - takes (item_of (get_or ws i 0)) + 1) (map item_of (drop (i + 1) ws)) ≡ true)
    parts =
        let t = takes (item_of (get_or ws i 0)) in
        let n = lands (d - t + 1) (map item_of (drop (i + 1) ws)) in
        let a = and_parts (leb t d) (leb (d - t + 1) 8 && n) next_lands in
        let b = and_parts (leb (d - t + 1) 8) n a.1 in
        (leb-true t d a.0, leb-true (d - t + 1) 8 b.0, b.1)

    pub stands : (it : Item) → it ≡ item_of (get_or ws i 0) → Stands d it
    stands it q =
        let a = parts.0 in
        let b = parts.1 in
        let k = e.deep in
        rw q (record { deep = k; values = a; room = omega arith })

    next_runs : and_then (step g (item_of (get_or ws i 0)) (stack d fs)) (λ t. run g (map item_of (drop (i + 1) ws)) t) ≡ run g (map item_of ws) []
    next_runs = rw front at e.runs

    pub went : (it : Item) (fs' : List (List X)) → it ≡ item_of (get_or ws i 0) → Some (take 154 fs') ≡ Some (take 154 fs) → Some (stack (d - takes it + 1) fs') ≡ step g it (stack d fs) → Evaluating g base fs' ws (i + 1) (d - takes it + 1)
    went it fs' q k s =
        let k2 : take 154 fs' ≡ take 154 fs = cc in
        let s2 : Some (stack (d - takes it + 1) fs') ≡ step g (item_of (get_or ws i 0)) (stack d fs) = s ∙ ap (λ j. step g j (stack d fs)) q in
        record {
          kept = k2 ∙ e.kept;
          deep = rw q parts.1;
          valid = rw q parts.2;
          runs = ap (λ o. and_then o (λ t. run g (map item_of (drop (i + 1) ws)) t)) s2 ∙ next_runs;
        }

    pub failed : (it : Item) → it ≡ item_of (get_or ws i 0) → None ≡ step g it (stack d fs) → None ≡ meaning g (map item_of ws)
    unfolding meaning
    failed it q s =
        let s2 : None ≡ step g (item_of (get_or ws i 0)) (stack d fs) = s ∙ ap (λ j. step g j (stack d fs)) q in
        ap (λ o. and_then (and_then o (λ t. run g (map item_of (drop (i + 1) ws)) t)) only) s2 ∙ ap (λ o. and_then o only) next_runs

  pub named_kept : (fs : List (List X)) (i d : ℕ) → Evaluating g base fs ws i d → take 144 fs ≡ take 144 base
  named_kept fs i d e = sym (take-take 144 154 fs (omega arith)) ∙ ap (take 144) e.kept ∙ take-take 144 154 base (omega arith)

  pub ended : (fs : List (List X)) (i d : ℕ) → Evaluating g base fs ws i d → length ws ≤ i → Some (get_or fs 154 []) ≡ meaning g (map item_of ws)
  unfolding stack meaning
  ended fs i d e h =
      let z : drop i ws ≡ [] = drop_all i ws h in
      let v : eqb d 1 ≡ true = rw z at e.valid in
      let one : d ≡ 1 = eqb-true d 1 v in
      let r : Some (stack d fs) ≡ run g (map item_of ws) [] = rw z at e.runs in
      let s : stack 1 fs ≡ get_or fs 154 [] ∷ [] = refl in
      ap only (sym s ∙ ap (λ n. stack n fs) (sym one)) ∙ ap (λ o. and_then o only) r

take_set_lt : {X : Type 0} (n i : ℕ) (l : List X) (a : X) → i < n → take n (set l i a) ≡ set (take n l) i a
take_set_lt zero i l a h = absurd (omega arith)
take_set_lt (suc n) i [] a h = refl
take_set_lt (suc n) zero (x ∷ l) a h = refl
take_set_lt (suc n) (suc i) (x ∷ l) a h = ap (λ r. x ∷ r) (take_set_lt n i l a (omega arith))

-- a value that was worked out on the stack, and then copied to a named slot
pub placed : {X : Type 0} (base fs fs' : List X) (to : ℕ) (v : X) (m : Option X) → to < 154 → Some (take 154 fs) ≡ Some (take 154 base) → Some v ≡ m → fs' ≡ set fs to v → Some (take 154 fs') ≡ give to m (take 154 base)
placed base fs fs' to v m lt k e w =
    let k2 : take 154 fs ≡ take 154 base = cc in
    ap Some (ap (take 154) w ∙ take_set_lt 154 to fs v lt ∙ ap (λ f. set f to v) k2) ∙ ap (λ o. give to o (take 154 base)) e

-- what a form that was put into a slot, or refused, says of it
module _ {X : Type 0} where
  pub accepted : (m : Option X) (F F' : List X) (k : ℕ) → Some F' ≡ give k m F → (v : X) × ((m ≡ Some v) × (F' ≡ set F k v))
  accepted (Some v) F F' k e = (v, (refl, cc))
  accepted None F F' k e = let z : ◌≡◌ {A = ℕ} 0 1 = cc in absurd (omega arith)

  pub refused : (m : Option X) (F : List X) (k : ℕ) → None ≡ give k m F → m ≡ None
  refused (Some v) F k e = let z : ◌≡◌ {A = ℕ} 0 1 = cc in absurd (omega arith)
  refused None F k e = refl
