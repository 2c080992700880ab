-- What relates two algebras relates what expressions come to over them; and an expression over total leaves has a value.
use Rattle.std.proofs.Common.{◌≡◌, ℕ, ◌+◌, ◌-◌, ◌≤◌, true, leb, List, [], ◌∷◌, length, Some, None, Option, sym, refl, subst, arith}
use Rattle.std.proofs.lemmas.Bool.{and_parts, leb-true, eqb-true}
use Rattle.domain.specs.Ring.{Ops}
use Rattle.expression.specs.declared.item.Item.{Item}
use Rattle.expression.specs.declared.item.Item.TheVariants.{Constant, Register, Input, Symbol, Sum, Difference, Product, Negation}
use Rattle.expression.specs.Words.{takes}
use Rattle.expression.specs.Run.{Algebra, and_then, pushed, on_one, on_two, step, run, only, meaning}
use Rattle.expression.specs.Values.{Bank, values}
use Rattle.expression.specs.Shape.{lands, is_expression, HasValue}

-- Wherever the first answer is there, so is the second, and R relates them.
pub data Follows {A B : Type 0} (R : A → B → Type 0) : Option A → Option B → Type 0 where
  refuses : {v : Option B} → Follows R None v
  answers : {a : A} {b : B} → R a b → Follows R (Some a) (Some b)

pub data Stacks {A B : Type 0} (R : A → B → Type 0) : List A → List B → Type 0 where
  bottom : Stacks R [] []
  above : {a : A} {b : B} {s : List A} {t : List B} → R a b → Stacks R s t → Stacks R (a ∷ s) (b ∷ t)

-- The operations of the first algebra, where they answer, are followed by those of the second.
pub record Respects {A B : Type 0} (R : A → B → Type 0) (f : Algebra A) (g : Algebra B) : Type 0 where
  pub constant : (n : ℕ) → R (f.constant n) (g.constant n)
  pub register : (n : ℕ) → Follows R (f.register n) (g.register n)
  pub input : (n : ℕ) → Follows R (f.input n) (g.input n)
  pub symbol : (n : ℕ) → Follows R (f.symbol n) (g.symbol n)
  pub sum : (x y : A) (v w : B) → R x v → R y w → Follows R (f.sum x y) (g.sum v w)
  pub difference : (x y : A) (v w : B) → R x v → R y w → Follows R (f.difference x y) (g.difference v w)
  pub product : (x y : A) (v w : B) → R x v → R y w → Follows R (f.product x y) (g.product v w)
  pub negation : (x : A) (v : B) → R x v → R (f.negation x) (g.negation v)

module _ {A B : Type 0} (R : A → B → Type 0) where
  pub some_follows : (a : A) (v : Option B) → Follows R (Some a) v → (b : B) × (v ≡ Some b) × R a b
  some_follows a v (answers {b = b} r) = (b, refl, r)

  pushed_follows : {s : List A} {t : List B} (o : Option A) (p : Option B) → Follows R o p → Stacks R s t → Follows (Stacks R) (pushed o s) (pushed p t)
  pushed_follows o p refuses st = refuses
  pushed_follows o p (answers r) st = answers (above r st)

  two_follows : {s : List A} {t : List B} (f : A → A → Option A) (g : B → B → Option B) → ((x y : A) (v w : B) → R x v → R y w → Follows R (f x y) (g v w)) → Stacks R s t → Follows (Stacks R) (on_two f s) (on_two g t)
  two_follows f g h bottom = refuses
  two_follows f g h (above r bottom) = refuses
  two_follows f g h (above {a = y} {b = w} r (above {a = x} {b = v} q st)) = pushed_follows (f x y) (g v w) (h x y v w q r) st

  one_follows : {s : List A} {t : List B} (f : A → A) (g : B → B) → ((x : A) (v : B) → R x v → R (f x) (g v)) → Stacks R s t → Follows (Stacks R) (on_one f s) (on_one g t)
  one_follows f g h bottom = refuses
  one_follows f g h (above {a = x} {b = v} r st) = answers (above (h x v r) st)

  module _ (f : Algebra A) (g : Algebra B) (respects : Respects R f g) where
    step_follows : {s : List A} {t : List B} (i : Item) → Stacks R s t → Follows (Stacks R) (step f i s) (step g i t)
    step_follows (Constant n) st = answers (above (respects.constant n) st)
    step_follows (Register n) st = pushed_follows (f.register n) (g.register n) (respects.register n) st
    step_follows (Input n) st = pushed_follows (f.input n) (g.input n) (respects.input n) st
    step_follows (Symbol n) st = pushed_follows (f.symbol n) (g.symbol n) (respects.symbol n) st
    step_follows Sum st = two_follows f.sum g.sum respects.sum st
    step_follows Difference st = two_follows f.difference g.difference respects.difference st
    step_follows Product st = two_follows f.product g.product respects.product st
    step_follows Negation st = one_follows f.negation g.negation respects.negation st

    run_follows : (e : List Item) (s : List A) (t : List B) → Stacks R s t → Follows (Stacks R) (run f e s) (run g e t)
    run_follows [] s t st = answers st
    run_follows (i ∷ e) s t st = go (step f i s) (step g i t) (λ s' t' q. run_follows e s' t' q) (step_follows i st)
      where
        go : (o : Option (List A)) (p : Option (List B)) → ((s' : List A) (t' : List B) → Stacks R s' t' → Follows (Stacks R) (run f e s') (run g e t')) → Follows (Stacks R) o p → Follows (Stacks R) (and_then o (λ x. run f e x)) (and_then p (λ x. run g e x))
        go o p more refuses = refuses
        go o p more (answers {a = s'} {b = t'} q) = more s' t' q

    only_follows : {s : List A} {t : List B} → Stacks R s t → Follows R (only s) (only t)
    only_follows bottom = refuses
    only_follows (above r bottom) = answers r
    only_follows (above r (above q st)) = refuses

    pub meaning_follows : (e : List Item) → Follows R (meaning f e) (meaning g e)
    unfolding meaning
    meaning_follows e = go (run f e []) (run g e []) (run_follows e [] [] bottom)
      where
        go : (o : Option (List A)) (p : Option (List B)) → Follows (Stacks R) o p → Follows R (and_then o only) (and_then p only)
        go o p refuses = refuses
        go o p (answers st) = only_follows st

-- A stack of d values, on an expression that lands, goes on to one value.
module _ {V : Type 0} (o : Ops V) (registers inputs symbols : Bank V) where
  total : Algebra V
  total = values o (λ n. Some (registers n)) (λ n. Some (inputs n)) (λ n. Some (symbols n))

  one_on : (s : List V) → 1 ≤ length s → (t : List V) × (on_one o.neg s ≡ Some t) × (length t ≡ length s - 1 + 1)
  one_on [] h = absurd (omega arith)
  one_on (x ∷ s) h = (o.neg x ∷ s, refl, omega arith)

  two_on : (f : V → V → V) (s : List V) → 2 ≤ length s → (t : List V) × (on_two (λ x y. Some (f x y)) s ≡ Some t) × (length t ≡ length s - 2 + 1)
  two_on f [] h = absurd (omega arith)
  two_on f (x ∷ []) h = absurd (omega arith)
  two_on f (y ∷ (x ∷ s)) h = (f x y ∷ s, refl, omega arith)

  step_on : (i : Item) (s : List V) → takes i ≤ length s → (t : List V) × (step total i s ≡ Some t) × (length t ≡ length s - takes i + 1)
  unfolding total
  step_on (Constant n) s h = (o.constant n ∷ s, refl, omega arith)
  step_on (Register n) s h = (registers n ∷ s, refl, omega arith)
  step_on (Input n) s h = (inputs n ∷ s, refl, omega arith)
  step_on (Symbol n) s h = (symbols n ∷ s, refl, omega arith)
  step_on Sum s h = two_on o.add s h
  step_on Difference s h = two_on (λ x y. o.add x (o.neg y)) s h
  step_on Product s h = two_on o.mul s h
  step_on Negation s h = one_on s h

  run_on : (e : List Item) (s : List V) → lands (length s) e ≡ true → (v : V) × (run total e s ≡ Some (v ∷ []))
  run_on [] [] h = absurd (let z = eqb-true 0 1 h in omega arith)
  run_on [] (v ∷ []) h = (v, refl)
  run_on [] (v ∷ (w ∷ s)) h = absurd (let z = eqb-true (length (v ∷ (w ∷ s))) 1 h in omega arith)
  run_on (i ∷ e) s h =
      let p = and_parts (leb (takes i) (length s)) _ h in
      let t = step_on i s (leb-true (takes i) (length s) p.0) in
      let l : lands (length t.0) e ≡ true = subst (λ n. lands n e ≡ true) (sym t.2) (and_parts (leb (length s - takes i + 1) 8) _ p.1).1 in
      let r = run_on e t.0 l in
      (r.0, rw t.1 r.1)

  expression_value : (e : List Item) → is_expression e ≡ true → (v : V) × (meaning total e ≡ Some v)
  unfolding is_expression meaning
  expression_value e h =
      let r = run_on e [] (and_parts (leb (length e) 24) _ h).1 in
      (r.0, rw r.1)

pub has_value : {V : Type 0} (o : Ops V) → HasValue o
unfolding total
has_value o registers inputs symbols e h = expression_value o registers inputs symbols e h
