-- Two algebras whose operations keep a relation: where the first gives an expression a meaning, the second gives it one that is related.
use Rattle.std.proofs.Common.{◌≡◌, ℕ, List, [], ◌∷◌, Some, None, Option, refl, subst}
use Rattle.expression.specs.Run.{Algebra, and_then, pushed, on_one, on_two, step, run, only, meaning}
use Rattle.expression.specs.declared.item.Item.{Item}
use Rattle.expression.specs.declared.item.Item.TheVariants.{Constant, Register, Input, Symbol, Sum, Difference, Product, Negation}

module _ {A B : Type 0} (R : A → B → Type 0) where
  -- the first may refuse where the second does not
  abbrev pub Upto : Option A → Option B → Type 0
  Upto None y = Unit {0}
  Upto (Some a) None = ⊥
  Upto (Some a) (Some b) = R a b

  abbrev pub Stacks : List A → List B → Type 0
  Stacks [] [] = Unit {0}
  Stacks [] (b ∷ t) = ⊥
  Stacks (a ∷ s) [] = ⊥
  Stacks (a ∷ s) (b ∷ t) = R a b × Stacks s t

module _ {A B : Type 0} (R : A → B → Type 0) where
  pub record Keeps (g : Algebra A) (h : Algebra B) : Type 0 where
    pub constant : (n : ℕ) → R (g.constant n) (h.constant n)
    pub register : (n : ℕ) → Upto R (g.register n) (h.register n)
    pub input : (n : ℕ) → Upto R (g.input n) (h.input n)
    pub symbol : (n : ℕ) → Upto R (g.symbol n) (h.symbol n)
    pub sum : (a a' : A) (b b' : B) → R a b → R a' b' → Upto R (g.sum a a') (h.sum b b')
    pub difference : (a a' : A) (b b' : B) → R a b → R a' b' → Upto R (g.difference a a') (h.difference b b')
    pub product : (a a' : A) (b b' : B) → R a b → R a' b' → Upto R (g.product a a') (h.product b b')
    pub negation : (a : A) (b : B) → R a b → R (g.negation a) (h.negation b)

module _ {A B : Type 0} (R : A → B → Type 0) where
  abbrev Ran : Option (List A) → Option (List B) → Type 0
  Ran = Upto (Stacks R)

  push : (x : Option A) (y : Option B) (s : List A) (t : List B) → Upto R x y → Stacks R s t → Ran (pushed x s) (pushed y t)
  push None y s t h r = tt
  push (Some a) None s t h r = absurd h
  push (Some a) (Some b) s t h r = (h, r)

  two : (f : A → A → Option A) (f' : B → B → Option B) → ((a a' : A) (b b' : B) → R a b → R a' b' → Upto R (f a a') (f' b b')) → (s : List A) (t : List B) → Stacks R s t → Ran (on_two f s) (on_two f' t)
  two f f' keep [] t h = tt
  two f f' keep (a ∷ []) t h = tt
  two f f' keep (a ∷ (a' ∷ s)) [] h = absurd h
  two f f' keep (a ∷ (a' ∷ s)) (b ∷ []) h = absurd h.1
  two f f' keep (a ∷ (a' ∷ s)) (b ∷ (b' ∷ t)) h = push (f a' a) (f' b' b) s t (keep a' a b' b h.1.0 h.0) h.1.1

  one : (f : A → A) (f' : B → B) → ((a : A) (b : B) → R a b → R (f a) (f' b)) → (s : List A) (t : List B) → Stacks R s t → Ran (on_one f s) (on_one f' t)
  one f f' keep [] t h = tt
  one f f' keep (a ∷ s) [] h = absurd h
  one f f' keep (a ∷ s) (b ∷ t) h = (keep a b h.0, h.1)

  on : (f : List A → Option (List A)) (f' : List B → Option (List B)) → ((s : List A) (t : List B) → Stacks R s t → Ran (f s) (f' t)) → (x : Option (List A)) (y : Option (List B)) → Ran x y → Ran (and_then x f) (and_then y f')
  on f f' keep None y h = tt
  on f f' keep (Some s) None h = absurd h
  on f f' keep (Some s) (Some t) h = keep s t h

  module _ (g : Algebra A) (h : Algebra B) (k : Keeps R g h) where
    steps : (i : Item) (s : List A) (t : List B) → Stacks R s t → Ran (step g i s) (step h i t)
    steps (Constant n) s t r = (k.constant n, r)
    steps (Register n) s t r = push (g.register n) (h.register n) s t (k.register n) r
    steps (Input n) s t r = push (g.input n) (h.input n) s t (k.input n) r
    steps (Symbol n) s t r = push (g.symbol n) (h.symbol n) s t (k.symbol n) r
    steps Sum s t r = two g.sum h.sum k.sum s t r
    steps Difference s t r = two g.difference h.difference k.difference s t r
    steps Product s t r = two g.product h.product k.product s t r
    steps Negation s t r = one g.negation h.negation k.negation s t r

    pub runs : (e : List Item) (s : List A) (t : List B) → Stacks R s t → Ran (run g e s) (run h e t)
    runs [] s t r = r
    runs (i ∷ e) s t r = on (run g e) (run h e) (runs e) (step g i s) (step h i t) (steps i s t r)

    onlys : (x : Option (List A)) (y : Option (List B)) → Ran x y → Upto R (and_then x only) (and_then y only)
    onlys None y r = tt
    onlys (Some []) y r = tt
    onlys (Some (a ∷ s)) None r = absurd r
    onlys (Some (a ∷ s)) (Some []) r = absurd r
    onlys (Some (a ∷ [])) (Some (b ∷ [])) r = r.0
    onlys (Some (a ∷ [])) (Some (b ∷ (b' ∷ t))) r = absurd r.1
    onlys (Some (a ∷ (a' ∷ s))) (Some (b ∷ t)) r = tt

    meanings : (e : List Item) → Upto R (meaning g e) (meaning h e)
    unfolding meaning
    meanings e = onlys (run g e []) (run h e []) (runs e [] [] tt)

    met : (x : Option A) (y : Option B) (a : A) → x ≡ Some a → Upto R x y → (b : B) × ((y ≡ Some b) × R a b)
    met x None a e r = absurd (subst (λ z. Upto R z None) e r)
    met x (Some b) a e r = (b, (refl, subst (λ z. Upto R z (Some b)) e r))

    -- what stands to a meaning in the first algebra
    pub related : (e : List Item) (a : A) → meaning g e ≡ Some a → (b : B) × ((meaning h e ≡ Some b) × R a b)
    related e a q = met (meaning g e) (meaning h e) a q (meanings e)
