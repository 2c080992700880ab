-- The parts that words consist of, one at a time.
use Rattle.std.proofs.Common.{◌≡◌, ℕ, zero, suc, ◌/◌, ◌%◌, ◌<◌, ◌≤◌, Bool, true, false, cond, ◌&&◌, eqb, leb, List, [], ◌∷◌, ◌++◌, length, take, drop, Some, None, Option, sym, refl, ap, ◌∙◌, subst, arith, length-drop}
use Rattle.std.proofs.lemmas.List.{append_assoc, append-nil}
use Rattle.records.specs.Files.{and_then, before, or_else, Body, body, Part, pair, claim, Next, next, parts_within, parts_of}

cut_shorter : (b : Bool) (k : ℕ) (ws : List ℕ) (y : Body) → cond b (Some (record { words = take k ws; rest = drop k ws })) None ≡ Some y → length y.rest ≤ length ws
cut_shorter true k ws y e = let r : drop k ws ≡ y.rest = rest_of e in rw (← r) (simp length-drop (omega arith))
  where
    rest : Option Body → List ℕ
    rest None = []
    rest (Some z) = z.rest

    rest_of : Some (record { words = take k ws; rest = drop k ws }) ≡ Some y → drop k ws ≡ y.rest
    rest_of p = ap rest p
cut_shorter false k ws y e = cc

body_shorter : (mark w : ℕ) (ws : List ℕ) (y : Body) → body mark (w ∷ ws) ≡ Some y → length y.rest ≤ length ws
body_shorter mark w ws y e = cut_shorter (eqb (w / 65536) mark && leb (w % 65536) (length ws)) (w % 65536) ws y e

abbrev behind : Option Next → List ℕ
behind None = []
behind (Some x) = x.rest

either_shorter : (n : ℕ) (o p : Option Body) → ((y : Body) → o ≡ Some y → length y.rest ≤ n) → ((y : Body) → p ≡ Some y → length y.rest ≤ n) → (x : Next) → or_else (and_then o (λ b. Some (record { part = pair b.words; rest = b.rest }))) (and_then p (λ b. Some (record { part = claim b.words; rest = b.rest }))) ≡ Some x → length x.rest ≤ n
either_shorter n (Some y) p f g x e = subst (λ l. length l ≤ n) (ap behind e) (f y refl)
either_shorter n None (Some y) f g x e = subst (λ l. length l ≤ n) (ap behind e) (g y refl)
either_shorter n None None f g x e = cc

-- a part takes a word or more
pub next_shorter : (ws : List ℕ) (x : Next) → next ws ≡ Some x → length x.rest < length ws
next_shorter [] x e = cc
next_shorter (w ∷ ws) x e =
    let s = either_shorter (length ws) (body 0xF300 (w ∷ ws)) (body 0xF400 (w ∷ ws)) (body_shorter 0xF300 w ws) (body_shorter 0xF400 w ws) x e in
    omega arith

after : (Next → Option (List Part)) → Option Next → Option (List Part)
after f o = and_then o (λ x. and_then (f x) (λ ps. Some (x.part ∷ ps)))

after_same : (f g : Next → Option (List Part)) (o : Option Next) → ((x : Next) → o ≡ Some x → f x ≡ g x) → after f o ≡ after g o
unfolding after
after_same f g None h = refl
after_same f g (Some x) h = ap (λ t. and_then t (λ ps. Some (x.part ∷ ps))) (h x refl)

-- a depth of as many words or more is enough
enough : (m n : ℕ) (ws : List ℕ) → length ws ≤ m → length ws ≤ n → parts_within m ws ≡ parts_within n ws
enough m n [] p q = refl
enough zero n (w ∷ ws) p q = absurd (omega arith)
enough (suc m) zero (w ∷ ws) p q = absurd (omega arith)
enough (suc m) (suc n) (w ∷ ws) p q = steps (λ x e. enough m n x.rest (let s = next_shorter (w ∷ ws) x e in omega arith) (let s = next_shorter (w ∷ ws) x e in omega arith))
  where
    steps : ((x : Next) → next (w ∷ ws) ≡ Some x → parts_within m x.rest ≡ parts_within n x.rest) → parts_within (suc m) (w ∷ ws) ≡ parts_within (suc n) (w ∷ ws)
    steps h = unfold after in after_same (λ x. parts_within m x.rest) (λ x. parts_within n x.rest) (next (w ∷ ws)) h

pub parts_step : (ws : List ℕ) → 0 < length ws → parts_of ws ≡ and_then (next ws) (λ x. and_then (parts_of x.rest) (λ ps. Some (x.part ∷ ps)))
unfolding parts_of after
parts_step [] h = absurd (omega arith)
parts_step (w ∷ ws) h = after_same (λ x. parts_within (length ws) x.rest) (λ x. parts_within (length x.rest) x.rest) (next (w ∷ ws)) (λ x e. enough (length ws) (length x.rest) x.rest (let s = next_shorter (w ∷ ws) x e in omega arith) (omega arith))

pub parts_none : (ws : List ℕ) → length ws ≡ 0 → parts_of ws ≡ Some []
unfolding parts_of
parts_none [] h = refl
parts_none (w ∷ ws) h = absurd (omega arith)

module _ (words : List ℕ) where
  -- one part more
  pub parts_more : (ps : List Part) (rest : List ℕ) (x : Next) → 0 < length rest → next rest ≡ Some x → parts_of words ≡ before ps (parts_of rest) → parts_of words ≡ before (ps ++ (x.part ∷ [])) (parts_of x.rest)
  parts_more ps rest x h e inv = inv ∙ ap (before ps) (parts_step rest h ∙ rw e) ∙ go (parts_of x.rest)
    where
      go : (o : Option (List Part)) → before ps (and_then o (λ qs. Some (x.part ∷ qs))) ≡ before (ps ++ (x.part ∷ [])) o
      go None = refl
      go (Some qs) = ap Some (sym (append_assoc ps (x.part ∷ []) qs))

  -- no part where one should stand
  pub parts_bad : (ps : List Part) (rest : List ℕ) → 0 < length rest → next rest ≡ None → parts_of words ≡ before ps (parts_of rest) → parts_of words ≡ None
  parts_bad ps rest h e inv = let lost : parts_of rest ≡ None = parts_step rest h ∙ rw e in inv ∙ ap (before ps) lost

  pub parts_end : (ps : List Part) (rest : List ℕ) → length rest ≡ 0 → parts_of words ≡ before ps (parts_of rest) → parts_of words ≡ Some ps
  parts_end ps rest h inv = inv ∙ ap (before ps) (parts_none rest h) ∙ ap Some (append-nil ps)
