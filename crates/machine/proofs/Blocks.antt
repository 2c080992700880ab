-- The words up to one that ends them: what they are, and how they are read back.
use Rattle.std.proofs.Common.{◌≡◌, ℕ, zero, suc, ◌+◌, ◌-◌, ◌<◌, true, false, cond, eqb, List, [], ◌∷◌, ◌++◌, map, length, get_or, take, drop, sym, refl, ap, ◌∙◌, subst, ⊎_elim, arith}
use Rattle.std.proofs.lemmas.List.{append-nil, append_assoc, take_at, drop_at, drop-drop, get_or_at, get_or-drop, length_push}
use Rattle.std.proofs.lemmas.Bool.{ltb-true, leb-false, cond_both}
use Rattle.expression.specs.declared.item.Item.{Item}
use Rattle.expression.specs.declared.item.Item.TheVariants.{Sum, Difference, Product, Negation}
use Rattle.expression.specs.Words.{kind, number, operation, item, item_of, item_word}
use Rattle.expression.proofs.WordsBack.{word_back}
use Rattle.machine.specs.declared.head.Head.{Head}
use Rattle.machine.specs.Answer.{good}
use Rattle.machine.specs.Words.{bound, legal, ends, ending, word, part, table_limits}
use Rattle.machine.specs.Machine.{Each}
use Rattle.machine.specs.Sound.{ItemStands}
use Rattle.machine.specs.Reading.{part_of, parts}
use Rattle.machine.proofs.Chains.{refused_good, good_same, check_good, cond_good}

by_kind : (P : ℕ → Type 0) (k : ℕ) → k < 6 → P 0 → P 1 → P 2 → P 3 → P 4 → P 5 → P k
by_kind P zero h a b c d e f = a
by_kind P (suc zero) h a b c d e f = b
by_kind P (suc (suc zero)) h a b c d e f = c
by_kind P (suc (suc (suc zero))) h a b c d e f = d
by_kind P (suc (suc (suc (suc zero)))) h a b c d e f = e
by_kind P (suc (suc (suc (suc (suc zero))))) h a b c d e f = f
by_kind P (suc (suc (suc (suc (suc (suc k)))))) h a b c d e f = absurd (omega arith)

module _ (h : Head) where
  -- a legal word's number is below the bound of its kind
  pub below_bound : (w k : ℕ) → legal (table_limits h) w ≡ true → kind w ≡ k → number w < bound (table_limits h) k
  below_bound w k e is = subst (λ x. number w < bound (table_limits h) x) is (ltb-true (number w) (bound (table_limits h) (kind w)) e)

  abbrev Stands : Item → Type 0
  Stands = ItemStands h.registers h.inputs

  operation_stands : (n : ℕ) → Stands (operation n)
  operation_stands n =
      cond_both (eqb n 0) Sum (cond (eqb n 1) Difference (cond (eqb n 2) Product Negation)) Stands (λ e. tt)
      (λ e. cond_both (eqb n 1) Difference (cond (eqb n 2) Product Negation) Stands (λ f. tt)
      (λ f. cond_both (eqb n 2) Product Negation Stands (λ g. tt) (λ g. tt)))

  item_stands : (w : ℕ) → legal (table_limits h) w ≡ true → ends w ≡ false → Stands (item_of w)
  unfolding item_of
  item_stands w lg en =
      let P : ℕ → Type 0 = λ k. number w < bound (table_limits h) k → Stands (item k (number w)) in
      by_kind P (kind w) (leb-false 6 (kind w) en)
      (λ b. absurd (omega arith))
      (λ b. b)
      (λ b. b)
      (λ b. b)
      (λ b. absurd (omega arith))
      (λ b. operation_stands (number w))
      (below_bound w (kind w) lg refl)

  -- an item's word is the word that it was read from
  item_back : (w : ℕ) → legal (table_limits h) w ≡ true → ends w ≡ false → item_word (item_of w) ≡ w
  item_back w lg en =
      let P : ℕ → Type 0 = λ k. kind w ≡ k → (0 < k) × (k ≡ 5 → number w < 4) in
      let p = by_kind P (kind w) (leb-false 6 (kind w) en)
      (λ e. absurd (let b = below_bound w 0 lg e in omega arith))
      (λ e. (omega arith, λ z. absurd (omega arith)))
      (λ e. (omega arith, λ z. absurd (omega arith)))
      (λ e. (omega arith, λ z. absurd (omega arith)))
      (λ e. (omega arith, λ z. absurd (omega arith)))
      (λ e. (omega arith, λ z. below_bound w 5 lg e))
      refl in
      word_back w p.0 (leb-false 6 (kind w) en) p.1

  -- words that are items
  pub Plain : List ℕ → Type 0
  Plain [] = Unit {0}
  Plain (w ∷ ws) = (ends w ≡ false) × (item_word (item_of w) ≡ w) × Stands (item_of w) × Plain ws

  pub plain_none : Plain []
  unfolding Plain
  plain_none = tt

  pub plain_of : (a : List ℕ) → Each (λ w. (ends w ≡ false) × (item_word (item_of w) ≡ w) × Stands (item_of w)) a → Plain a
  unfolding Plain
  plain_of [] p = tt
  plain_of (w ∷ a) p = (p.0.0, p.0.1, p.0.2, plain_of a p.1)

  pub plain_append : (a b : List ℕ) → Plain a → Plain b → Plain (a ++ b)
  unfolding Plain
  plain_append [] b p q = q
  plain_append (w ∷ a) b p q = (p.0, p.1, p.2, plain_append a b p.3 q)

  pub plain_back : (a : List ℕ) → Plain a → map item_word (map item_of a) ≡ a
  unfolding Plain
  plain_back [] p = refl
  plain_back (w ∷ a) p = rw (p.1, plain_back a p.3)

  pub plain_stands : (a : List ℕ) → Plain a → Each Stands (map item_of a)
  unfolding Plain
  plain_stands [] p = tt
  plain_stands (w ∷ a) p = (p.2, plain_stands a p.3)

  pub plain_take : (n : ℕ) (a : List ℕ) → Plain a → Plain (take n a)
  unfolding Plain
  plain_take zero a p = tt
  plain_take (suc n) [] p = tt
  plain_take (suc n) (w ∷ a) p = (p.0, p.1, p.2, plain_take n a p.3)

  pub plain_drop : (n : ℕ) (a : List ℕ) → Plain a → Plain (drop n a)
  unfolding Plain
  plain_drop zero a p = p
  plain_drop (suc n) [] p = tt
  plain_drop (suc n) (w ∷ a) p = plain_drop n a p.3

  parts_plain : (a acc tail : List ℕ) → Plain a → parts acc (a ++ tail) ≡ parts (acc ++ a) tail
  unfolding Plain
  parts_plain [] acc tail p = ap (λ x. parts x tail) (sym (append-nil acc))
  parts_plain (w ∷ a) acc tail p = rw p.0 (parts_plain a (acc ++ w ∷ []) tail p.3 ∙ ap (λ x. parts x tail) (append_assoc acc (w ∷ []) a))

  pub parts_block : (a : List ℕ) (w : ℕ) (tail : List ℕ) → Plain a → ends w ≡ true → parts [] (a ++ w ∷ tail) ≡ part_of a w ∷ parts [] tail
  parts_block a w tail p e = parts_plain a [] (w ∷ tail) p ∙ rw e

  -- what is read up to the word x that ends it
  pub record Block (ws : List ℕ) (p x : ℕ) : Type 0 where
    pub items : List ℕ
    pub plain : Plain items
    pub fits : legal (table_limits h) (word ws x) ≡ true
    pub last : ends (word ws x) ≡ true
    pub part_is : part ws p x ≡ items
    pub here : drop p ws ≡ items ++ word ws x ∷ drop (x + 1) ws
    pub long : x ≡ p + length items

  record Cut (xs : List ℕ) (p x : ℕ) : Type 0 where
    front : List ℕ
    end : ℕ
    back : List ℕ
    plain : Plain front
    fits : legal (table_limits h) end ≡ true
    last : ends end ≡ true
    whole : xs ≡ front ++ end ∷ back
    long : x ≡ p + length front

  cut_at : (xs : List ℕ) (p x : ℕ) → ending (table_limits h) p xs ≡ good x → Cut xs p x
  unfolding Plain
  cut_at [] p x e = absurd (refused_good e)
  cut_at (w ∷ xs) p x e =
      let ok = check_good (legal (table_limits h) w) 2 0 p (λ _. cond (ends w) (good p) (ending (table_limits h) (p + 1) xs)) x e in
      ⊎_elim
      (λ stop. record { front = []; end = w; back = xs; plain = tt; fits = ok.0; last = stop.0; whole = refl; long = let s = good_same p x stop.1 in omega arith })
      (λ on. let c = cut_at xs (p + 1) x on.1 in
      record { front = w ∷ c.front; end = c.end; back = c.back; plain = (on.0, item_back w ok.0 on.0, item_stands w ok.0 on.0, c.plain); fits = c.fits; last = c.last; whole = ap (λ r. w ∷ r) c.whole; long = let s = c.long in omega arith })
      (cond_good (ends w) (good p) (ending (table_limits h) (p + 1) xs) x ok.1)

  pub block : (ws : List ℕ) (p x : ℕ) → ending (table_limits h) p (drop p ws) ≡ good x → Block ws p x
  block ws p x e =
      let c = cut_at (drop p ws) p x e in
      let n = length c.front in
      let is : word ws x ≡ c.end = ap (word ws) c.long ∙ sym (get_or-drop p ws n 0) ∙ ap (λ r. get_or r n 0) c.whole ∙ get_or_at c.front c.end c.back 0 n refl in
      let size : x - p ≡ n = let s = c.long in omega arith in
      let rest : drop (x + 1) ws ≡ c.back =
      (let s : x + 1 ≡ p + (n + 1) = let t = c.long in omega arith in ap (λ k. drop k ws) s)
      ∙ sym (drop-drop (n + 1) p ws) ∙ ap (drop (n + 1)) (c.whole ∙ sym (append_assoc c.front (c.end ∷ []) c.back))
      ∙ drop_at (c.front ++ c.end ∷ []) c.back (n + 1) (length_push c.front c.end) in
      record {
        items = c.front;
        plain = c.plain;
        fits = subst (λ w. legal (table_limits h) w ≡ true) (sym is) c.fits;
        last = subst (λ w. ends w ≡ true) (sym is) c.last;
        part_is = ap (λ k. take k (drop p ws)) size ∙ ap (take n) c.whole ∙ take_at c.front (c.end ∷ c.back) n refl;
        here = c.whole ∙ ap (λ w. c.front ++ w ∷ c.back) (sym is) ∙ ap (λ r. c.front ++ word ws x ∷ r) (sym rest);
        long = c.long;
      }
