-- What a place that ends something is good for, where the words were read.
use Rattle.std.proofs.Common.{◌≡◌, ℕ, ◌+◌, ◌-◌, ◌/◌, ◌<◌, ◌≤◌, true, ◌&&◌, eqb, ltb, List, [], ◌∷◌, map, length, take, drop, is_some, sym, ap, ◌∙◌, subst, ⊎_elim, arith, length-drop, length-take}
use Rattle.std.proofs.lemmas.Bool.{and_parts, eqb-true, lt-ltb, cond-true, cond-false}
use Rattle.std.proofs.lemmas.List.{take-take, drop-drop, drop-take}
use Rattle.expression.specs.declared.item.Item.{Item}
use Rattle.expression.specs.Words.{kind, number, item_of, test_of}
use Rattle.expression.specs.Shape.{is_expression, split}
use Rattle.machine.specs.declared.words.Limits.{Limits}
use Rattle.machine.specs.Answer.{Answer, good, refused, ◌then◌, numbered}
use Rattle.machine.specs.Words.{legal, ends, ending, word, part}
use Rattle.machine.specs.Reading.{cut}
use Rattle.machine.proofs.Chains.{refused_good, good_same, then_good, check_good, cond_good}
use Rattle.machine.proofs.Cuts.{cut_within, cut_splits}
use Rattle.proposal.specs.declared.cursor.FactAt.{FactAt}
use Rattle.proposal.specs.Proposal.{Fact}
use Rattle.proposal.specs.Reading.{Read, read, stored, all_stored, read_fact, read_facts}
use Rattle.proposal.specs.Cursors.{next_end, StoredCut, CutsStored, fact_places, fact_of, FactCut, CutsFact}

numbered_good : {X : Type 0} (n : ℕ) (a : Answer X) (x : X) → numbered n a ≡ good x → a ≡ good x
numbered_good n (good y) x e = e
numbered_good n (refused k m p) x e = absurd (refused_good e)

pub record Ended (p : ℕ) (ws : List ℕ) (q : ℕ) : Type 0 where
  pub is : next_end p ws ≡ q
  pub from : p ≤ q
  pub within : q < p + length ws

ended : (l : Limits) (p : ℕ) (ws : List ℕ) (q : ℕ) → ending l p ws ≡ good q → Ended p ws q
ended l p [] q e = absurd (refused_good e)
ended l p (w ∷ ws) q e = ⊎_elim
    (λ h. (let same = good_same p q h.1 in record { is = cond-true (ends w) p (next_end (p + 1) ws) h.0 ∙ same; from = omega arith; within = omega arith }))
    (λ h. (let r = ended l (p + 1) ws q h.1 in record { is = cond-false (ends w) p (next_end (p + 1) ws) h.0 ∙ r.is; from = omega (arith, r.from); within = omega (arith, r.within) }))
    (cond_good (ends w) (good p) (ending l (p + 1) ws) q (check_good (legal l w) 2 0 p _ q e).1)

pub record Placed (ws : List ℕ) (p q : ℕ) : Type 0 where
  pub is : next_end p (drop p ws) ≡ q
  pub from : p ≤ q
  pub within : q < length ws

placed : (l : Limits) (ws : List ℕ) (p q : ℕ) → ending l p (drop p ws) ≡ good q → Placed ws p q
placed l ws p q e =
    let r = ended l p (drop p ws) q e in
    let n = length-drop p ws in record { is = r.is; from = r.from; within = omega (arith, r.from, r.within) }

value_same : {X : Type 0} (x y : Read X) → x ≡ y → (x.value ≡ y.value) × (x.place ≡ y.place)
value_same x y e = (ap (λ r. r.value) e, ap (λ r. r.place) e)

-- the first of what was read one behind the other
pub record Parted {X : Type 0} (a : Answer (Read X)) (rest : ℕ → Answer (Read (List X))) (xs : List X) (q : ℕ) : Type 0 where
  pub one : Read X
  pub is : a ≡ good one
  pub first : xs ≡ one.value ∷ drop 1 xs
  pub behind : rest one.place ≡ good (read (drop 1 xs) q)

parted : {X : Type 0} (a : Answer (Read X)) (rest : ℕ → Answer (Read (List X))) (xs : List X) (q : ℕ) → (a then λ x. rest x.place then λ y. good (read (x.value ∷ y.value) y.place)) ≡ good (read xs q) → Parted a rest xs q
parted a rest xs q e =
    let s = then_good a _ (read xs q) e in
    let x = s.0 in
    let t = then_good (rest x.place) (λ y. good (read (x.value ∷ y.value) y.place)) (read xs q) s.2 in
    let y = t.0 in
    let v = value_same (read (x.value ∷ y.value) y.place) (read xs q) (good_same (read (x.value ∷ y.value) y.place) (read xs q) t.2) in
    let tail : y.value ≡ drop 1 xs = ap (λ l. drop 1 l) v.0 in
    record {
      one = x;
      is = s.1;
      first = sym v.0 ∙ ap (λ l. x.value ∷ l) tail;
      behind = t.1 ∙ ap good (λ i. record { value = tail i; place = v.1 i });
    }

pub record StoredAt (ws : List ℕ) (register p : ℕ) (x : Read (List Item)) : Type 0 where
  pub end : ℕ
  pub ended_at : Placed ws p end
  pub expression : is_expression (map item_of (part ws p end)) ≡ true
  pub store : (kind (word ws end) ≡ 7) × (number (word ws end) ≡ register)
  pub value : x.value ≡ map item_of (part ws p end)
  pub place : x.place ≡ end + 1

stored_at : (refusal : ℕ) (l : Limits) (register : ℕ) (ws : List ℕ) (p : ℕ) (x : Read (List Item)) → stored refusal l register ws p ≡ good x → StoredAt ws register p x
stored_at refusal l register ws p x e =
    let s = then_good (numbered refusal (ending l p (drop p ws))) _ x e in
    let q = s.0 in
    let t = check_good (is_expression (map item_of (part ws p q)) && (eqb (kind (word ws q)) 7 && eqb (number (word ws q)) register)) refusal 0 q (λ _. good (read (map item_of (part ws p q)) (q + 1))) x s.2 in
    let b = and_parts (is_expression (map item_of (part ws p q))) (eqb (kind (word ws q)) 7 && eqb (number (word ws q)) register) t.0 in
    let d = and_parts (eqb (kind (word ws q)) 7) (eqb (number (word ws q)) register) b.1 in
    let v = value_same (read (map item_of (part ws p q)) (q + 1)) x (good_same (read (map item_of (part ws p q)) (q + 1)) x t.1) in
    record {
      end = q;
      ended_at = placed l ws p q (numbered_good refusal (ending l p (drop p ws)) q s.1);
      expression = b.0;
      store = (eqb-true (kind (word ws q)) 7 d.0, eqb-true (number (word ws q)) register d.1);
      value = sym v.0;
      place = sym v.1;
    }

pub cuts_stored : (ws : List ℕ) (p : ℕ) → CutsStored ws p (next_end p (drop p ws))
unfolding all_stored
cuts_stored ws p refusal l register due es q e =
    let a = parted (stored refusal l register ws p) (λ n. all_stored refusal l due ws n) es q e in
    let s = stored_at refusal l register ws p a.one a.is in
    subst (λ n. StoredCut refusal l register due ws p n es q) (sym s.ended_at.is) (record {
      from = s.ended_at.from;
      within = s.ended_at.within;
      expression = s.expression;
      store = s.store;
      first = a.first ∙ ap (λ v. v ∷ drop 1 es) s.value;
      rest = ap (λ n. all_stored refusal l due ws n) (sym s.place) ∙ a.behind;
    })

-- Facts

pub cut_below : (ws : List ℕ) (p q : ℕ) → p ≤ q → p + cut (part ws p q) ≤ q
cut_below ws p q h = omega (arith, cut_within (part ws p q), length-take (q - p) (drop p ws))

left_part : (ws : List ℕ) (p q k : ℕ) → p + k ≤ q → take k (part ws p q) ≡ part ws p (p + k)
left_part ws p q k h =
    let n : p + k - p ≡ k = omega arith in
    take-take k (q - p) (drop p ws) (omega arith) ∙ ap (λ m. take m (drop p ws)) (sym n)

right_part : (ws : List ℕ) (p q k : ℕ) → p + k ≤ q → drop k (part ws p q) ≡ part ws (p + k) q
right_part ws p q k h =
    let n : q - p ≡ k + (q - (p + k)) = omega arith in
    ap (λ m. drop k (take m (drop p ws))) n ∙ drop-take k (q - (p + k)) (drop p ws) ∙ ap (take (q - (p + k))) (drop-drop k p ws)

-- the fact with this end
unfoldable pub the_fact : List ℕ → (p q : ℕ) → FactAt
the_fact ws p q = record { cut = p + cut (part ws p q); end = q; test = test_of (number (word ws q)); says = eqb (number (word ws q) / 2) 1 }

pub record FactRead (ws : List ℕ) (p : ℕ) (x : Read Fact) : Type 0 where
  pub end : ℕ
  pub ended_at : Placed ws p end
  pub splits : is_some (split (part ws p end)) ≡ true
  pub value : x.value ≡ fact_of ws p (the_fact ws p end)
  pub place : x.place ≡ end + 1

fact_read : (l : Limits) (ws : List ℕ) (p : ℕ) (x : Read Fact) → read_fact l ws p ≡ good x → FactRead ws p x
unfolding the_fact
fact_read l ws p x e =
    let s = then_good (numbered 6 (ending l p (drop p ws))) _ x e in
    let q = s.0 in
    let at = placed l ws p q (numbered_good 6 (ending l p (drop p ws)) q s.1) in
    let items = part ws p q in
    let k = cut items in
    let n = number (word ws q) in
    let fact : Fact = record { test = test_of n; left = map item_of (take k items); right = map item_of (drop k items); says = eqb (n / 2) 1 } in
    let t = check_good (eqb (kind (word ws q)) 6 && is_some (split items)) 6 0 q (λ _. good (read fact (q + 1))) x s.2 in
    let b = and_parts (eqb (kind (word ws q)) 6) (is_some (split items)) t.0 in
    let v = value_same (read fact (q + 1)) x (good_same (read fact (q + 1)) x t.1) in
    let below = cut_below ws p q at.from in
    let left = ap (map item_of) (left_part ws p q k below) in
    let right = ap (map item_of) (right_part ws p q k below) in
    record {
      end = q;
      ended_at = at;
      splits = b.1;
      value = sym v.0 ∙ (λ i. record { test = test_of n; left = left i; right = right i; says = eqb (n / 2) 1 });
      place = sym v.1;
    }

pub cuts_fact : (ws : List ℕ) (p : ℕ) → CutsFact ws p (fact_places ws p (next_end p (drop p ws)))
unfolding read_facts the_fact
cuts_fact ws p l n fs q e =
    let a = parted (read_fact l ws p) (λ m. read_facts l n ws m) fs q e in
    let s = fact_read l ws p a.one a.is in
    let at = s.ended_at in
    let end = s.end in
    let items = part ws p end in
    let below = cut_below ws p end at.from in
    let both = cut_splits items s.splits in
    let is : the_fact ws p end ≡ fact_places ws p (next_end p (drop p ws)) = sym (ap (fact_places ws p) at.is ∙ cond-true (ltb end (length ws)) _ _ (lt-ltb end (length ws) at.within)) in
    subst (λ f. FactCut l n ws p f fs q) is (record {
      from = omega arith;
      before = below;
      within = at.within;
      left = ap (λ x. is_expression (map item_of x)) (sym (left_part ws p end (cut items) below)) ∙ both.0;
      right = ap (λ x. is_expression (map item_of x)) (sym (right_part ws p end (cut items) below)) ∙ both.1;
      first = a.first ∙ ap (λ v. v ∷ drop 1 fs) s.value;
      rest = ap (λ m. read_facts l n ws m) (sym s.place) ∙ a.behind;
    })
