-- What is left of the reading of a pair where only its counts are told.
use Rattle.std.proofs.Common.{◌≡◌, ℕ, zero, suc, ◌^◌, Bool, true, false, ◌&&◌, eqb, ltb, leb, List, [], ◌∷◌, length, sym, refl, ap, ◌∙◌}
use Rattle.expression.specs.Words.{kind, number}
use Rattle.machine.specs.declared.words.Limits.{Limits}
use Rattle.machine.specs.declared.head.Head.{Head}
use Rattle.machine.specs.Answer.{Answer, good, refused, ◌then◌, check}
use Rattle.machine.proofs.Chains.{then_good, good_same}
use Rattle.proposal.specs.Proposal.{Fact}
use Rattle.proposal.specs.Reading.{Read, read, word_at, no_more, all_stored, bits, due, proposal_limits, HeadOfPair, pair_head, is_state, read_pair_head, symbols_exist, read_mask, registers_of, read_fact, read_facts, read_body, read_pair}
use Rattle.proposal.specs.Places.{behind, mask_word, body_places, head_of, head_of_pair, the_counts, head_told, body_head}
use Rattle.proposal.proofs.Chain.{then_assoc, then_same}

-- as many facts are read as are counted
pub facts_counted : (l : Limits) (n : ℕ) (ws : List ℕ) (p : ℕ) (z : Read (List Fact)) → read_facts l n ws p ≡ good z → length z.value ≡ n
unfolding read_facts
facts_counted l zero ws p z e = sym (ap (λ x. length x.value) (good_same (read [] p) z e))
facts_counted l (suc n) ws p z e =
    let a = then_good (read_fact l ws p) _ z e in
    let b = then_good (read_facts l n ws a.0.place) _ z a.2 in
    let same = good_same (read (a.0.value ∷ b.0.value) b.0.place) z b.2 in
    sym (ap (λ x. length x.value) same) ∙ ap suc (facts_counted l n ws a.0.place b.0 b.1)

checked : {X Y : Type 0} (d : Answer (Unit {0})) (u : X) (g : X → Y) (v : Y) → g u ≡ v → ((d then λ _. good u) then λ q. good (g q)) ≡ (d then λ _. good v)
checked (good _) u g v e = ap good e
checked (refused n m p) u g v e = refl

module _ {Z W V : Type 0} (c : ℕ → Answer (Read Z)) (d : ℕ → Answer (Unit {0})) (g : W → V) (v : V) where
  last : (q : ℕ) (k : Read Z → W) → ((z : Read Z) → c q ≡ good z → g (k z) ≡ v) → ((c q then λ z. d z.place then λ _. good (k z)) then λ w. good (g w)) ≡ (behind (c q) then λ p. d p then λ _. good v)
  last q k h =
      then_assoc (c q) (λ z. d z.place then λ _. good (k z)) (λ w. good (g w))
      ∙ then_same (c q) _ (λ z. d z.place then λ _. good v) (λ z e. checked (d z.place) (k z) g v (h z e))
      ∙ sym (then_assoc (c q) (λ z. good z.place) (λ p. d p then λ _. good v))

  places : {X Y : Type 0} (a : Answer (Read X)) (b : ℕ → Answer (Read Y)) (k : Read X → Read Y → Read Z → W) → ((x : Read X) (y : Read Y) (q : ℕ) (z : Read Z) → c q ≡ good z → g (k x y z) ≡ v)
      → ((a then λ x. b x.place then λ y. c y.place then λ z. d z.place then λ _. good (k x y z)) then λ w. good (g w)) ≡ ((behind a then λ p. behind (b p) then λ q. behind (c q)) then λ p. d p then λ _. good v)
  places (refused n m p) b k h = refl
  places {X} {Y} (good x) b k h = second (b x.place)
    where
      second : (o : Answer (Read Y)) → ((o then λ y. c y.place then λ z. d z.place then λ _. good (k x y z)) then λ w. good (g w)) ≡ ((behind o then λ q. behind (c q)) then λ p. d p then λ _. good v)
      second (refused n m p) = refl
      second (good y) = last y.place (k x y) (λ z e. h x y y.place z e)

-- behind a mask
by_mask : {X Y : Type 0} (ws : List ℕ) (n symbols p : ℕ) (f : List Bool → Answer X) (g : X → Answer Y) (k : ℕ → Answer Y) → ((w : ℕ) → (f (bits n (number w)) then g) ≡ k (number w))
    → ((word_at 6 ws p then λ w. read_mask n symbols p w then f) then g) ≡ (mask_word ws n symbols p then k)
unfolding read_mask
by_mask ws n symbols p f g k h =
    then_assoc (word_at 6 ws p) (λ w. read_mask n symbols p w then f) g
    ∙ then_same (word_at 6 ws p) _ (λ w. (read_mask n symbols p w then λ _. good (number w)) then k) (λ w e. tested (eqb (kind w) 14 && (ltb (number w) (2 ^ n) && symbols_exist (bits n (number w)) 0 symbols)) w)
    ∙ sym (then_assoc (word_at 6 ws p) (λ w. read_mask n symbols p w then λ _. good (number w)) k)
  where
    tested : (b : Bool) (w : ℕ) → (((check b 6 0 p then λ _. good (bits n (number w))) then f) then g) ≡ (((check b 6 0 p then λ _. good (bits n (number w))) then λ _. good (number w)) then k)
    tested true w = h w
    tested false w = refl

pub body_told : (one two : Head) (ws : List ℕ) (h : HeadOfPair) → (read_body one two ws h then λ q. good (head_of_pair q)) ≡ body_head one two ws (head_of h)
unfolding read_body body_places
body_told one two ws h =
    let l = proposal_limits one.inputs h.symbols 4 16 in
    by_mask ws one.registers h.symbols 1 _ (λ q. good (head_of_pair q)) _ (λ v.
    by_mask ws two.registers h.symbols 2 _ (λ q. good (head_of_pair q)) _ (λ w.
    places (λ q. read_facts l h.facts ws q) (λ q. no_more 6 ws q) head_of_pair (head_of h) (all_stored 6 l (due (bits one.registers (number v)) 0) ws 3) (λ q. all_stored 6 l (due (bits two.registers (number w)) 0) ws q)
    (λ x y z. record { state₁ = h.state₁; state₂ = h.state₂; symbols = h.symbols; registers₁ = registers_of (bits one.registers (number v)) 0 x.value; registers₂ = registers_of (bits two.registers (number w)) 0 y.value; facts = z.value })
    (λ x y q z e. ap (λ n. record { first = h.state₁; second = h.state₂; symbols = h.symbols; facts = n }) (facts_counted l h.facts ws q z e))))

head_is : (states₁ states₂ w : ℕ) → (read_pair_head states₁ states₂ w then λ h. good (head_of h)) ≡ head_told states₁ states₂ w
unfolding read_pair_head
head_is states₁ states₂ w = both (eqb (kind w) 10 && (leb (pair_head (number w)).symbols 32 && leb (pair_head (number w)).facts 8)) (is_state states₁ (pair_head (number w)).state₁ && is_state states₂ (pair_head (number w)).state₂) (pair_head (number w))
  where
    both : (a b : Bool) (h : HeadOfPair) → ((check a 6 0 0 then λ _. check b 8 0 0 then λ _. good h) then λ x. good (head_of x)) ≡ (check a 6 0 0 then λ _. check b 8 0 0 then λ _. good (head_of h))
    both true true h = refl
    both true false h = refl
    both false b h = refl

pub pair_told_by : (one two : Head) (ws : List ℕ) → the_counts (read_pair one two ws) ≡ (word_at 6 ws 0 then λ w. head_told one.states two.states w then λ h. body_head one two ws h)
unfolding read_pair
pair_told_by one two ws =
    then_assoc (word_at 6 ws 0) _ _
    ∙ then_same (word_at 6 ws 0) _ _ (λ w e.
    then_assoc (read_pair_head one.states two.states w) (λ h. read_body one two ws h) (λ q. good (head_of_pair q))
    ∙ then_same (read_pair_head one.states two.states w) _ (λ h. body_head one two ws (head_of h)) (λ h k. body_told one two ws h)
    ∙ sym (then_assoc (read_pair_head one.states two.states w) (λ h. good (head_of h)) (λ h. body_head one two ws h))
    ∙ ap (λ x. x then λ h. body_head one two ws h) (head_is one.states two.states w))
