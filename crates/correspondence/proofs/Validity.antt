-- A claim that is accepted is valid.
use Rattle.std.proofs.Common.{◌≡◌, ℕ, zero, suc, ◌+◌, ◌<◌, Bool, true, false, not, ◌&&◌, ◌||◌, eqb, ◌≢◌, List, [], ◌∷◌, ◌++◌, length, get_or, Some, None, Option, sym, refl, ap, ◌∙◌, subst, ap₂, inl, true≢false, arith}
use mathlib.Core.Bool.{false≢true}
use Rattle.std.proofs.lemmas.Bool.{and_parts, not-true, eqb-true, eqb-false}
use Rattle.domain.specs.Ring.{Ops, Laws}
use Rattle.expression.specs.declared.item.Item.{Item}
use Rattle.expression.specs.Values.{Bank, in_table, in_proposal, answer}
use Rattle.forms.specs.Forms.{Form, symbol_form, same_form}
use Rattle.forms.specs.Values.{Normal, value}
use Rattle.machine.specs.Answer.{Answer, good, refused, ◌then◌, check}
use Rattle.machine.specs.Machine.{Machine, Row, straight, branch, row_at, chosen, Each}
use Rattle.machine.specs.Runs.{Place, turn, turn_at, next, turns, after, Clear}
use Rattle.walk.specs.Settled.{Known, settled, all, Holds}
use Rattle.walk.specs.Walk.{allows, is_last, in_order, Track, nth, tested, step, walk, learn, must, form_in_table}
use Rattle.walk.specs.Laws.{Match, values_of, At}
use Rattle.walk.proofs.Chains.{refused_good, none_some, good_same, some_same, split, split_check, check_true, split_fits, split_some}
use Rattle.walk.proofs.SettledLaw.{IsValue, Theory, symbol_value, settles}
use Rattle.walk.proofs.Following.{each_append, proposal_value, table_value, trail, second_walk}
use Rattle.proposal.specs.Proposal.{Fact, Pair}
use Rattle.correspondence.specs.Judgement.{form_in_proposal, formed, fact_form, fact_forms, Started, started, at_start, other_settled, never_taken, same_outputs, is_form, same_registers, facts_settled, end_holds, live_rules, infeasible_rules}
use Rattle.correspondence.proofs.Meaning as meaning

-- Of the steps on a path only the last enters state 0.
module _ {V : Type 0} (o : Ops V) (m : Machine) (x : Bank V) where
  takes_head : (c : Place V) (t : Bool) (path : List Bool) → meaning.Takes o m x c (t ∷ path) → turn o m x c ≡ t
  unfolding turns
  takes_head c t path e = cc

  takes_tail : (c : Place V) (t : Bool) (path : List Bool) → meaning.Takes o m x c (t ∷ path) → meaning.Takes o m x (next o m x c) path
  unfolding turns
  takes_tail c t path e = cc

  clear_of : (which i : ℕ) (path : List Bool) (c : Place V) → in_order which m i c.state path ≡ good tt → meaning.Takes o m x c path → Clear o m x (length path) c
  unfolding in_order after
  clear_of which i [] c order takes k positive short = absurd (omega arith)
  clear_of which i (t ∷ []) c order takes k positive short = absurd (omega arith)
  clear_of which i (t ∷ (u ∷ path)) c order takes zero positive short = absurd (omega arith)
  clear_of which i (t ∷ (u ∷ path)) c order takes (suc k) positive short =
      let row = row_at m c.state in
      let there = (chosen row t).target in
      let q = split_check (allows row t && (is_last (u ∷ path) || not (eqb there 0))) 12 which i _ tt order in
      let far : there ≢ 0 = eqb-false there 0 (not-true (eqb there 0) (and_parts (allows row t) _ q.0).1) in
      let led : (next o m x c).state ≡ there = ap (λ b. (chosen row b).target) (takes_head c t (u ∷ path) takes) in
      let later = clear_of which (suc i) (u ∷ path) (next o m x c) (subst (λ s. in_order which m (suc i) s (u ∷ path) ≡ good tt) (sym led) q.1) (takes_tail c t (u ∷ path) takes) in
      go k (λ z. far (sym led ∙ z)) (λ n. later (suc n) (omega arith)) short
    where
      go : (k : ℕ) → (next o m x c).state ≢ 0 → ((n : ℕ) → suc n < length (u ∷ path) → (after o m x (suc n) (next o m x c)).state ≢ 0) → suc k < length (t ∷ (u ∷ path)) → (after o m x k (next o m x c)).state ≢ 0
      go zero now later short = now
      go (suc k) now later short = later k (omega arith)

nth_get_or : {A : Type 0} (xs : List A) (i : ℕ) (x d : A) → nth xs i ≡ Some x → (i < length xs) × (get_or xs i d ≡ x)
nth_get_or [] i x d e = absurd (none_some x e)
nth_get_or (y ∷ xs) zero x d e = (omega arith, some_same y x e)
nth_get_or (y ∷ xs) (suc i) x d e = let r = nth_get_or xs i x d e in (omega (arith, r.0), r.1)

each_none : {A : Type 0} (ts : List A) → Each (λ k. Unit {0}) ts
each_none [] = tt
each_none (k ∷ ts) = (tt, each_none ts)

module _ {D : Type 0} (o : Ops D) (laws : Laws o) (theory : Theory o) (x s : Bank D) where
  -- Forms of the symbols, with values.
  module _ (symbols : ℕ → Option (Form D)) (syms : Bank D) (means : (n : ℕ) (f : Form D) → symbols n ≡ Some f → IsValue o x s f (syms n)) where
    value_of : (e : List Item) (f : Form D) → form_in_proposal o symbols e ≡ Some f → IsValue o x s f (in_proposal o x syms e)
    value_of e f is = proposal_value o theory x s symbols syms means e f is

    -- The forms of a pair's registers, and what the machine's registers hold.
    formed_match : (es : List (List Item)) (fs : List (Form D)) (bank : Bank D) → formed o symbols es ≡ Some fs → ((r : ℕ) → r < length es → bank r ≡ in_proposal o x syms (get_or es r [])) → Match o x s fs bank
    formed_match [] fs bank e h = subst (λ l. Match o x s l bank) (some_same [] fs e) (record { normal = tt; holds = λ r within. absurd (omega arith) })
    formed_match (ex ∷ es) fs bank e h =
        let a = split_some (form_in_proposal o symbols ex) _ fs e in
        let b = split_some (formed o symbols es) _ fs a.2 in
        let v = value_of ex a.0 a.1 in
        let rest = formed_match es b.0 (λ r. bank (suc r)) b.1 (λ r within. h (suc r) (omega arith)) in
        subst (λ l. Match o x s l bank) (some_same _ fs b.2) (record {
          normal = (v.0, rest.normal);
          holds = λ r within. at a.0 b.0 r within (h 0 (omega arith) ∙ sym v.1) rest.holds;
        })
      where
        at : (f : Form D) (gs : List (Form D)) (r : ℕ) → r < length (f ∷ gs) → bank 0 ≡ value o x s f → ((i : ℕ) → i < length gs → bank (suc i) ≡ value o x s (get_or gs i [])) → bank r ≡ value o x s (get_or (f ∷ gs) r [])
        at f gs zero within z more = z
        at f gs (suc r) within z more = more r (omega arith)

    -- A fact and its form say the same.
    fact_same : (f : Fact) (k : Known D) → fact_form o symbols f ≡ Some k → (meaning.FactHolds o x syms f → Holds o x s k) × (Holds o x s k → meaning.FactHolds o x syms f)
    fact_same f k e =
        let a = split_some (form_in_proposal o symbols f.left) _ k e in
        let b = split_some (form_in_proposal o symbols f.right) _ k a.2 in
        let is = some_same _ k b.2 in
        let both = ap₂ (answer o f.test) (value_of f.left a.0 a.1).1 (value_of f.right b.0 b.1).1 in
        (λ h. subst (Holds o x s) is (both ∙ h), λ h. sym both ∙ subst (Holds o x s) (sym is) h)

    facts_known : (fs : List Fact) (ks : List (Known D)) → fact_forms o symbols fs ≡ Some ks → Each (meaning.FactHolds o x syms) fs → Each (Holds o x s) ks
    facts_known [] ks e h = subst (Each (Holds o x s)) (some_same [] ks e) tt
    facts_known (f ∷ fs) ks e h =
        let a = split_some (fact_form o symbols f) _ ks e in
        let b = split_some (fact_forms o symbols fs) _ ks a.2 in
        subst (Each (Holds o x s)) (some_same _ ks b.2) ((fact_same f a.0 a.1).0 h.0, facts_known fs b.0 b.1 h.1)

    -- Settled facts hold where what is known does.
    facts_true : (known : List (Known D)) (i : ℕ) (fs : List Fact) → Each (Holds o x s) known → facts_settled o known symbols i fs ≡ good tt → Each (meaning.FactHolds o x syms) fs
    unfolding facts_settled
    facts_true known i [] h e = tt
    facts_true known i (f ∷ fs) h e =
        let a = split_fits (fact_form o symbols f) _ tt e in
        let b = split_check (settled o known a.0) 18 0 i _ tt a.2 in
        ((fact_same f a.0 a.1).1 (settles o laws theory x s known a.0 h b.0), facts_true known (suc i) fs h b.1)

    -- Registers reached are what the pair gives.
    is_form_same : (f : Form D) (v : Option (Form D)) → is_form o f v ≡ true → v ≡ Some f
    is_form_same f None e = absurd (false≢true e)
    is_form_same f (Some g) e = ap Some (sym (theory.lawful.same_yes f g e))

    registers_given : (which r : ℕ) (es : List (List Item)) (reached : List (Form D)) → same_registers o which symbols r es reached ≡ good tt → (i : ℕ) → i < length es → (f : Form D) × (form_in_proposal o symbols (get_or es i []) ≡ Some f) × (nth reached (r + i) ≡ Some f)
    unfolding same_registers
    registers_given which r [] reached e i l = absurd (omega arith)
    registers_given which r (ex ∷ es) reached e zero l =
        let a = split_fits (form_in_proposal o symbols ex) _ tt e in
        let b = split_check (is_form o a.0 (nth reached r)) 17 which r _ tt a.2 in
        let z : r + 0 ≡ r = omega arith in
        (a.0, a.1, ap (nth reached) z ∙ is_form_same a.0 (nth reached r) b.0)
    registers_given which r (ex ∷ es) reached e (suc i) l =
        let a = split_fits (form_in_proposal o symbols ex) _ tt e in
        let b = split_check (is_form o a.0 (nth reached r)) 17 which r _ tt a.2 in
        let ih = registers_given which (suc r) es reached b.1 i (omega arith) in
        let z : r + suc i ≡ suc r + i = omega arith in
        (ih.0, ih.1, ap (nth reached) z ∙ ih.2)

    gives : (which : ℕ) (es : List (List Item)) (reached : List (Form D)) (bank : Bank D) → same_registers o which symbols 0 es reached ≡ good tt → Match o x s reached bank → (r : ℕ) → r < length es → bank r ≡ in_proposal o x syms (get_or es r [])
    gives which es reached bank e m r within =
        let g = registers_given which 0 es reached e r within in
        let z : 0 + r ≡ r = omega arith in
        let n = nth_get_or reached r g.0 [] (sym (ap (nth reached) z) ∙ g.2) in
        m.holds r n.0 ∙ ap (value o x s) n.1 ∙ (value_of (get_or es r []) g.0 g.1).1

  outputs_same : (i : ℕ) (one two : List (ℕ × Form D)) → same_outputs o i one two ≡ good tt → one ≡ two
  unfolding same_outputs
  outputs_same i [] [] e = refl
  outputs_same i [] (y ∷ ys) e = absurd (refused_good 15 0 i tt e)
  outputs_same i (y ∷ ys) [] e = absurd (refused_good 15 0 i tt e)
  outputs_same i (y ∷ ys) (z ∷ zs) e =
      let h = split_check (eqb y.0 z.0 && same_form o y.1 z.1) 15 0 i _ tt e in
      let k = and_parts (eqb y.0 z.0) (same_form o y.1 z.1) h.0 in
      let p = eqb-true y.0 z.0 k.0 in
      let q = theory.lawful.same_yes y.1 z.1 k.1 in
      let rest = outputs_same (suc i) ys zs h.1 in
      λ j. (p j, q j) ∷ rest j

  -- The start of the two walks.
  record Begun (p : Pair) (st : Started o) (c₁ c₂ : Place D) : Type 0 where
    at₁ : At o x s (at_start o p.state₁ st.registers₁ st.known) c₁
    at₂ : At o x s (at_start o p.state₂ st.registers₂ []) c₂
    known : Each (Holds o x s) st.known

  begun_at : (p : Pair) (st : Started o) (c₁ c₂ : Place D) → c₁.state ≡ p.state₁ → c₂.state ≡ p.state₂ → meaning.Gives o p x s c₁.registers c₂.registers → started o p ≡ good st → Begun p st c₁ c₂
  begun_at p st c₁ c₂ at₁ at₂ g e =
      let own = symbol_form o in
      let means = symbol_value o theory x s in
      let a = split_fits (formed o own p.registers₁) _ st e in
      let b = split_fits (formed o own p.registers₂) _ st a.2 in
      let d = split_fits (fact_forms o own p.facts) _ st b.2 in
      subst (λ (z : Started o). Begun p z c₁ c₂) (good_same _ st d.2) (record {
        at₁ = record { state = at₁; registers = formed_match own s means p.registers₁ a.0 c₁.registers a.1 g.first };
        at₂ = record { state = at₂; registers = formed_match own s means p.registers₂ b.0 c₂.registers b.1 g.second };
        known = facts_known own s means p.facts d.0 d.1 g.facts;
      })

  -- The values that a substitution gives the symbols of the end pair.
  given : List (Form D) → Bank D
  given c n = worth (nth c n)
    where
      worth : Option (Form D) → D
      worth None = o.zero
      worth (Some f) = value o x s f

  given_at : (c : List (Form D)) → Each (Normal o) c → (n : ℕ) (f : Form D) → nth c n ≡ Some f → IsValue o x s f (given c n)
  unfolding given
  given_at [] h n f e = absurd (none_some f e)
  given_at (g ∷ c) h zero f e = let is = some_same g f e in subst (λ z. IsValue o x s z (value o x s g)) is (h.0, refl)
  given_at (g ∷ c) h (suc n) f e = given_at c h.1 n f e

  each_normal : (es : List (List Item)) (fs : List (Form D)) → formed o (symbol_form o) es ≡ Some fs → Each (Normal o) fs
  each_normal [] fs e = subst (Each (Normal o)) (some_same [] fs e) tt
  each_normal (ex ∷ es) fs e =
      let a = split_some (form_in_proposal o (symbol_form o) ex) _ fs e in
      let b = split_some (formed o (symbol_form o) es) _ fs a.2 in
      subst (Each (Normal o)) (some_same _ fs b.2) ((value_of (symbol_form o) s (symbol_value o theory x s) ex a.0 a.1).0, each_normal es b.0 b.1)

  end_given : (q : Pair) (substitution : List (List Item)) (t u : Track D) (one two : Bank D) → Each (Holds o x s) t.known → Match o x s t.registers one → Match o x s u.registers two → end_holds o q substitution t u ≡ good tt → meaning.Holds o q x one two
  unfolding end_holds
  end_given q substitution t u one two known m₁ m₂ e =
      let c = split_fits (formed o (symbol_form o) substitution) _ tt e in
      let means = given_at c.0 (each_normal substitution c.0 c.1) in
      let syms = given c.0 in
      let r₁ = split (same_registers o 1 (nth c.0) 0 q.registers₁ t.registers) _ tt c.2 in
      let r₂ = split (same_registers o 2 (nth c.0) 0 q.registers₂ u.registers) _ tt r₁.2 in (
        syms,
        record {
          first = gives (nth c.0) syms means 1 q.registers₁ t.registers one r₁.1 m₁;
          second = gives (nth c.0) syms means 2 q.registers₂ u.registers two r₂.1 m₂;
          facts = facts_true (nth c.0) syms means t.known 0 q.facts known r₂.2;
        },
      )

module _ {D : Type 0} (o : Ops D) (laws : Laws o) (theory : Theory o) (one two : Machine) where
  pub live_valid : (p q : Pair) (path₁ path₂ : List Bool) (substitution : List (List Item)) → in_order 1 one 0 p.state₁ path₁ ≡ good tt → in_order 2 two 0 p.state₂ path₂ ≡ good tt → live_rules o one two p q path₁ path₂ substitution ≡ good tt → meaning.Wherever o one two p path₁ (meaning.Leads o one two q path₁ path₂)
  unfolding live_rules
  live_valid p q path₁ path₂ substitution order₁ order₂ e x c₁ c₂ is₁ is₂ holds takes =
      let s = holds.0 in
      let st = split (started o p) _ tt e in
      let start₁ = at_start o p.state₁ st.0.registers₁ st.0.known in
      let start₂ = at_start o p.state₂ st.0.registers₂ [] in
      let b = begun_at o laws theory x s p st.0 c₁ c₂ is₁ is₂ holds.1 st.1 in
      let t = split (walk o (learn o) one 0 path₁ start₁) _ tt st.2 in
      let u = split (walk o (must o t.0.known) two 0 path₂ start₂) _ tt t.2 in
      let out = split (same_outputs o 0 t.0.outputs u.0.outputs) _ tt u.2 in
      let ends = split_check (eqb t.0.state q.state₁ && eqb u.0.state q.state₂) 16 0 0 _ tt out.2 in
      let both = and_parts (eqb t.0.state q.state₁) (eqb u.0.state q.state₂) ends.0 in
      let r = trail o theory x s one (λ k. Unit {0}) (learn o) (λ i ts k. each_none ts) 1 path₁ 0 start₁ t.0 order₁ t.1 in
      let w = r.way c₁ b.at₁ (inl takes) in
      let known : Each (Holds o x s) t.0.known = subst (Each (Holds o x s)) (sym r.recorded) (each_append (Holds o x s) st.0.known r.tests b.known w.1) in
      let v = second_walk o laws theory two 2 path₂ t.0.known start₂ u.0 order₂ u.1 x s known c₂ b.at₂ in
      record {
        takes₂ = v.takes;
        clear₁ = clear_of o one x 1 0 path₁ c₁ (subst (λ z. in_order 1 one 0 z path₁ ≡ good tt) (sym is₁) order₁) takes;
        clear₂ = clear_of o two x 2 0 path₂ c₂ (subst (λ z. in_order 2 two 0 z path₂ ≡ good tt) (sym is₂) order₂) v.takes;
        same_out = sym w.0.outputs_are ∙ ap (values_of o x s) (outputs_same o laws theory x s 0 t.0.outputs u.0.outputs out.1) ∙ v.outputs_are;
        ends₁ = w.0.state ∙ eqb-true t.0.state q.state₁ both.0;
        ends₂ = v.state ∙ eqb-true u.0.state q.state₂ both.1;
        holds = end_given o laws theory x s q substitution t.0 u.0 _ _ known w.0.registers v.registers ends.1;
      }

  -- An infeasible path: all but its last step, and the last.
  record Blocked (path : List Bool) (t : Track D) : Type 0 where
    before : List Bool
    last : Bool
    there : Track D
    path_is : path ≡ before ++ (last ∷ [])
    walked : walk o (learn o) one 0 before t ≡ good there
    stopped : other_settled o (row_at one there.state) last there ≡ good tt

  -- Where nothing is asked, steps may be counted from anywhere.
  from_any : (path : List Bool) (i j : ℕ) (t : Track D) → walk o (learn o) one i path t ≡ walk o (learn o) one j path t
  unfolding walk
  from_any [] i j t = refl
  from_any (turn_taken ∷ path) i j t = go (step o (learn o i) (row_at one t.state) turn_taken t) (from_any path (suc i) (suc j))
    where
      go : (a : Answer (Track D)) → ((u : Track D) → walk o (learn o) one (suc i) path u ≡ walk o (learn o) one (suc j) path u) → (a then λ u. walk o (learn o) one (suc i) path u) ≡ (a then λ u. walk o (learn o) one (suc j) path u)
      go (good u) h = h u
      go (refused a b c) h = refl

  blocked : (path : List Bool) (t : Track D) → never_taken o one path t ≡ good tt → Blocked path t
  unfolding never_taken walk
  blocked [] t e = absurd (refused_good 13 0 0 tt e)
  blocked (turn_taken ∷ []) t e = record { before = []; last = turn_taken; there = t; path_is = refl; walked = refl; stopped = e }
  blocked (turn_taken ∷ (v ∷ path)) t e =
      let a = split (step o (learn o 0) (row_at one t.state) turn_taken t) _ tt e in
      let ih = blocked (v ∷ path) a.0 a.2 in
      record {
        before = turn_taken ∷ ih.before;
        last = ih.last;
        there = ih.there;
        path_is = ap (λ l. turn_taken ∷ l) ih.path_is;
        walked = ap (λ z. z then λ u. walk o (learn o) one 1 ih.before u) a.1 ∙ from_any ih.before 1 0 a.0 ∙ ih.walked;
        stopped = ih.stopped;
      }

  -- The beginning of a path is in order too.
  front_order : (which i s : ℕ) (front : List Bool) (last : Bool) → in_order which one i s (front ++ (last ∷ [])) ≡ good tt → in_order which one i s front ≡ good tt
  unfolding in_order
  front_order which i s [] last e = refl
  front_order which i s (t ∷ []) last e =
      let there = (chosen (row_at one s) t).target in
      let q = split_check (allows (row_at one s) t && (false || not (eqb there 0))) 12 which i _ tt e in
      ap (λ b. check (b && true) 12 which i then λ _. good tt) (and_parts (allows (row_at one s) t) _ q.0).0
  front_order which i s (t ∷ (u ∷ front)) last e =
      let there = (chosen (row_at one s) t).target in
      let q = split_check (allows (row_at one s) t && (false || not (eqb there 0))) 12 which i _ tt e in
      ap (λ b. check b 12 which i then λ _. in_order which one (suc i) there (u ∷ front)) q.0 ∙ front_order which (suc i) there (u ∷ front) last q.1

  but_last : (x : Bank D) (front : List Bool) (last : Bool) (c : Place D) → meaning.Takes o one x c (front ++ (last ∷ [])) → meaning.Takes o one x c front × (turn o one x (after o one x (length front) c) ≡ last)
  unfolding turns after
  but_last x [] last c takes = (refl, takes_head o one x c last [] takes)
  but_last x (t ∷ front) last c takes =
      let rest = but_last x front last (next o one x c) (takes_tail o one x c t (front ++ (last ∷ [])) takes) in
      (ap₂ ◌∷◌ (takes_head o one x c t (front ++ (last ∷ [])) takes) rest.0, rest.1)

  apart : (t : Bool) → t ≡ not t → ⊥
  apart true e = true≢false e
  apart false e = true≢false (sym e)

  -- The machine, at the last step, gives the answer that is settled, which is the other one.
  stops : (x s : Bank D) (row : Row) (last : Bool) (t : Track D) (c : Place D) → row_at one c.state ≡ row → Match o x s t.registers c.registers → Each (Holds o x s) t.known → other_settled o row last t ≡ good tt → turn o one x c ≡ not last
  stops x s (straight y) last t c is m known e = absurd (refused_good 13 0 0 tt e)
  stops x s (branch test l r on_yes on_no) last t c is m known e =
      let a = split_fits (tested o (branch test l r on_yes on_no) (not last) t.registers) _ tt e in
      let p = split_some (form_in_table o t.registers l) _ a.0 a.1 in
      let q = split_some (form_in_table o t.registers r) _ a.0 p.2 in
      let k : Known D = record { test = test; left = p.0; right = q.0; says = not last } in
      let one_test = some_same (k ∷ []) a.0 q.2 in
      let set : all (settled o t.known) (k ∷ []) ≡ true = ap (all (settled o t.known)) one_test ∙ check_true (all (settled o t.known) a.0) 13 0 0 a.2 in
      let h : Holds o x s k = settles o laws theory x s t.known k known (and_parts (settled o t.known k) true set).0 in
      ap (turn_at (in_table o c.registers x) o) is ∙ sym (ap₂ (answer o test) (table_value o theory x s t.registers c.registers m l p.0 p.1).1 (table_value o theory x s t.registers c.registers m r q.0 q.1).1) ∙ h

  pub infeasible_valid : (p : Pair) (path₁ : List Bool) → in_order 1 one 0 p.state₁ path₁ ≡ good tt → infeasible_rules o one p path₁ ≡ good tt → meaning.Wherever o one two p path₁ (λ x c₁ c₂. ⊥)
  unfolding infeasible_rules
  infeasible_valid p path₁ order e x c₁ c₂ is₁ is₂ holds takes =
      let s = holds.0 in
      let st = split (started o p) _ tt e in
      let start = at_start o p.state₁ st.0.registers₁ st.0.known in
      let b = begun_at o laws theory x s p st.0 c₁ c₂ is₁ is₂ holds.1 st.1 in
      let k = blocked path₁ start st.2 in
      let t = but_last x k.before k.last c₁ (subst (meaning.Takes o one x c₁) k.path_is takes) in
      let front = front_order 1 0 p.state₁ k.before k.last (subst (λ l. in_order 1 one 0 p.state₁ l ≡ good tt) k.path_is order) in
      let r = trail o theory x s one (λ q. Unit {0}) (learn o) (λ i ts q. each_none ts) 1 k.before 0 start k.there front k.walked in
      let w = r.way c₁ b.at₁ (inl t.0) in
      let known : Each (Holds o x s) k.there.known = subst (Each (Holds o x s)) (sym r.recorded) (each_append (Holds o x s) st.0.known r.tests b.known w.1) in
      let here = after o one x (length k.before) c₁ in
      apart k.last (sym t.1 ∙ stops x s (row_at one k.there.state) k.last k.there here (ap (row_at one) w.0.state) w.0.registers known k.stopped)
