-- A walk is what the machine does.
use Rattle.std.proofs.Common.{◌≡◌, ℕ, zero, suc, ◌<◌, Bool, true, cond, not, ◌&&◌, ◌||◌, eqb, ltb, ◌⊎◌, List, [], ◌∷◌, ◌++◌, length, get_or, set, Some, None, Option, unwrap_or, sym, refl, ap, ◌∙◌, subst, ap₂, inl, inr, append_assoc, append-nil, arith, length-set, get_or-set_other, get_or-set_same}
use Rattle.std.proofs.lemmas.Bool.{and_parts, eqb-true, eqb-false, cond_both}
use Rattle.domain.specs.Ring.{Ops, Laws}
use Rattle.expression.specs.declared.item.Item.{Item}
use Rattle.expression.specs.Run.{meaning}
use Rattle.expression.specs.Values.{Bank, in_table, in_proposal, answer}
use Rattle.forms.specs.Forms.{Form}
use Rattle.forms.specs.Limited.{limited}
use Rattle.forms.specs.Values.{Normal, value}
use Rattle.forms.specs.Theorems.{Valued}
use Rattle.machine.specs.Answer.{Answer, good}
use Rattle.machine.specs.Machine.{Machine, Action, store, emit, Row, straight, branch, row_at, chosen, Each}
use Rattle.machine.specs.Runs.{Place, stored, emits, turn_at, turn, taken, next, emitted, turns, after, outputs}
use Rattle.walk.specs.Settled.{Known, Holds, settled, all}
use Rattle.walk.specs.Walk.{allows, is_last, in_order, Track, nth, Acted, form_in_table, act, tested, step, walk, learn, must}
use Rattle.walk.specs.Laws.{Match, values_of, Goes, At, FirstWalk, SecondWalk}
use Rattle.walk.proofs.Chains.{none_some, good_same, some_same, split, split_check, check_true, split_fits, split_some}
use Rattle.walk.proofs.SettledLaw.{IsValue, Theory, settles}

-- Lists by place

pub each_at : {A : Type 0} (P : A → Type 0) (xs : List A) (i : ℕ) (d : A) → i < length xs → Each P xs → P (get_or xs i d)
each_at P [] i d h e = absurd (omega arith)
each_at P (x ∷ xs) zero d h e = e.0
each_at P (x ∷ xs) (suc i) d h e = each_at P xs i d (omega arith) e.1

each_set : {A : Type 0} (P : A → Type 0) (xs : List A) (i : ℕ) (y : A) → P y → Each P xs → Each P (set xs i y)
each_set P [] i y h e = tt
each_set P (x ∷ xs) zero y h e = (h, e.1)
each_set P (x ∷ xs) (suc i) y h e = (e.0, each_set P xs i y h e.1)

pub each_append : {A : Type 0} (P : A → Type 0) (xs ys : List A) → Each P xs → Each P ys → Each P (xs ++ ys)
each_append P [] ys e f = f
each_append P (x ∷ xs) ys e f = (e.0, each_append P xs ys e.1 f)

pub each_front : {A : Type 0} (P : A → Type 0) (xs ys : List A) → Each P (xs ++ ys) → Each P xs
each_front P [] ys e = tt
each_front P (x ∷ xs) ys e = (e.0, each_front P xs ys e.1)

pub each_back : {A : Type 0} (P : A → Type 0) (xs ys : List A) → Each P (xs ++ ys) → Each P ys
each_back P [] ys e = e
each_back P (x ∷ xs) ys e = each_back P xs ys e.1

each_map : {A : Type 0} (P Q : A → Type 0) → ((x : A) → P x → Q x) → (xs : List A) → Each P xs → Each Q xs
each_map P Q f [] e = tt
each_map P Q f (x ∷ xs) e = (f x e.0, each_map P Q f xs e.1)

each_all : {A : Type 0} (f : A → Bool) (xs : List A) → all f xs ≡ true → Each (λ x. f x ≡ true) xs
each_all f [] e = tt
each_all f (x ∷ xs) e = let p = and_parts (f x) (all f xs) e in (p.0, each_all f xs p.1)

nth_at : {A : Type 0} (xs : List A) (i : ℕ) (x d : A) → nth xs i ≡ Some x → (i < length xs) × (get_or xs i d ≡ x)
nth_at [] i x d e = absurd (none_some x e)
nth_at (y ∷ xs) zero x d e = (omega arith, some_same y x e)
nth_at (y ∷ xs) (suc i) x d e = let r = nth_at xs i x d e in (omega (arith, r.0), r.1)

module _ {D : Type 0} (o : Ops D) (theory : Theory o) (x s : Bank D) where
  -- Forms that have the values of a bank.
  option_valued : (v : Option (Form D)) (d : D) → ((f : Form D) → v ≡ Some f → IsValue o x s f d) → Valued o x s v (Some d)
  option_valued None d h = tt
  option_valued (Some f) d h = h f refl

  match_valued : (forms : List (Form D)) (bank : Bank D) → Match o x s forms bank → (n : ℕ) → Valued o x s (nth forms n) (Some (bank n))
  match_valued forms bank m n = option_valued (nth forms n) (bank n) (λ f e.
      let a = nth_at forms n f [] e in
      (subst (Normal o) a.1 (each_at (Normal o) forms n [] a.0 m.normal), ap (value o x s) (sym a.1) ∙ sym (m.holds n a.0)))

  -- The form of an expression of a table has the expression's value.
  pub table_value : (forms : List (Form D)) (bank : Bank D) → Match o x s forms bank → (e : List Item) (p : Form D) → form_in_table o forms e ≡ Some p → IsValue o x s p (in_table o bank x e)
  unfolding in_table
  table_value forms bank m e p is =
      let v = theory.valued x s (nth forms) (λ n. None) (λ n. Some (bank n)) (λ n. None) (match_valued forms bank m) (λ n. tt) e p is in
      (v.0, sym (ap (λ w. unwrap_or w o.zero) v.1))

  -- The same of an expression of a proposal, with a form for each symbol.
  pub proposal_value : (symbols : ℕ → Option (Form D)) (syms : Bank D) → ((n : ℕ) (f : Form D) → symbols n ≡ Some f → IsValue o x s f (syms n)) → (e : List Item) (p : Form D) → meaning (limited o (λ n. None) symbols) e ≡ Some p → IsValue o x s p (in_proposal o x syms e)
  unfolding in_proposal
  proposal_value symbols syms h e p is =
      let v = theory.valued x s (λ n. None) symbols (λ n. None) (λ n. Some (syms n)) (λ n. tt) (λ n. option_valued (symbols n) (syms n) (h n)) e p is in
      (v.0, sym (ap (λ w. unwrap_or w o.zero) v.1))

  -- Actions

  store_holds : (forms : List (Form D)) (bank : Bank D) (r : ℕ) (f : Form D) (v : D) → Match o x s forms bank → IsValue o x s f v → Match o x s (set forms r f) (λ i. cond (eqb i r) v (bank i))
  store_holds forms bank r f v m h = record {
    normal = each_set (Normal o) forms r f h.0 m.normal;
    holds = λ i within. (
        let short : i < length forms = omega (arith, length-set forms r f) in
        cond_both (eqb i r) v (bank i) (λ z. z ≡ value o x s (get_or (set forms r f) i []))
        (λ e. (let is : i ≡ r = eqb-true i r e in let lt : r < length forms = omega arith in
        sym (ap (λ j. value o x s (get_or (set forms r f) j [])) is ∙ ap (value o x s) (get_or-set_same forms r f [] lt) ∙ h.1)))
        (λ e. (let ne : ¬ (i ≡ r) = eqb-false i r e in m.holds i short ∙ sym (ap (value o x s) (get_or-set_other forms r i f [] ne)))));
  }

  pub values_append : (out more : List (ℕ × Form D)) → values_of o x s (out ++ more) ≡ values_of o x s out ++ values_of o x s more
  values_append [] more = refl
  values_append (y ∷ out) more = ap (λ l. (y.0, value o x s y.1) ∷ l) (values_append out more)

  module _ (form : List Item → Option (Form D)) (val : List Item → D) (means : (e : List Item) (p : Form D) → form e ≡ Some p → IsValue o x s p (val e)) where
    record Does (actions : List Action) (bank : Bank D) (out : List (ℕ × Form D)) (a : Acted D) : Type 0 where
      match : Match o x s a.registers (stored val actions bank)
      out_is : values_of o x s a.outputs ≡ values_of o x s out ++ emits val actions

    acts : (actions : List Action) (forms : List (Form D)) (bank : Bank D) (out : List (ℕ × Form D)) (a : Acted D) → Match o x s forms bank → act o form actions forms out ≡ Some a → Does actions bank out a
    acts [] forms bank out a m e = subst (λ (z : Acted D). Does [] bank out z) (some_same _ a e) (record { match = m; out_is = sym (append-nil (values_of o x s out)) })
    acts (store r ex ∷ rest) forms bank out a m e =
        let p = split_some (form ex) _ a e in
        let d = acts rest (set forms r p.0) (λ i. cond (eqb i r) (val ex) (bank i)) out a (store_holds forms bank r p.0 (val ex) m (means ex p.0 p.1)) p.2 in
        record { match = d.match; out_is = d.out_is }
    acts (emit port ex ∷ rest) forms bank out a m e =
        let p = split_some (form ex) _ a e in
        let more : act o form rest forms (out ++ ((port, p.0) ∷ [])) ≡ Some a = cond_both (ltb (length out) 16) (act o form rest forms (out ++ ((port, p.0) ∷ []))) None (λ z. z ≡ Some a → act o form rest forms (out ++ ((port, p.0) ∷ [])) ≡ Some a) (λ t k. k) (λ f k. absurd (none_some a k)) p.2 in
        let d = acts rest forms bank (out ++ ((port, p.0) ∷ [])) a m more in
        record {
          match = d.match;
          out_is = d.out_is ∙ ap (λ l. l ++ emits val rest) (values_append out ((port, p.0) ∷ [])) ∙ append_assoc (values_of o x s out) ((port, value o x s p.0) ∷ []) (emits val rest)
              ∙ ap (λ v. values_of o x s out ++ ((port, v) ∷ emits val rest)) (means ex p.0 p.1).1;
        }

  -- Steps

  module _ (m : Machine) where
    takes_head : (c : Place D) (t : Bool) (path : List Bool) → turns o m x (length (t ∷ path)) c ≡ t ∷ path → turn o m x c ≡ t
    unfolding turns
    takes_head c t path e = cc

    takes_tail : (c : Place D) (t : Bool) (path : List Bool) → turns o m x (length (t ∷ path)) c ≡ t ∷ path → turns o m x (length path) (next o m x c) ≡ path
    unfolding turns
    takes_tail c t path e = cc

    -- The turn that the machine takes, by the forms of the test.
    asks : (row : Row) (turn_taken : Bool) (t : Track D) (c : Place D) → row_at m c.state ≡ row → Match o x s t.registers c.registers → allows row turn_taken ≡ true → (tests : List (Known D)) → tested o row turn_taken t.registers ≡ Some tests → ((turn o m x c ≡ turn_taken) → Each (Holds o x s) tests) × (Each (Holds o x s) tests → turn o m x c ≡ turn_taken)
    asks (straight y) turn_taken t c is h ok tests e =
        let none_so = some_same [] tests e in
        (λ k. subst (Each (Holds o x s)) none_so tt, λ k. ap (turn_at (in_table o c.registers x) o) is ∙ sym ok)
    asks (branch test l r on_yes on_no) turn_taken t c is h ok tests e =
        let a = split_some (form_in_table o t.registers l) _ tests e in
        let b = split_some (form_in_table o t.registers r) _ tests a.2 in
        let k : Known D = record { test = test; left = a.0; right = b.0; says = turn_taken } in
        let one = some_same (k ∷ []) tests b.2 in
        let says : answer o test (value o x s a.0) (value o x s b.0) ≡ turn o m x c =
        ap₂ (answer o test) (table_value t.registers c.registers h l a.0 a.1).1 (table_value t.registers c.registers h r b.0 b.1).1 ∙ sym (ap (turn_at (in_table o c.registers x) o) is) in
        (λ u. subst (Each (Holds o x s)) one (says ∙ u, tt), λ u. sym says ∙ (subst (Each (Holds o x s)) (sym one) u).0)

    -- A walk: the tests that it meets, what was asked of each, and that the machine goes its way where it takes the turns or the tests have their answers.
    pub record Trail (P : Known D → Type 0) (path : List Bool) (t u : Track D) : Type 0 where
      pub tests : List (Known D)
      pub recorded : u.known ≡ t.known ++ tests
      pub passed : Each P tests
      pub way : (c : Place D) → At o x s t c → (turns o m x (length path) c ≡ path) ⊎ Each (Holds o x s) tests → Goes o x s m path t u c × Each (Holds o x s) tests

    -- what one step leaves
    record Stepped (P : Known D → Type 0) (turn_taken : Bool) (t v : Track D) : Type 0 where
      tests : List (Known D)
      recorded : v.known ≡ t.known ++ tests
      passed : Each P tests
      asked : (c : Place D) → At o x s t c → ((turn o m x c ≡ turn_taken) → Each (Holds o x s) tests) × (Each (Holds o x s) tests → turn o m x c ≡ turn_taken)
      goes : (c : Place D) → At o x s t c → turn o m x c ≡ turn_taken → At o x s v (next o m x c) × (values_of o x s v.outputs ≡ values_of o x s t.outputs ++ emitted o m x c)

    stepped : (P : Known D → Type 0) (ask : List (Known D) → Answer (Unit {0})) → ((ts : List (Known D)) → ask ts ≡ good tt → Each P ts) → (row : Row) (turn_taken : Bool) (t v : Track D) → row_at m t.state ≡ row → allows row turn_taken ≡ true → step o ask row turn_taken t ≡ good v → Stepped P turn_taken t v
    stepped P ask passes row turn_taken t v is ok e =
        let a = split_fits (tested o row turn_taken t.registers) _ v e in
        let b = split (ask a.0) _ v a.2 in
        let d = split_fits (act o (form_in_table o t.registers) (chosen row turn_taken).actions t.registers t.outputs) _ v b.2 in
        let same = good_same _ v d.2 in
        subst (λ (z : Track D). Stepped P turn_taken t z) same (record {
          tests = a.0;
          recorded = refl;
          passed = passes a.0 b.1;
          asked = λ c at. asks row turn_taken t c (ap (row_at m) at.state ∙ is) at.registers ok a.0 a.1;
          goes = λ c at turned. (
              let val = in_table o c.registers x in
              let there : row_at m c.state ≡ row = ap (row_at m) at.state ∙ is in
              let k : taken o m x c ≡ chosen row turn_taken = ap₂ chosen there turned in
              let does = acts (form_in_table o t.registers) val (table_value t.registers c.registers at.registers) (chosen row turn_taken).actions t.registers c.registers t.outputs d.0 at.registers d.1 in (
                record {
                  state = ap (λ q. q.target) k;
                  registers = subst (λ q. Match o x s d.0.registers (stored val q.actions c.registers)) (sym k) does.match;
                },
                does.out_is ∙ ap (λ q. values_of o x s t.outputs ++ emits val q.actions) (sym k),
              ));
        })

    pub trail : (P : Known D → Type 0) (ask : ℕ → List (Known D) → Answer (Unit {0})) → ((i : ℕ) (ts : List (Known D)) → ask i ts ≡ good tt → Each P ts) → (which : ℕ) (path : List Bool) (i : ℕ) (t u : Track D) → in_order which m i t.state path ≡ good tt → walk o ask m i path t ≡ good u → Trail P path t u
    unfolding in_order walk turns after outputs
    trail P ask passes which [] i t u order e = subst (λ (z : Track D). Trail P [] t z) (good_same t u e) (record {
      tests = [];
      recorded = sym (append-nil t.known);
      passed = tt;
      way = λ c at w. (record { takes = refl; state = at.state; registers = at.registers; outputs_are = sym (append-nil (values_of o x s t.outputs)) }, tt);
    })
    trail P ask passes which (turn_taken ∷ path) i t u order e =
        let row = row_at m t.state in
        let there = (chosen row turn_taken).target in
        let q = split_check (allows row turn_taken && (is_last path || not (eqb there 0))) 12 which i _ tt order in
        let ok = (and_parts (allows row turn_taken) _ q.0).0 in
        let a = split (step o (ask i) row turn_taken t) _ u e in
        let v = a.0 in
        let st = stepped P (ask i) (passes i) row turn_taken t v refl ok a.1 in
        let leads : there ≡ v.state = led_to (ask i) row turn_taken t v a.1 in
        let rest = trail P ask passes which path (suc i) v u (subst (λ z. in_order which m (suc i) z path ≡ good tt) leads q.1) a.2 in
        record {
          tests = st.tests ++ rest.tests;
          recorded = rest.recorded ∙ ap (λ l. l ++ rest.tests) st.recorded ∙ append_assoc t.known st.tests rest.tests;
          passed = each_append P st.tests rest.tests st.passed rest.passed;
          way = λ c at w. follow st rest c at w;
        }
      where
        led_to : (ask_here : List (Known D) → Answer (Unit {0})) (row : Row) (tt_turn : Bool) (t₀ v : Track D) → step o ask_here row tt_turn t₀ ≡ good v → (chosen row tt_turn).target ≡ v.state
        led_to ask_here row tt_turn t₀ v e₀ =
            let a = split_fits (tested o row tt_turn t₀.registers) _ v e₀ in
            let b = split (ask_here a.0) _ v a.2 in
            let d = split_fits (act o (form_in_table o t₀.registers) (chosen row tt_turn).actions t₀.registers t₀.outputs) _ v b.2 in
            ap (λ (z : Track D). z.state) (good_same _ v d.2)

        follow : {v : Track D} (st : Stepped P turn_taken t v) (rest : Trail P path v u) (c : Place D) → At o x s t c → (turns o m x (length (turn_taken ∷ path)) c ≡ turn_taken ∷ path) ⊎ Each (Holds o x s) (st.tests ++ rest.tests) → Goes o x s m (turn_taken ∷ path) t u c × Each (Holds o x s) (st.tests ++ rest.tests)
        follow st rest c at w =
            let turned : turn o m x c ≡ turn_taken = elim w [ inl takes ↦ takes_head c turn_taken path takes | inr hold ↦ (st.asked c at).1 (each_front (Holds o x s) st.tests rest.tests hold) ] in
            let n = st.goes c at turned in
            let sooner : (turns o m x (length path) (next o m x c) ≡ path) ⊎ Each (Holds o x s) rest.tests = elim w [ inl takes ↦ inl (takes_tail c turn_taken path takes) | inr hold ↦ inr (each_back (Holds o x s) st.tests rest.tests hold) ] in
            let g = rest.way (next o m x c) n.0 sooner in (
              record {
                takes = ap₂ ◌∷◌ turned g.0.takes;
                state = g.0.state;
                registers = g.0.registers;
                outputs_are = g.0.outputs_are ∙ ap (λ l. l ++ outputs o m x (length path) (next o m x c)) n.1 ∙ append_assoc (values_of o x s t.outputs) (emitted o m x c) (outputs o m x (length path) (next o m x c));
              },
              each_append (Holds o x s) st.tests rest.tests ((st.asked c at).0 turned) g.1,
            )

pub first_walk : {D : Type 0} (o : Ops D) → Theory o → FirstWalk o
first_walk o theory m which path t u order e x s =
    let r = trail o theory x s m (λ k. Unit {0}) (learn o) (λ i ts k. free ts) which path 0 t u order e in
    record {
      tests = r.tests;
      recorded = r.recorded;
      condition = λ c at. (λ takes. (r.way c at (inl takes)).1, λ hold. (r.way c at (inr hold)).0.takes);
      transforms = λ c at takes. (r.way c at (inl takes)).0;
    }
  where
    free : {A : Type 0} (ts : List A) → Each (λ k. Unit {0}) ts
    free [] = tt
    free (k ∷ ts) = (tt, free ts)

pub second_walk : {D : Type 0} (o : Ops D) → Laws o → Theory o → SecondWalk o
second_walk o laws theory m which path known t u order e x s holds c at =
    let r = trail o theory x s m (λ k. settled o known k ≡ true) (must o known) (λ i ts k. each_all (settled o known) ts (check_true (all (settled o known) ts) 14 2 i k)) which path 0 t u order e in
    (r.way c at (inr (each_map (λ k. settled o known k ≡ true) (Holds o x s) (λ k q. settles o laws theory x s known k holds q) r.tests r.passed))).0
