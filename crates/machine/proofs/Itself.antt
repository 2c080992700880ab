-- A machine whose registers are all shared is equivalent to itself: runs from registers that agree on the shared ones do the same.
use Rattle.std.proofs.Common.{◌≡◌, ℕ, zero, suc, ◌≤◌, Bool, true, false, cond, eqb, List, [], ◌∷◌, ◌++◌, length, Some, None, Option, unwrap_or, sym, refl, ap, ◌∙◌, ap₂, arith}
use Rattle.domain.specs.Ring.{Ops}
use Rattle.expression.specs.declared.item.Item.{Item}
use Rattle.expression.specs.declared.item.Item.TheVariants.{Constant, Register, Input, Symbol, Sum, Difference, Product, Negation}
use Rattle.expression.specs.Run.{Algebra, and_then, step, run, only, meaning}
use Rattle.expression.specs.Values.{Bank, values, in_table, answer}
use Rattle.machine.specs.Machine.{Machine, Action, store, emit, Row, straight, branch, row_at, chosen, Each}
use Rattle.machine.specs.Sound.{ItemStands, ExpressionStands, ActionStands, RowStands}
use Rattle.machine.specs.Runs.{Outputs, Place, reset, stored, emits, turn_at, turn, taken, next, emitted, after, outputs, Returns, Rounds, no_round, round, Agree, Equivalent, Reflexive}
use Rattle.machine.proofs.Lists.{each_or, each_map}
use Rattle.machine.proofs.Runs.{rounds_once}

module _ {V : Type 0} (o : Ops V) (registers inputs shared : ℕ) (within : registers ≤ shared) where
  -- A row whose expressions read nothing but what is there.
  abbrev Reads : Row → Type 0
  Reads (straight t) = Each (ActionStands registers inputs) t.actions
  Reads (branch test l r y n) = ExpressionStands registers inputs l × ExpressionStands registers inputs r × Each (ActionStands registers inputs) y.actions × Each (ActionStands registers inputs) n.actions

  chosen_reads : (row : Row) (b : Bool) → Reads row → Each (ActionStands registers inputs) (chosen row b).actions
  chosen_reads (straight t) b h = h
  chosen_reads (branch test l r y n) true h = h.2
  chosen_reads (branch test l r y n) false h = h.3

  stands_reads : (states : ℕ) (row : Row) → RowStands registers inputs states row → Reads row
  stands_reads states (straight t) h = h.each
  stands_reads states (branch test l r y n) h = (h.0, h.1, h.2.each, h.3.each)

  -- Values read no register but those that are there.
  module _ (x one two : Bank V) (agree : Agree o shared one two) where
    abbrev over : Bank V → Algebra V
    over b = values o (λ n. Some (b n)) (λ n. Some (x n)) (λ n. None)

    step_agrees : (i : Item) (s : List V) → ItemStands registers inputs i → step (over one) i s ≡ step (over two) i s
    step_agrees (Constant n) s h = refl
    step_agrees (Register n) s h = ap (λ v. Some (v ∷ s)) (agree n (omega arith))
    step_agrees (Input n) s h = refl
    step_agrees (Symbol n) s h = refl
    step_agrees Sum s h = refl
    step_agrees Difference s h = refl
    step_agrees Product s h = refl
    step_agrees Negation s h = refl

    run_agrees : (e : List Item) (s : List V) → Each (ItemStands registers inputs) e → run (over one) e s ≡ run (over two) e s
    run_agrees [] s h = refl
    run_agrees (i ∷ e) s h = ap (λ q. and_then q (λ t. run (over one) e t)) (step_agrees i s h.0) ∙ go (step (over two) i s) (λ t. run_agrees e t h.1)
      where
        go : (q : Option (List V)) → ((t : List V) → run (over one) e t ≡ run (over two) e t) → and_then q (λ t. run (over one) e t) ≡ and_then q (λ t. run (over two) e t)
        go None more = refl
        go (Some t) more = more t

    pub values_agree : (e : List Item) → ExpressionStands registers inputs e → in_table o one x e ≡ in_table o two x e
    unfolding in_table meaning
    values_agree e h = ap (λ q. unwrap_or (and_then q only) o.zero) (run_agrees e [] h.1)

    stored_agrees : (actions : List Action) (b c : Bank V) → Each (ActionStands registers inputs) actions → Agree o shared b c → Agree o shared (stored (in_table o one x) actions b) (stored (in_table o two x) actions c)
    stored_agrees [] b c h near = near
    stored_agrees (store r e ∷ rest) b c h near = stored_agrees rest _ _ h.1 (λ i below. ap₂ (cond (eqb i r)) (values_agree e h.0.1) (near i below))
    stored_agrees (emit port e ∷ rest) b c h near = stored_agrees rest b c h.1 near

    emits_agree : (actions : List Action) → Each (ActionStands registers inputs) actions → emits (in_table o one x) actions ≡ emits (in_table o two x) actions
    emits_agree [] h = refl
    emits_agree (store r e ∷ rest) h = emits_agree rest h.1
    emits_agree (emit port e ∷ rest) h = ap₂ (λ v l. (port, v) ∷ l) (values_agree e h.0.1) (emits_agree rest h.1)

    turn_agrees : (row : Row) → Reads row → turn_at (in_table o one x) o row ≡ turn_at (in_table o two x) o row
    turn_agrees (straight t) h = refl
    turn_agrees (branch test l r y n) h = ap₂ (answer o test) (values_agree l h.0) (values_agree r h.1)

  module _ (m : Machine) (reads : Each Reads m.rows) (x : Bank V) where
    -- Both stand in one state, and agree on the shared registers.
    record Near (c d : Place V) : Type 0 where
      state_is : c.state ≡ d.state
      agree : Agree o shared c.registers d.registers

    row_reads : (s : ℕ) → Reads (row_at m s)
    row_reads s = each_or Reads m.rows s _ reads tt

    turn_near : (c d : Place V) → Near c d → turn o m x c ≡ turn o m x d
    turn_near c d n = turn_agrees x c.registers d.registers n.agree (row_at m c.state) (row_reads c.state) ∙ ap (λ s. turn_at (in_table o d.registers x) o (row_at m s)) n.state_is

    taken_near : (c d : Place V) → Near c d → taken o m x c ≡ taken o m x d
    taken_near c d n = ap₂ (λ s b. chosen (row_at m s) b) n.state_is (turn_near c d n)

    taken_reads : (d : Place V) → Each (ActionStands registers inputs) (taken o m x d).actions
    taken_reads d = chosen_reads (row_at m d.state) (turn o m x d) (row_reads d.state)

    next_near : (c d : Place V) → Near c d → Near (next o m x c) (next o m x d)
    next_near c d n =
        let is = taken_near c d n in
        record {
          state_is = ap (λ t. t.target) is;
          agree = λ r below. ap (λ t. stored (in_table o c.registers x) t.actions c.registers r) is ∙ stored_agrees x c.registers d.registers n.agree (taken o m x d).actions c.registers d.registers (taken_reads d) n.agree r below;
        }

    emitted_near : (c d : Place V) → Near c d → emitted o m x c ≡ emitted o m x d
    emitted_near c d n = ap (λ t. emits (in_table o c.registers x) t.actions) (taken_near c d n) ∙ emits_agree x c.registers d.registers n.agree (taken o m x d).actions (taken_reads d)

    after_near : (k : ℕ) (c d : Place V) → Near c d → Near (after o m x k c) (after o m x k d)
    unfolding after
    after_near zero c d n = n
    after_near (suc k) c d n = after_near k (next o m x c) (next o m x d) (next_near c d n)

    outputs_near : (k : ℕ) (c d : Place V) → Near c d → outputs o m x k c ≡ outputs o m x k d
    unfolding outputs
    outputs_near zero c d n = refl
    outputs_near (suc k) c d n = ap₂ ◌++◌ (emitted_near c d n) (outputs_near k (next o m x c) (next o m x d) (next_near c d n))

    returns_near : (c d : Place V) (out : Outputs V) (left : Bank V) → Near c d → Returns o m x c out left → (left' : Bank V) × Returns o m x d out left' × Agree o shared left left'
    returns_near c d out left n r =
        let end = after_near r.steps c d n in (
          (after o m x r.steps d).registers,
          record {
            steps = r.steps;
            some = r.some;
            clear = λ k positive before z. r.clear k positive before ((after_near k c d n).state_is ∙ z);
            arrived = sym end.state_is ∙ r.arrived;
            out_is = r.out_is ∙ outputs_near r.steps c d n;
            left_is = refl;
          },
          λ i below. ap (λ b. b i) r.left_is ∙ end.agree i below,
        )

    reset_near : (one two : Bank V) → Agree o shared one two → Near (reset one) (reset two)
    reset_near one two agree = record { state_is = refl; agree = agree }

  module _ (m : Machine) (reads : Each Reads m.rows) where
    rounds_near : {rounds : List (Bank V)} {one left : Bank V} {out : Outputs V} (two : Bank V) → Agree o shared one two → Rounds o m rounds one out left → (left' : Bank V) × Rounds o m rounds two out left' × Agree o shared left left'
    rounds_near two agree no_round = (two, no_round, agree)
    rounds_near two agree (round {inputs = x} {start = one} {between = between} {out = out} r rest) =
        let f = returns_near m reads x (reset one) (reset two) out between (reset_near m reads x one two agree) r in
        let g = rounds_near f.0 f.2 rest in
        (g.0, round f.1 g.1, g.2)

    back : {one two : Bank V} → Agree o shared one two → Agree o shared two one
    back agree i below = sym (agree i below)

    itself : Equivalent o m m shared
    itself start₁ start₂ agree rounds = record {
      complete = (
        λ c. (let t = rounds_near start₂ agree c.2 in (c.0, t.0, t.1)),
        λ c. (let t = rounds_near start₁ (back agree) c.2 in (c.0, t.0, t.1)),
      );
      agree = λ out₁ out₂ left₁ left₂ r s.
          let t = rounds_near start₂ agree r in
          let q = rounds_once o m t.1 s in
          (q.0, λ i below. t.2 i below ∙ ap (λ b. b i) q.1);
    }

pub reflexive : {V : Type 0} (o : Ops V) → Reflexive o
reflexive o m shared sound within =
    let reads = each_map _ _ m.rows (stands_reads o m.registers m.inputs shared within (length m.rows)) sound.rows_stand in
    itself o m.registers m.inputs shared within m reads
