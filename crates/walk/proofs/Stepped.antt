-- One step: its row, the test that it puts and the transition that it takes.
use Rattle.std.proofs.Common.{◌≡◌, ℕ, ◌+◌, ◌<◌, ◌≤◌, Bool, true, false, List, [], ◌∷◌, ◌++◌, length, get_or, IfOk, Some, None, Ok, Err, Option, Result, sym, refl, ap, ◌∙◌, subst, ap₂, inr, arith}
use Rattle.domain.specs.Ring.{Ops}
use Rattle.expression.specs.declared.test.Test.{Test}
use Rattle.forms.specs.Forms.{Form}
use Rattle.machine.specs.declared.row.Row as view
use Rattle.machine.specs.Answer.{Answer, good, refused, ◌then◌, check}
use Rattle.machine.specs.Machine.{Action, store, emit, Transition, Row, straight, branch, row_at, chosen, Each}
use Rattle.machine.specs.Reading.{row_of}
use Rattle.machine.specs.Views.{ahead, IsRow}
use Rattle.machine.specs.Sound.{ActionStands, TransitionStands, RowStands}
use Rattle.machine.proofs.Encodes.{sound_tables}
use Rattle.workspace.specs.Slots.{told}
use Rattle.walk.specs.Lists.{KnownTests}
use Rattle.walk.specs.Lists.{Outputs}
use Rattle.walk.specs.declared.side.Side.{Side}
use Rattle.walk.specs.Settled.{Known, settled, all}
use Rattle.walk.specs.Walk.{Acted, Track, act, fits, form_in_table, tested, step, must}
use Rattle.walk.specs.Seen.{kept_seen, outputs_seen, known_seen, KeptBeforeKnown, KeptApart}
use Rattle.machine.specs.Tables.{IsTable, There, GoesThere, table_machine}
use Rattle.walk.specs.Taking.{Readable, ReadableAction, ReadableRow, acted_seen, acted, put_seen, track_seen, told_over, reached_seen, only_reached, beside, KeptBelowTest, KeptOtherSide}
use Rattle.walk.proofs.Following.{each_at}
use Rattle.walk.proofs.Waiting.{kept_frame, outputs_frame}
use Rattle.walk.proofs.Learned.{known_kept}

-- a sound row can be worked out, and goes to states that are there
module _ (R I : ℕ) where
  readable_actions : (actions : List Action) → Each (ActionStands R I) actions → Each ReadableAction actions
  readable_actions [] h = tt
  readable_actions (store r e ∷ rest) h = (h.0.1.0, readable_actions rest h.1)
  readable_actions (emit port e ∷ rest) h = (h.0.1.0, readable_actions rest h.1)

  readable_transition : (S : ℕ) (t : Transition) → TransitionStands R I S t → Readable 0 t
  readable_transition S t h = record { few = (let f = h.few in omega arith); each = readable_actions t.actions h.each }

  readable_row : (S : ℕ) (row : Row) → RowStands R I S row → ReadableRow row
  readable_row S (straight t) h = readable_transition S t h
  readable_row S (branch test l r y n) h = (h.0.0, h.1.0, readable_transition S y h.2, readable_transition S n h.3)

  goes_there : (S : ℕ) (row : Row) → RowStands R I S row → (turn : Bool) → (chosen row turn).target < S
  goes_there S (straight t) h turn = h.target_there
  goes_there S (branch test l r y n) h true = h.2.target_there
  goes_there S (branch test l r y n) h false = h.3.target_there

module _ (words : List ℕ) (state : ℕ) (table : IsTable words) (there : There words state) where
  stands : RowStands (table_machine words).registers (table_machine words).inputs (length (table_machine words).rows) (row_at (table_machine words) state)
  stands = each_at _ (table_machine words).rows state _ there (sound_tables.machines words (table_machine words) table).rows_stand

  pub row_read : (r : Option view.Row) (row : view.Row) → r ≡ Some row → IsRow (table_machine words) state r → row_of (ahead row) ≡ row_at (table_machine words) state
  row_read r row e h = (subst (λ q. IsRow (table_machine words) state q) e h).1

  pub row_readable : (row : Row) → row ≡ row_at (table_machine words) state → ReadableRow row
  row_readable row e = subst ReadableRow (sym e) (readable_row _ _ _ _ stands)

  pub row_goes : (row : Row) → row ≡ row_at (table_machine words) state → GoesThere words row
  row_goes row e = subst (GoesThere words) (sym e) (goes_there _ _ _ _ stands)

module _ {D : Type 0} (o : Ops D) where
  -- a step whose test was put and allowed
  pub step_is : (ask : List (Known D) → Answer (Unit {0})) (row : Row) (turn : Bool) (t : Track D) (tests : List (Known D)) → Some tests ≡ tested o row turn t.registers → ask tests ≡ good tt → step o ask row turn t ≡ (fits (act o (form_in_table o t.registers) (chosen row turn).actions t.registers t.outputs) then λ a. good (record { state = (chosen row turn).target; registers = a.registers; known = t.known ++ tests; outputs = a.outputs }))
  step_is ask row turn t tests e allowed =
      ap (λ m. fits m then λ ts. ask ts then λ u. fits (act o (form_in_table o t.registers) (chosen row turn).actions t.registers t.outputs) then λ a. good (record { state = (chosen row turn).target; registers = a.registers; known = t.known ++ ts; outputs = a.outputs })) (sym e)
      ∙ ap (λ q. q then λ u. fits (act o (form_in_table o t.registers) (chosen row turn).actions t.registers t.outputs) then λ a. good (record { state = (chosen row turn).target; registers = a.registers; known = t.known ++ tests; outputs = a.outputs })) allowed

  pub step_over : (ask : List (Known D) → Answer (Unit {0})) (row : Row) (turn : Bool) (t : Track D) → None ≡ tested o row turn t.registers → refused 11 0 0 ≡ step o ask row turn t
  step_over ask row turn t e = ap (λ m. fits m then λ ts. ask ts then λ u. fits (act o (form_in_table o t.registers) (chosen row turn).actions t.registers t.outputs) then λ a. good (record { state = (chosen row turn).target; registers = a.registers; known = t.known ++ ts; outputs = a.outputs })) e

  module _ (side : Side) (row : Row) (turn : Bool) (outputs : Outputs) (fs f₂ : List (Form D)) (kept : KeptBeforeKnown fs f₂) where
    -- registers and outputs are still those before the step
    pub still : acted_seen side outputs f₂ ≡ acted_seen side outputs fs
    still =
        ap₂ (λ r x. record { registers = r; outputs = x })
        (kept_frame fs f₂ side.registers.first side.registers.count (λ j a b. kept j (omega (arith, side.low))))
        (outputs_frame outputs.items outputs.items fs f₂ side.outputs outputs.count (λ j h. refl) (λ j h. kept (side.outputs + j) (omega (arith, side.before, outputs.few))))

    pub still_acts : (t : Transition) → t ≡ chosen row turn → acted o (form_in_table o (kept_seen f₂ side.registers.first side.registers.count)) t.actions (acted_seen side outputs f₂) ≡ acted o (form_in_table o (kept_seen fs side.registers.first side.registers.count)) (chosen row turn).actions (acted_seen side outputs fs)
    still_acts t e = ap₂ (λ x y. acted o (form_in_table o x.registers) y.actions x) still e

  -- what a transition leaves, as an answer
  module _ {E : Type 0} (X : Type 0) (target : ℕ) (leave : Acted D → ℕ → X) where
    pub told_acts : (r : Result ℕ E) (m : Option (Acted D)) (a : Acted D) → told r a ≡ m → IfOk r (λ s. s ≡ target) → told_over r (leave a) ≡ (fits m then λ b. good (leave b target))
    told_acts (Err e) m a h k = ap (λ n. fits n then λ b. good (leave b target)) h
    told_acts (Ok s) m a h k = ap (λ i. good (leave a i)) k ∙ ap (λ n. fits n then λ b. good (leave b target)) h

  -- a test learned and a transition taken are a step of the first machine
  module _ {E : Type 0} (side : Side) (row : Row) (turn : Bool) (state : ℕ) (known known' : KnownTests) (outputs outputs' : Outputs) (test : Option Test) (fs f₁ f₂ f₃ : List (Form D)) (put : Some (put_seen test turn f₁) ≡ tested o row turn (kept_seen fs side.registers.first side.registers.count)) (kept₁ : KeptBelowTest fs f₁) (learned : known_seen known'.items f₂ 0 known'.count ≡ known_seen known.items f₁ 0 known.count ++ put_seen test turn f₁) (kept₂ : KeptBeforeKnown f₁ f₂) (r : Result ℕ E) (t : Transition) (goes : t ≡ chosen row turn) (target : IfOk r (λ s. s ≡ t.target)) (kept₃ : IfOk r (λ s. KeptApart side f₂ f₃)) (acts : told r (acted_seen side outputs' f₃) ≡ acted o (form_in_table o (kept_seen f₂ side.registers.first side.registers.count)) t.actions (acted_seen side outputs f₂)) where
    before : KeptBeforeKnown fs f₂
    before i h = kept₂ i h ∙ kept₁ i (omega arith)

    old_known : known_seen known.items f₁ 0 known.count ≡ known_seen known.items fs 0 known.count
    old_known = known_kept known.items fs f₁ known.count known.few (λ i a b. kept₁ i (omega arith))

    new_known : (KeptApart side f₂ f₃) → known_seen known'.items f₃ 0 known'.count ≡ known_seen known.items fs 0 known.count ++ put_seen test turn f₁
    new_known k =
        let apart : (i : ℕ) → 96 ≤ i → i < 144 → get_or f₃ i [] ≡ get_or f₂ i [] = λ i a b. k i b (inr (omega (arith, side.low))) (inr (omega (arith, side.before))) in
        known_kept known'.items f₂ f₃ known'.count known'.few apart
        ∙ learned ∙ ap (λ x. x ++ put_seen test turn f₁) old_known

    leave : Acted D → ℕ → Track D
    leave a s = record { state = s; registers = a.registers; known = known_seen known.items fs 0 known.count ++ put_seen test turn f₁; outputs = a.outputs }

    seen_so : (q : Result ℕ E) → IfOk q (λ s. KeptApart side f₂ f₃) → told_over q (λ s. track_seen side s known' outputs' f₃) ≡ told_over q (leave (acted_seen side outputs' f₃))
    unfolding leave
    seen_so (Err e) k = refl
    seen_so (Ok s) k = ap (λ x. good (record { state = s; registers = kept_seen f₃ side.registers.first side.registers.count; known = x; outputs = outputs_seen outputs'.items f₃ side.outputs outputs'.count })) (new_known k)

    pub learned_step : told_over r (λ s. track_seen side s known' outputs' f₃) ≡ step o (λ tests. good tt) row turn (track_seen side state known outputs fs)
    unfolding leave
    learned_step =
        seen_so r kept₃
        ∙ told_acts (Track D) t.target leave r _ (acted_seen side outputs' f₃) acts target
        ∙ ap₂ (λ m i. fits m then λ b. good (leave b i)) (still_acts side row turn outputs fs f₂ before t goes) (ap (λ u. u.target) goes)
        ∙ sym (step_is (λ tests. good tt) row turn (track_seen side state known outputs fs) (put_seen test turn f₁) put refl)

    pub other_side : (q : Result ℕ E) → IfOk q (λ s. KeptApart side f₂ f₃) → IfOk q (λ s. KeptOtherSide side fs f₃)
    other_side (Err e) k = tt
    other_side (Ok s) k = λ i a b c. k i (omega arith) b c ∙ before i a

-- a state that a transition goes to
pub arrives : {E : Type 0} (words : List ℕ) (row : Row) (turn : Bool) (t : Transition) (r : Result ℕ E) → GoesThere words row → t ≡ chosen row turn → IfOk r (λ s. s ≡ t.target) → IfOk r (λ s. There words s)
arrives words row turn t (Err e) there goes target = tt
arrives words row turn t (Ok s) there goes target = subst (There words) (sym (target ∙ ap (λ u. u.target) goes)) (there turn)

-- at most one test is put
pub one_put : {D E : Type 0} (known known' : KnownTests) (test : Option Test) (turn : Bool) (fs : List (Form D)) (r : Result ℕ E) → known'.count ≡ known.count + length (put_seen test turn fs) → IfOk r (λ s. known'.count ≤ known.count + 1)
one_put known known' test turn fs (Err e) h = tt
one_put known known' None turn fs (Ok s) h = omega arith
one_put known known' (Some t) turn fs (Ok s) h = omega arith

module _ {D : Type 0} (o : Ops D) (side : Side) (row : Row) (turn : Bool) (state index : ℕ) (known : KnownTests) (outputs : Outputs) (test : Option Test) (fs f₁ : List (Form D)) (put : Some (put_seen test turn f₁) ≡ tested o row turn (kept_seen fs side.registers.first side.registers.count)) (kept₁ : KeptBelowTest fs f₁) where
  -- the known tests are those before the step
  same_known : known_seen known.items f₁ 0 known.count ≡ known_seen known.items fs 0 known.count
  same_known = known_kept known.items fs f₁ known.count known.few (λ i a b. kept₁ i (omega arith))

  asked : (b : Bool) → b ≡ all (settled o (known_seen known.items f₁ 0 known.count)) (put_seen test turn f₁) → must o (known_seen known.items fs 0 known.count) index (put_seen test turn f₁) ≡ check b 14 2 index
  asked b e = ap (λ k. check (all (settled o k) (put_seen test turn f₁)) 14 2 index) (sym same_known) ∙ ap (λ x. check x 14 2 index) (sym e)

  -- a turn that is not settled
  pub unsettled : false ≡ all (settled o (known_seen known.items f₁ 0 known.count)) (put_seen test turn f₁) → (tests : List (Known D)) → refused 14 2 index ≡ only_reached (step o (must o (known_seen known.items fs 0 known.count) index) row turn (beside tests (reached_seen side state outputs fs)))
  unsettled e tests =
      let t = beside tests (reached_seen side state outputs fs) in
      let ask = must o (known_seen known.items fs 0 known.count) index in
      sym (ap only_reached (
      ap (λ m. fits m then λ ts. ask ts then λ u. fits (act o (form_in_table o t.registers) (chosen row turn).actions t.registers t.outputs) then λ a. good (record { state = (chosen row turn).target; registers = a.registers; known = t.known ++ ts; outputs = a.outputs })) (sym put)
      ∙ ap (λ q. q then λ u. fits (act o (form_in_table o t.registers) (chosen row turn).actions t.registers t.outputs) then λ a. good (record { state = (chosen row turn).target; registers = a.registers; known = t.known ++ put_seen test turn f₁; outputs = a.outputs })) (asked false e)))

  module _ {E : Type 0} (outputs' : Outputs) (f₃ : List (Form D)) (r : Result ℕ E) (t : Transition) (goes : t ≡ chosen row turn) (target : IfOk r (λ s. s ≡ t.target)) (kept₃ : IfOk r (λ s. KeptApart side f₁ f₃)) (acts : told r (acted_seen side outputs' f₃) ≡ acted o (form_in_table o (kept_seen f₁ side.registers.first side.registers.count)) t.actions (acted_seen side outputs f₁)) (allowed : true ≡ all (settled o (known_seen known.items f₁ 0 known.count)) (put_seen test turn f₁)) where
    abbrev left_behind : List (Known D) → Acted D → ℕ → Track D
    left_behind tests a s = record { state = s; registers = a.registers; known = tests ++ put_seen test turn f₁; outputs = a.outputs }

    -- a settled turn, and its transition
    pub settled_step : (tests : List (Known D)) → only_reached (told_over r (left_behind tests (acted_seen side outputs' f₃))) ≡ only_reached (step o (must o (known_seen known.items fs 0 known.count) index) row turn (beside tests (reached_seen side state outputs fs)))
    settled_step tests =
        let before : KeptBeforeKnown fs f₁ = λ i h. kept₁ i (omega arith) in
        ap only_reached (
        told_acts o (Track D) t.target (left_behind tests) r _ (acted_seen side outputs' f₃) acts target
        ∙ ap₂ (λ m i. fits m then λ b. good (left_behind tests b i)) (still_acts o side row turn outputs fs f₁ before t goes) (ap (λ u. u.target) goes)
        ∙ sym (step_is o (must o (known_seen known.items fs 0 known.count) index) row turn (beside tests (reached_seen side state outputs fs)) (put_seen test turn f₁) put (asked true allowed)))

pub after_put : {X : Type 0} (side : Side) (fs f₁ f₃ : List (List X)) → KeptBelowTest fs f₁ → KeptApart side f₁ f₃ → KeptApart side fs f₃
after_put side fs f₁ f₃ put kept i a b c = kept i a b c ∙ put i (omega arith)
