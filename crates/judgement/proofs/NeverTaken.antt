-- A path followed up to its last step, which is at a test whose other answer is settled.
use Rattle.std.proofs.Common.{◌≡◌, ℕ, suc, Bool, true, not, ◌&&◌, List, [], ◌∷◌, ◌++◌, length, Some, sym, refl, ap, ◌∙◌, arith}
use Rattle.domain.specs.Ring.{Ops}
use Rattle.machine.specs.Answer.{Answer, good, refused, ◌then◌, check}
use Rattle.machine.specs.Machine.{Machine, Row, straight, branch, row_at}
use Rattle.forms.specs.Forms.{Form}
use Rattle.walk.specs.Lists.{KnownTests, Outputs}
use Rattle.walk.specs.declared.side.Side.{Side}
use Rattle.walk.specs.Seen.{kept_seen, known_seen}
use Rattle.walk.specs.Taking.{track_seen, KeptBelowTest}
use Rattle.walk.proofs.Learned.{known_kept}
use Rattle.walk.specs.Settled.{Known, settled, all}
use Rattle.walk.specs.Walk.{Track, fits, tested, step, walk, learn}
use Rattle.correspondence.specs.Judgement.{other_settled, never_taken}

then_more : {X Y Z : Type 0} (a : Answer X) (f : X → Answer Z) (g : X → Answer Y) (h : Y → Answer Z) → ((v : X) → f v ≡ (g v then h)) → (a then f) ≡ ((a then g) then h)
then_more (good v) f g h e = e v
then_more (refused n m p) f g h e = refl

module _ {D : Type 0} (o : Ops D) where
  -- The step is at a test.
  pub at_test : (row : Row) (turn : Bool) (t : Track D) (k : Known D) → Some (k ∷ []) ≡ tested o row (not turn) t.registers → other_settled o row turn t ≡ check (settled o t.known k && true) 13 0 0
  at_test (straight x) turn t k e = absurd (let z : ◌≡◌ {A = ℕ} 0 1 = cc in omega arith)
  at_test (branch test left right on_yes on_no) turn t k e = ap (λ m. fits m then λ other. check (all (settled o t.known) other) 13 0 0) (sym e)

  -- What was put is settled or not, by tests that are known in slots which the test leaves alone.
  pub other_told : (side : Side) (state : ℕ) (known : KnownTests) (outputs : Outputs) (fs fs' : List (Form D)) (read row : Row) (turn : Bool) (asked : Known D) (b : Bool) → Some (asked ∷ []) ≡ tested o read (not turn) (kept_seen fs side.registers.first side.registers.count) → read ≡ row → KeptBelowTest fs fs' → b ≡ settled o (known_seen known.items fs' 0 known.count) asked → check (b && true) 13 0 0 ≡ other_settled o row turn (track_seen side state known outputs fs)
  other_told side state known outputs fs fs' read row turn asked b put is kept e =
      ap (λ x. check (x && true) 13 0 0) (e ∙ ap (λ k. settled o k asked) (known_kept known.items fs fs' known.count known.few (λ i a h. kept i (omega arith))))
      ∙ sym (at_test row turn (track_seen side state known outputs fs) asked (put ∙ ap (λ r. tested o r (not turn) (kept_seen fs side.registers.first side.registers.count)) is))

  pub no_step : (m : Machine) (path : List Bool) (t : Track D) → length path ≡ 0 → never_taken o m path t ≡ refused 13 0 0
  unfolding never_taken
  no_step m [] t e = refl
  no_step m (turn ∷ path) t e = absurd (omega arith)

  -- A path of one step or more: all but the last are followed.
  pub up_to_last : (m : Machine) (i : ℕ) (front : List Bool) (last : Bool) (t : Track D) → never_taken o m (front ++ (last ∷ [])) t ≡ (walk o (learn o) m i front t then λ u. other_settled o (row_at m u.state) last u)
  unfolding never_taken walk
  up_to_last m i [] last t = refl
  up_to_last m i (turn ∷ []) last t = then_more (step o (learn o 0) (row_at m t.state) turn t) _ _ _ (λ v. up_to_last m (suc i) [] last v)
  up_to_last m i (turn ∷ (next ∷ front)) last t = then_more (step o (learn o 0) (row_at m t.state) turn t) _ _ _ (λ v. up_to_last m (suc i) (next ∷ front) last v)
