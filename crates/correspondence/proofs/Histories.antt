-- Histories of calls: what an equivalent verdict in one means, and that clean proposals earn it.
use Rattle.std.proofs.Common.{◌≡◌, ℕ, ◌≤◌, leb, ◌⊎◌, List, [], ◌∷◌, sym, refl, ap, ◌∙◌, subst, subst₂, inl, inr}
use Rattle.std.proofs.lemmas.Bool.{le-leb}
use Rattle.domain.specs.Ring.{Ops, Laws}
use Rattle.machine.specs.Answer.{Answer, good, refused, ◌then◌, check}
use Rattle.machine.specs.Machine.{Machine}
use Rattle.machine.specs.Runs.{Equivalent}
use Rattle.walk.proofs.Chains.{good_same, split, split_check}
use Rattle.walk.proofs.SettledLaw.{Theory}
use Rattle.correspondence.specs.State.{Open}
use Rattle.correspondence.specs.Coverage.{equivalent, verdict}
use Rattle.correspondence.specs.Calls.{Part, pair_words, claim_words, opened, filing, Call, file_pair, file_claim, ask_verdict, Told, says, told, Accepted, left_by, outcome, answer, next, after, filing_all, CleanCovers, Event, files, besides, parts_of, call_for, calls_of, Roomy, IdleBesides, PartsAccepted}
use Rattle.correspondence.proofs.Filing.{Keeps, filing_keeps, opened_keeps, earned, equivalent_covers}
use Rattle.correspondence.proofs.Simulation.{sound}

-- A refusal leaves what was found.
idle : (a : Answer Open) (b : Open) (x : Told) → ¬ Accepted (a then λ _. good x) → left_by a b ≡ b
idle (good t) b x h = absurd (h tt)
idle (refused n m p) b x h = refl

says_same : (v : Told) → good v ≡ good (says equivalent) → v ≡ says equivalent
says_same v e = good_same v (says equivalent) e

module _ {D : Type 0} (o : Ops D) where
  module _ (laws : Laws o) (theory : Theory o) (one two : Machine) (shared : ℕ) where
    left_keeps : (b : Open) (a : Answer Open) → ((t : Open) → a ≡ good t → Keeps o laws theory one two shared t) → Keeps o laws theory one two shared b → Keeps o laws theory one two shared (left_by a b)
    left_keeps b (good t) h k = h t refl
    left_keeps b (refused n m p) h k = k

    next_keeps : (b : Open) (c : Call) → Keeps o laws theory one two shared b → Keeps o laws theory one two shared (next o b c)
    next_keeps b (file_pair ws) k = left_keeps b (filing o b (pair_words ws)) (λ t e. filing_keeps o laws theory one two shared b (pair_words ws) t e k) k
    next_keeps b (file_claim ws room) k = left_keeps b (outcome o b (file_claim ws room)) (λ t e. filing_keeps o laws theory one two shared b (claim_words ws) t (split_check (leb 4096 room) 20 0 0 _ t e).1 k) k
    next_keeps b ask_verdict k = k

    after_keeps : (history : List Call) (b : Open) → Keeps o laws theory one two shared b → Keeps o laws theory one two shared (after o b history)
    after_keeps [] b k = k
    after_keeps (c ∷ history) b k = after_keeps history (next o b c) (next_keeps b c k)

    pub history_sound : shared ≤ one.registers → shared ≤ two.registers → (history : List Call) → answer o (after o (opened one two shared) history) ask_verdict ≡ good (says equivalent) → Equivalent o one two shared
    history_sound h₁ h₂ history e =
        let b = after o (opened one two shared) history in
        let k = after_keeps history (opened one two shared) (opened_keeps o laws theory one two shared h₁ h₂) in
        let v : verdict b ≡ equivalent = let z = says_same (says (verdict b)) e in cc (z) in
        let s = sound o b k.kept (equivalent_covers b k.short v) in
        subst (λ n. Equivalent o one two n) k.is_shared (subst₂ (λ m n. Equivalent o m n b.shared) k.is₁ k.is₂ s)

    pub all_keeps : (ps : List Part) (b t : Open) → filing_all o b ps ≡ good t → Keeps o laws theory one two shared b → Keeps o laws theory one two shared t
    all_keeps [] b t e k = subst (Keeps o laws theory one two shared) (good_same b t e) k
    all_keeps (i ∷ ps) b t e k =
        let a = split (filing o b i) _ t e in
        all_keeps ps a.0 t a.2 (filing_keeps o laws theory one two shared b i a.0 a.1 k)

  -- With room, a call for a part does what filing does.
  does : (b : Open) (i : Part) (room : ℕ) (t : Open) → 4096 ≤ room → filing o b i ≡ good t → outcome o b (call_for i room) ≡ good t
  does b (pair_words ws) room t h e = e
  does b (claim_words ws) room t h e = ap (λ z. check z 20 0 0 then λ _. filing o b (claim_words ws)) (le-leb 4096 room h) ∙ e

  stays : (b : Open) (c : Call) → (¬ Accepted (answer o b c)) ⊎ (c ≡ ask_verdict) → next o b c ≡ b
  stays b c (inl h) = idle (outcome o b c) b (told b c) h
  stays b c (inr e) = ap (λ x. next o b x) e

  abbrev Whole : Open → Open → List Event → Type 0
  Whole b t events = PartsAccepted o b events × (after o b (calls_of events) ≡ t)

  whole : (events : List Event) (b t : Open) → filing_all o b (parts_of events) ≡ good t → Roomy events → IdleBesides o b events → Whole b t events
  whole [] b t e roomy still = (tt, good_same b t e)
  whole (files i room ∷ rest) b t e roomy still =
      let a = split (filing o b i) _ t e in
      let u = a.0 in
      let out = does b i room u roomy.0 a.1 in
      let there : next o b (call_for i room) ≡ u = ap (λ x. left_by x b) out in
      let on = whole rest u t a.2 roomy.1 (subst (λ x. IdleBesides o x rest) there still) in
      let back = subst (λ x. Whole x t rest) (sym there) on in
      ((subst (λ x. Accepted (x then λ _. good (told b (call_for i room)))) (sym out) tt, back.0), back.1)
  whole (besides c ∷ rest) b t e roomy still =
      let there = stays b c still.0 in
      subst (λ x. Whole x t rest) (sym there) (whole rest b t e roomy (subst (λ x. IdleBesides o x rest) there still.1))

  pub history_complete : (laws : Laws o) (theory : Theory o) (one two : Machine) (shared : ℕ) → shared ≤ one.registers → shared ≤ two.registers → (events : List Event) → CleanCovers o (opened one two shared) (parts_of events) → Roomy events → IdleBesides o (opened one two shared) events → PartsAccepted o (opened one two shared) events × (answer o (after o (opened one two shared) (calls_of events)) ask_verdict ≡ good (says equivalent))
  history_complete laws theory one two shared h₁ h₂ events clean roomy still =
      let b = opened one two shared in
      let w = whole events b clean.left clean.clean roomy still in
      let k = all_keeps laws theory one two shared (parts_of events) b clean.left clean.clean (opened_keeps o laws theory one two shared h₁ h₂) in
      let v = earned clean.left k.short clean.covered in
      (w.0, ap (λ x. good (says (verdict x))) w.1 ∙ ap (λ x. good (says x)) v)
