-- The states of a kept pair are states of its machines.
use Rattle.std.proofs.Common.{◌≡◌, ℕ, ◌<◌, true, not, eqb, ltb, List, [], ◌∷◌, refl, ap, ◌∙◌, arith}
use Rattle.std.proofs.lemmas.Bool.{and_parts, ltb-true}
use Rattle.machine.specs.declared.head.Head.{Head}
use Rattle.machine.specs.Answer.{good, ◌then◌}
use Rattle.machine.specs.Reading.{table, machine, machine_of}
use Rattle.machine.proofs.Encodes.{sound_tables}
use Rattle.machine.specs.Tables.{There}
use Rattle.machine.proofs.Opened.{has_state}
use Rattle.proposal.specs.Reading.{read_pair, is_state}
use Rattle.proposal.proofs.Accepted.{pair_read}
use Rattle.rules.specs.declared.counts.Counts.{Counts}
use Rattle.rules.specs.Kept.{pair_zero, kept_pair, is_kept}
use Rattle.rules.proofs.PairParts.{counted, was_good}
use Rattle.judgement.specs.declared.tables.Tables.{Tables}
use Rattle.judgement.specs.Walks.{Opened, StandsAt, head_at}

pub stands : (c : Counts) (ws : List ℕ) → is_kept c ws ≡ true → StandsAt (head_at ws) (kept_pair c ws)
stands c [] kept = record { first = refl; second = refl }
stands c (w ∷ ws) kept =
    let is = counted c.one c.two (w ∷ ws) (kept_pair c (w ∷ ws)) (was_good (pair_zero c) (read_pair c.one c.two (w ∷ ws)) kept) in
    record { first = ap (λ h. h.first) is; second = ap (λ h. h.second) is }

-- The machine of an accepted table has a state.
some_state : (words : List ℕ) (h : Head) → table words ≡ good h → 0 < h.states
some_state words h e =
    let m : machine words ≡ good (machine_of words h) = ap (λ a. a then λ g. good (machine_of words g)) e in
    let s = (sound_tables.machines words (machine_of words h) m).some in
    let n = (sound_tables.heads words h (machine_of words h) e m).states in
    omega arith

state_below : (states s : ℕ) → is_state states s ≡ true → s < states
state_below states s e = ltb-true s states (and_parts (not (eqb s 0)) (ltb s states) e).1

-- what the types say of tables
pub opened_of : (t : Tables) → Opened t.first.words.now t.second.words.now t.counts
opened_of t = record { first_is = t.first.accepted ∙ ap good t.first_is; second_is = t.second.accepted ∙ ap good t.second_is; fit = t.fit }

module _ (first second : List ℕ) (c : Counts) (opened : Opened first second c) where
  pub first_there : (ws : List ℕ) → is_kept c ws ≡ true → There first (kept_pair c ws).state₁
  first_there [] kept = has_state first c.one opened.first_is 0 (some_state first c.one opened.first_is)
  first_there (w ∷ ws) kept =
      let p = kept_pair c (w ∷ ws) in
      let parts = pair_read c.one c.two (w ∷ ws) p (was_good (pair_zero c) (read_pair c.one c.two (w ∷ ws)) kept) in
      has_state first c.one opened.first_is p.state₁ (state_below c.one.states p.state₁ parts.state₁)

  pub second_there : (ws : List ℕ) → is_kept c ws ≡ true → There second (kept_pair c ws).state₂
  second_there [] kept = has_state second c.two opened.second_is 0 (some_state second c.two opened.second_is)
  second_there (w ∷ ws) kept =
      let p = kept_pair c (w ∷ ws) in
      let parts = pair_read c.one c.two (w ∷ ws) p (was_good (pair_zero c) (read_pair c.one c.two (w ∷ ws)) kept) in
      has_state second c.two opened.second_is p.state₂ (state_below c.two.states p.state₂ parts.state₂)
