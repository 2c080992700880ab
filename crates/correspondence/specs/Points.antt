-- Worked points of the definitions.
use Rattle.std.specs.Prelude.{◌≡◌, ℕ, true, List, [], ◌∷◌, ◌++◌}
use Rattle.domain.specs.Words.{word_ops}
use Rattle.forms.specs.Points.{FormPoints}
use Rattle.machine.specs.Answer.{Answer, good, ◌then◌}
use Rattle.correspondence.specs.Coverage.{Verdict, equivalent, lacks, verdict}
use Rattle.correspondence.specs.Calls.{opening, Part, pair_words, claim_words, filing_all}

-- The loop counter: 3 is stored in register 1 in each turn of the loop, or once before it.
abbrev pub in_loop : List ℕ
in_loop =
    0x00020301 ∷ 0x30000000 ∷ 0x10000000 ∷ 0x60000001 ∷ 0x10000009 ∷ 0x80000000 ∷ 0x90000000 ∷ 0x10000000 ∷
    0x70000000 ∷ 0x10000000 ∷ 0x70000001 ∷ 0x10000000 ∷ 0x70000002 ∷ 0x90000001 ∷ 0x30000000 ∷ 0x20000002 ∷
    0x60000001 ∷ 0x20000000 ∷ 0x20000001 ∷ 0x50000000 ∷ 0x80000000 ∷ 0x90000000 ∷ 0x20000000 ∷ 0x20000002 ∷
    0x50000000 ∷ 0x70000000 ∷ 0x10000003 ∷ 0x70000001 ∷ 0x20000002 ∷ 0x10000001 ∷ 0x50000000 ∷ 0x70000002 ∷
    0x90000001 ∷ []

abbrev pub before_loop : List ℕ
before_loop =
    0x00020301 ∷ 0x30000000 ∷ 0x10000000 ∷ 0x60000001 ∷ 0x10000009 ∷ 0x80000000 ∷ 0x90000000 ∷ 0x10000000 ∷
    0x70000000 ∷ 0x10000003 ∷ 0x70000001 ∷ 0x10000000 ∷ 0x70000002 ∷ 0x90000001 ∷ 0x30000000 ∷ 0x20000002 ∷
    0x60000001 ∷ 0x20000000 ∷ 0x20000001 ∷ 0x50000000 ∷ 0x80000000 ∷ 0x90000000 ∷ 0x20000000 ∷ 0x20000002 ∷
    0x50000000 ∷ 0x70000000 ∷ 0x20000002 ∷ 0x10000001 ∷ 0x50000000 ∷ 0x70000002 ∷ 0x90000001 ∷ []

-- Its proposal: two pairs at the loop, the first when it is entered, and the claims but one.
abbrev pub entering : List Part
entering =
    pair_words (0xA0400101 ∷ 0xE0000007 ∷ 0xE0000007 ∷ 0x10000000 ∷ 0x70000000 ∷ 0x10000000 ∷ 0x70000001 ∷ 0x10000000 ∷ 0x70000002 ∷ 0x10000000 ∷ 0x70000000 ∷ 0x10000003 ∷ 0x70000001 ∷ 0x10000000 ∷ 0x70000002 ∷ 0x30000000 ∷ 0x10000000 ∷ 0x60000001 ∷ []) ∷
    pair_words (0xA0030101 ∷ 0xE0000002 ∷ 0xE0000002 ∷ 0x10000003 ∷ 0x70000001 ∷ 0x10000003 ∷ 0x70000001 ∷ []) ∷
    claim_words (0xB0000000 ∷ 0xC0000001 ∷ 0xD0000001 ∷ 0x40000000 ∷ 0x70000000 ∷ 0x40000001 ∷ 0x70000001 ∷ 0x40000002 ∷ 0x70000002 ∷ []) ∷
    claim_words (0xB0000100 ∷ 0xC0000101 ∷ 0xD0000101 ∷ []) ∷ []

abbrev pub turning : List Part
turning =
    claim_words (0xB0000201 ∷ 0xC0000101 ∷ 0xD0000101 ∷ 0x10000000 ∷ 0x70000000 ∷ 0x10000003 ∷ 0x70000001 ∷ 0x10000001 ∷ 0x70000002 ∷ []) ∷
    claim_words (0xB0000202 ∷ 0xC0000101 ∷ 0xD0000101 ∷ 0x40000000 ∷ 0x40000002 ∷ 0x50000000 ∷ 0x70000000 ∷ 0x10000003 ∷ 0x70000001 ∷ 0x40000002 ∷ 0x10000001 ∷ 0x50000000 ∷ 0x70000002 ∷ []) ∷
    claim_words (0xB0000002 ∷ 0xC0000001 ∷ 0xD0000001 ∷ 0x40000000 ∷ 0x70000000 ∷ 0x10000003 ∷ 0x70000001 ∷ 0x40000002 ∷ 0x70000002 ∷ []) ∷ []

-- The infeasible path: from pair 1 the loop is not left at once.
abbrev pub not_left : List Part
not_left = claim_words (0xB0010001 ∷ 0xC0000001 ∷ []) ∷ []

-- The verdict on a proposal for the loop counter, over words, all registers being shared.
abbrev pub counter_verdict : List Part → Answer Verdict
counter_verdict parts =
    opening in_loop before_loop 3 then λ b.
    filing_all word_ops b parts then λ t.
    good (verdict t)

pub record WorkedPoints : Type 0 where
  -- The points of normal forms and of the domains.
  pub forms : FormPoints
  -- The loop counter's proposal earns equivalent; without the infeasible path, pair 1 lacks the path of one turn yes.
  pub counter : counter_verdict (entering ++ (not_left ++ turning)) ≡ good equivalent
  pub counter_without : counter_verdict (entering ++ turning) ≡ good (lacks 1 (true ∷ []))
