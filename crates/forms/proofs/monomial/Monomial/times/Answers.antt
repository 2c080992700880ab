use Rattle.std.proofs.Common.{◌/◌, sym, ◌∙◌, arith}
use Rattle.forms.specs.Monomials.{K, times_word}
use Rattle.forms.proofs.Digits.{merged_left_at, merged_right_at, merged_end, digit_more, code_room}
use Rattle.forms.proofs.monomial.Monomial.times.Goals as goal
use Rattle.forms.proofs.monomial.Monomial.times.Goals.{then-d-c, else-d-c}

pub overflow_mul-out : goal.overflow_mul-out
overflow_mul-out c = omega (arith, code_room)

pub overflow_add-out : goal.overflow_add-out
overflow_add-out c = omega (arith, code_room)

pub overflow_mul-out-else-d-c : goal.overflow_mul-out-else-d-c
overflow_mul-out-else-d-c c = omega (arith, code_room)

pub overflow_add-out-else-d-c : goal.overflow_add-out-else-d-c
overflow_add-out-else-d-c c = omega (arith, code_room)

pub loop-preserved : goal.loop-preserved
unfolding K
loop-preserved c =
    let l = c.loop in
    elim c.if-d-c.branch [
      | then-d-c w ↦ simp (w.x-is, w.y-is, w.out-is) (sym (merged_left_at 4 l.counter l.x l.y l.out c.loop-test.true w.if-d-c.true) ∙ l.invariant.0, digit_more l.counter l.out (l.x / 16777216) l.invariant.1 (omega arith))
      | else-d-c w ↦ simp (w.x-is, w.y-is, w.out-is) (sym (merged_right_at 4 l.counter l.x l.y l.out c.loop-test.true w.if-d-c.false) ∙ l.invariant.0, digit_more l.counter l.out (l.y / 16777216) l.invariant.1 (omega arith))
    ]

pub returns : goal.returns
unfolding times_word K
returns c =
    let l = c.loop in
    let e = sym (merged_end 4 l.counter l.x l.y l.out c.loop-test.false) ∙ l.invariant.0 in
    λ i. record { 0 = e i }
