use Rattle.std.proofs.Common.{arith}
use Rattle.std.proofs.lemmas.Grind.{common_steps}
use Rattle.forms.specs.Monomials.{K, degree}
use Rattle.forms.proofs.Digits.{filled_empty_at, filled_more_at, filled_end}
use Rattle.forms.proofs.monomial.Monomial.degree.Goals as goal
use Rattle.forms.proofs.monomial.Monomial.degree.Goals.{then-word-ne0, else-word-ne0}

pub loop-preserved : goal.loop-preserved
unfolding K
loop-preserved c =
    let l = c.loop in
    elim c.if-word-ne0.branch [
      | then-word-ne0 w ↦ let e = filled_more_at 4 l.counter l.word c.loop-test.true w.if-word-ne0.true in simp w.count-is (omega arith, omega arith)
      | else-word-ne0 w ↦ let e = filled_empty_at 4 l.counter l.word c.loop-test.true w.if-word-ne0.false in simp w.count-is (omega arith, omega arith)
    ]

pub returns : goal.returns
unfolding degree K
returns c = grind (arith, common_steps, filled_end)
