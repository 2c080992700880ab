use Rattle.judgement.proofs.Spelling.{Spelt}
use Rattle.judgement.proofs.turns.spell_turns.Given as goal

abbrev pub invariant-loop-i : goal.invariant-loop-i
invariant-loop-i l = Spelt l.i-end l.initial.left l.i l.left l.turns
