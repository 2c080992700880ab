use Rattle.std.proofs.Common.{◌≡◌, ◌^◌, cond, sym, ◌∙◌, arith}
use Rattle.std.proofs.lemmas.Bool.{cond-true, cond-false}
use Rattle.std.proofs.lemmas.Nat.{one_shl}
use Rattle.coverage.proofs.tree.extended.Goals.{then-turn, else-turn}
use Rattle.coverage.proofs.Extending.{one_turn_more}
use Rattle.coverage.proofs.tree.extended.Goals as goal

pub returns-clause-turns : goal.returns-clause-turns
returns-clause-turns c =
    let is : c.if-turn.no ≡ cond c.args.turn 0 (2 ^ c.args.path.length) =
    elim c.if-turn.branch [
      | then-turn w ↦ w.no-is ∙ sym (cond-true c.args.turn 0 (2 ^ c.args.path.length) w.if-turn.true)
      | else-turn w ↦ w.no-is ∙ one_shl c.args.path.length 32 (omega arith) ∙ sym (cond-false c.args.turn 0 (2 ^ c.args.path.length) w.if-turn.false)
    ] in
    one_turn_more c.args.path.length c.args.path.turns c.if-turn.no c.args.turn c.requires.tidy is
