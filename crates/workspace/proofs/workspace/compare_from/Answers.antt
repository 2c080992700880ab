use Rattle.std.proofs.Common.{◌-◌, map, length, take, drop, ◌∙◌, arith, length-drop, length-take, rules}
use Rattle.std.proofs.lemmas.Slice.{overwrites}
use Rattle.expression.specs.Words.{item_of}
use Rattle.workspace.proofs.Laws.{ready_empty}
use Rattle.workspace.proofs.Comparing.{own_compared, judged}
use Rattle.workspace.proofs.workspace.compare_from.Goals as goal

pub invariant_of-slots : goal.invariant_of-slots
invariant_of-slots g c =
    let r = ready_empty c.empty.result.of (take (length c.args.row.now - c.args.at) (drop c.args.at c.args.row.now)) c.empty.ensures (simp (length-take, length-drop) (omega arith)) in
    record { count = r.count; few = r.few; room = r.room }

pub returns : goal.returns
returns g c =
    let answer = c.compare_forms.ensures.answer ∙ own_compared g.D.Domain.ops _ _ _ _ c.own.ensures in
    record {
      kept = search (rules, overwrites);
      long = search (rules, overwrites);
      answer = answer;
      polynomials = judged g.met.D.Domain.ring (map item_of c.args.left.words.now) (map item_of c.args.right.words.now) c.compare_forms.result answer;
    }
