use Rattle.std.proofs.Common.{[], map, take, Some, sym, ap, ◌∙◌, ap₂, arith}
use Rattle.std.proofs.lemmas.Result.{err_from_is_err_and}
use Rattle.expression.specs.Words.{item_of}
use Rattle.expression.specs.Run.{meaning}
use Rattle.forms.specs.Forms.{same_form}
use Rattle.workspace.specs.Slots.{give}
use Rattle.workspace.specs.Views.{forms, named}
use Rattle.workspace.specs.Evaluation.{reading}
use Rattle.workspace.proofs.Laws.{length_slots}
use Rattle.workspace.proofs.Evaluating.{accepted, refused}
use Rattle.workspace.proofs.Comparing.{compared_second, compared_both, first_kept, left_of, right_of}
use Rattle.workspace.proofs.workspace.compare_forms.Goals as goal

pub returns-in_err-evaluate_into-2-clause-answer : goal.returns-in_err-evaluate_into-2-clause-answer
returns-in_err-evaluate_into-2-clause-answer g c =
    let o = g.D.Domain.ops in
    let l = c.args.leaves in
    let f0 = forms c.args.slots.now in
    let f1 = forms c.evaluate_into.new.slots in
    let e1 = c.in_ok-evaluate_into.ensures in
    let m = meaning (reading o l (named f0)) (map item_of c.args.left.words.now) in
    let n = meaning (reading o l (named f0)) (map item_of c.args.right.words.now) in
    let a = accepted m (take 154 f0) (take 154 f1) 152 e1.forms in
    let k = first_kept 144 f0 f1 152 a.0 (omega arith) (omega arith) a.1.1 in
    let e2 = c.in_err-evaluate_into-2.ensures in
    let b = refused n (take 154 f1) 153 (e2.forms ∙ ap (λ f. give 153 (meaning (reading o l f) (map item_of c.args.right.words.now)) (take 154 f1)) k) in
    let p = err_from_is_err_and c.from_residual-in_err-evaluate_into-2.result c.from_residual-in_err-evaluate_into-2.ensures.1 in
    rw p.1 (sym (compared_second o m n b))

pub returns : goal.returns
returns g c =
    let o = g.D.Domain.ops in
    let l = c.args.leaves in
    let f0 = forms c.args.slots.now in
    let f1 = forms c.evaluate_into.new.slots in
    let f2 = forms c.evaluate_into-2.new.slots in
    let e1 = c.in_ok-evaluate_into.ensures in
    let m = meaning (reading o l (named f0)) (map item_of c.args.left.words.now) in
    let n = meaning (reading o l (named f0)) (map item_of c.args.right.words.now) in
    let a = accepted m (take 154 f0) (take 154 f1) 152 e1.forms in
    let k = first_kept 144 f0 f1 152 a.0 (omega arith) (omega arith) a.1.1 in
    let e2 = c.in_ok-evaluate_into-2.ensures in
    let b = accepted n (take 154 f1) (take 154 f2) 153 (e2.forms ∙ ap (λ f. give 153 (meaning (reading o l f) (map item_of c.args.right.words.now)) (take 154 f1)) k) in
    let n0 = length_slots c.args.slots.now.lens.of c.args.slots.now.row.now ∙ c.args.slots.now.count in
    let n1 = length_slots c.evaluate_into.new.slots.lens.of c.evaluate_into.new.slots.row.now ∙ c.evaluate_into.new.slots.count in
    let p = left_of [] f0 f1 f2 a.0 b.0 n0 a.1.1 b.1.1 in
    let q = right_of [] f1 f2 b.0 n1 b.1.1 in
    record {
      kept = ap Some (first_kept 152 f1 f2 153 b.0 (omega arith) (omega arith) b.1.1 ∙ first_kept 152 f0 f1 152 a.0 (omega arith) (omega arith) a.1.1);
      answer = ap Some (c.same.ensures ∙ ap₂ (same_form o) p q) ∙ sym (compared_both o m n a.0 b.0 a.1.0 b.1.0);
    }
