use Rattle.std.proofs.Common.{◌≡◌, ◌++◌, take, sym, ap, ap₂, ◌∙◌, arith, length-set}
use Rattle.std.proofs.lemmas.List.{append_assoc, append-nil, length-append}
use Rattle.forms.specs.Forms.{added}
use Rattle.forms.proofs.Parts.{part_below, put_behind, made_more}
use Rattle.forms.proofs.OneSided.{none_behind, none_before}
use Rattle.forms.proofs.merge.merge.Goals as goal
use Rattle.forms.proofs.merge.merge.Goals.{then-loop-p-test+else-not-is_empty, else-loop-p-test}

pub loop-p-preserved-in-Some : goal.loop-p-preserved-in-Some
loop-p-preserved-in-Some g c =
    let l = c.loop-p in
    let s = rw c.in-Some.is at c.next.ensures.sum in
    let r = rw c.in-Some.is at c.next.ensures.room in
    (made_more l.n l.target _ _ _ c.in-Some.t l.invariant.0 s (omega arith), simp length-set (omega arith))

pub returns : goal.returns
returns g c =
    let o = g.D.Domain.ops in
    let l = c.loop-p in
    let base = c.args.row.now in
    let below = c.split_at_mut-below in
    let e = below.ensures.front in
    let apart : added o l.p.now l.q.now ≡ l.p.now ++ l.q.now =
    elim c.loop-p-test.branch [
      | then-loop-p-test+else-not-is_empty w ↦ none_behind o l.p.now l.q.now (sym w.is_empty-in-loop-p.ensures ∙ w.if-not-is_empty.false)
      | else-loop-p-test w ↦ none_before o l.p.now l.q.now (sym c.is_empty.ensures ∙ w.loop-p-test.false)
    ] in
    let whole = l.invariant.0 ∙ ap₂ (added o) (part_below c.args.a c.args.at base _ c.requires.a e) (part_below c.args.b c.args.at base _ c.requires.b e) in
    let written = c.put-n-2.ensures.put ∙ ap (λ r. r ++ l.q.now) c.put-n.ensures.put ∙ append_assoc (take l.n l.target) l.p.now l.q.now in
    let long = length-append below.result.0.now c.put-n-2.new.row ∙ omega (arith, c.put-n-2.ensures.long, c.put-n.ensures.long, l.auto.target, below.ensures.front_len, below.ensures.back_len) in
    let made = append-nil (take c.put-n-2.result c.put-n-2.new.row) ∙ written ∙ ap (λ r. take l.n l.target ++ r) (sym apart) ∙ whole in
    put_behind c.args.at c.put-n-2.result base _ c.put-n-2.new.row _ (omega arith) e long (omega arith) made
