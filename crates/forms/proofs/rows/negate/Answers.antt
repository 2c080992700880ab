use Rattle.std.proofs.Common.{◌≡◌, ◌++◌, ◌≤◌, take, length, sym, ap, ◌∙◌, arith}
use Rattle.std.proofs.lemmas.List.{append-nil, drop_all, take_all}
use Rattle.forms.specs.Rows.{part}
use Rattle.forms.specs.Forms.{negation}
use Rattle.forms.proofs.Parts.{put_over}
use Rattle.forms.proofs.rows.negate.Goals as goal

pub returns : goal.returns
returns g c =
    let o = g.D.Domain.ops in
    let p = c.copy-s.ensures.put in
    let i = c.loop-t.t-index in
    let ys = c.loop-t.t-items in
    let h : length ys ≤ i = omega arith in
    let e : ys ≡ negation o (part c.args.b c.args.row.now) =
    sym (ap (λ r. take i ys ++ negation o r) (drop_all i ys h) ∙ append-nil (take i ys) ∙ take_all i ys h) ∙ c.loop-t.invariant ∙ ap (negation o) p.is in
    rw (← e) (put_over _ _ _ _ _ ys p (omega arith) (omega arith))
