use Rattle.std.proofs.Common.{◌≡◌, ◌+◌, ◌∷◌, drop, length-set, ◌++◌, take, sym, ap, ◌∙◌, arith}
use Rattle.std.proofs.lemmas.List.{drop_all}
use Rattle.std.proofs.lemmas.Grind.{common_steps}
use Rattle.forms.specs.Rows.{part}
use Rattle.forms.specs.Forms.{scaled}
use Rattle.forms.proofs.Parts.{part_below, put_behind, made_more}
use Rattle.forms.proofs.product.scale.Goals as goal
use Rattle.forms.proofs.product.scale.Goals.{then-not-same, else-not-same}

pub loop-y-preserved : goal.loop-y-preserved
loop-y-preserved g c =
    let o = g.D.Domain.ops in
    let l = c.loop-y in
    let x = c.args.x in
    let t = c.times-t.result in
    let ys = part c.args.b c.split_at_mut-below.result.0.now in
    elim c.if-not-same.branch [
      | then-not-same w ↦
          let e : scaled o x (drop l.y-index ys) ≡ t ∷ scaled o x (drop (l.y-index + 1) ys) = grind (arith, common_steps) in
          simp (w.target-is, w.n-is) (made_more l.n l.target _ _ _ t l.invariant.0 e (omega arith), omega arith, simp length-set (omega arith))
      | else-not-same w ↦
          let e : scaled o x (drop l.y-index ys) ≡ scaled o x (drop (l.y-index + 1) ys) = grind (arith, common_steps) in
          simp (w.target-is, w.n-is) (ap (λ r. take l.n l.target ++ r) (sym e) ∙ l.invariant.0, omega arith, omega arith)
    ]

pub returns : goal.returns
returns g c =
    let o = g.D.Domain.ops in
    let l = c.loop-y in
    let base = c.args.row.now in
    let below = c.split_at_mut-below in
    let e = below.ensures.front in
    let n = drop_all l.y-index (part c.args.b below.result.0.now) (omega arith) in
    let made = sym (ap (λ ys. take l.n l.target ++ scaled o c.args.x ys) n) ∙ l.invariant.0 ∙ ap (scaled o c.args.x) (part_below c.args.b c.args.at base _ c.requires.b e) in
    put_behind c.args.at l.n base _ l.target _ (omega arith) e (grind (arith, common_steps)) (omega arith) made
