use Rattle.std.proofs.Common.{◌≡◌, ◌+◌, ◌∷◌, ◌++◌, take, drop, sym, ap, ◌∙◌, arith}
use Rattle.std.proofs.lemmas.List.{append-nil, drop_all, drop_more}
use Rattle.forms.proofs.Parts.{made_more}
use Rattle.forms.proofs.merge.put.Goals as goal

pub loop-t-preserved : goal.loop-t-preserved
loop-t-preserved g c =
    let l = c.loop-t in
    let xs = c.args.terms.now in
    let t = c.t-item.result in
    let e : drop l.t-index xs ≡ t ∷ drop (l.t-index + 1) xs = drop_more xs l.t-index t (omega arith) ∙ ap (λ x. x ∷ drop (l.t-index + 1) xs) (sym c.t-item.is) in
    (made_more l.n l.row _ _ _ t l.invariant.0 e (omega arith), omega arith)

pub returns-clause-put : goal.returns-clause-put
returns-clause-put g c =
    let l = c.loop-t in
    let none = drop_all l.t-index c.args.terms.now (omega arith) in
    sym (append-nil (take l.n l.row)) ∙ sym (ap (λ r. take l.n l.row ++ r) none) ∙ l.invariant.0
