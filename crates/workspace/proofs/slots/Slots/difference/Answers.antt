use Rattle.std.proofs.Common.{◌≡◌, [], get_or, sym, ap, ◌∙◌, arith}
use Rattle.forms.specs.Rows.{part}
use Rattle.forms.specs.Forms as Forms
use Rattle.forms.proofs.Parts.{kept_then, part_kept}
use Rattle.forms.specs.Forms.{negation}
use Rattle.forms.proofs.Limits.{difference_is}
use Rattle.workspace.specs.Slots.{slots, give}
use Rattle.workspace.proofs.Steps.{form_at, place_within, settled, short, length_negation}
use Rattle.workspace.proofs.Laws.{ready}
use Rattle.workspace.proofs.slots.Slots.difference.Goals as goal

pub merge-s-requires-clause-room : goal.merge-s-requires-clause-room
merge-s-requires-clause-room g c =
    let o = g.D.Domain.ops in
    let ns = c.args.self.now.lens.of in
    let xs = c.args.self.now.row.now in
    let p = c.negate-n.ensures in
    let n = length_negation o (part c.span-q.result xs) in
    let a = place_within ns xs c.args.a (ready c.args.self.now) (omega arith) in
    let b = short ns xs c.args.b c.span-q.result (ready c.args.self.now) c.span-q.ensures in
    let f = p.from in
    let t = p.to in
    let k = p.kept.long in
    let few = (ready c.args.self.now).few c.args.a in
    let r = (ready c.args.self.now).room in
    let e1 = ap (λ s. s.from) c.span-p.ensures in
    let e2 = ap (λ s. s.to) c.span-p.ensures in
    omega arith

pub returns : goal.returns
returns g c =
    let o = g.D.Domain.ops in
    let ns = c.args.self.now.lens.of in
    let xs = c.args.self.now.row.now in
    let ys = c.negate-n.new.row in
    let zs = c.merge-s.new.row in
    let p = c.negate-n.ensures in
    let q = c.merge-s.ensures in
    let t = p.to in
    let k = kept_then 2592 c.negate-n.result.to xs ys zs (omega arith) p.kept q.kept in
    let w = place_within ns xs c.args.a (ready c.args.self.now) (omega arith) in
    let a : part c.span-p.result ys ≡ get_or (slots ns xs) c.args.a [] =
    part_kept c.span-p.result 2592 xs ys (rw c.span-p.ensures w) p.kept
    ∙ form_at ns xs c.args.a c.span-p.result (ready c.args.self.now) (omega arith) c.span-p.ensures in
    let b : part c.negate-n.result ys ≡ negation o (get_or (slots ns xs) c.args.b []) =
    p.is ∙ ap (negation o) (form_at ns xs c.args.b c.span-q.result (ready c.args.self.now) (omega arith) c.span-q.ensures) in
    record {
      forms =
          settled ns xs zs _ c.args.to c.merge-s.result _ (ready c.args.self.now) k
          (q.is ∙ ap (λ u. Forms.added o u (part c.negate-n.result ys)) a ∙ ap (Forms.added o (get_or (slots ns xs) c.args.a [])) b)
          c.settle.ensures.forms
          ∙ ap (λ r. give c.args.to r (slots ns xs)) (sym (difference_is o (get_or (slots ns xs) c.args.a []) (get_or (slots ns xs) c.args.b [])));
    }
