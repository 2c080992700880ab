use Rattle.std.proofs.Common.{◌≡◌, ◌∷◌, map, sym, ap, ◌∙◌, rules}
use Rattle.std.proofs.lemmas.Result.{err_from_is_err_and}
use Rattle.expression.specs.Words.{item_of}
use Rattle.machine.specs.Reading.{tests, transition_of, behind, row_of}
use Rattle.machine.specs.Views.{ahead}
use Rattle.workspace.specs.Views.{forms}
use Rattle.walk.specs.Seen.{kept_seen}
use Rattle.walk.specs.Walk.{tested}
use Rattle.walk.proofs.Tested.{second_over, both}
use Rattle.walk.proofs.testing.put_test.Goals as goal

pub returns-in_err-work_out-2-clause-tests : goal.returns-in_err-work_out-2-clause-tests
returns-in_err-work_out-2-clause-tests g c =
    let o = g.D.Domain.ops in
    let t = c.in-Some-Test in
    let is : ahead c.args.row.now ≡ tests t.test t.left.now t.right.now ∷ ahead c.next_part.new.self = search rules in
    let fs = forms c.args.slots.now in
    let e = c.in_ok-work_out.ensures in
    let f = c.in_err-work_out-2.ensures in
    let v = second_over o c.args.registers t.test (map item_of t.left.now) (map item_of t.right.now) (transition_of (ahead c.next_part.new.self)) (transition_of (behind (ahead c.next_part.new.self))) c.args.turn fs (forms c.work_out.new.slots) e.kept e.value f.value in
    let p = err_from_is_err_and c.from_residual-in_err-work_out-2.result c.from_residual-in_err-work_out-2.ensures.1 in
    rw p.1 (v ∙ ap (λ a. tested o (row_of a) c.args.turn (kept_seen fs c.args.registers.first c.args.registers.count)) (sym is))

pub returns-clause-tests : goal.returns-clause-tests
returns-clause-tests g c =
    let o = g.D.Domain.ops in
    let t = c.in-Some-Test in
    let is : ahead c.args.row.now ≡ tests t.test t.left.now t.right.now ∷ ahead c.next_part.new.self = search rules in
    let fs = forms c.args.slots.now in
    let f₁ = forms c.work_out.new.slots in
    let f₂ = forms c.work_out-2.new.slots in
    let e = c.in_ok-work_out.ensures in
    let f = c.in_ok-work_out-2.ensures in
    let l = map item_of t.left.now in
    let r = map item_of t.right.now in
    let y = transition_of (ahead c.next_part.new.self) in
    let n = transition_of (behind (ahead c.next_part.new.self)) in
    both o c.args.registers t.test l r y n c.args.turn fs f₁ e.kept e.value f₂ f.kept f.value ∙ ap (λ a. tested o (row_of a) c.args.turn (kept_seen fs c.args.registers.first c.args.registers.count)) (sym is)
