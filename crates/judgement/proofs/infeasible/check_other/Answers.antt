use Rattle.std.proofs.Common.{◌≡◌, not, [], ◌∷◌, Some, rules}
use Rattle.machine.specs.Reading.{row_of}
use Rattle.machine.specs.Views.{ahead}
use Rattle.workspace.specs.Views.{forms}
use Rattle.walk.specs.Walk.{tested}
use Rattle.walk.specs.Seen.{kept_seen, at_hand}
use Rattle.judgement.proofs.NeverTaken.{other_told}
use Rattle.judgement.proofs.infeasible.check_other.Goals as goal

pub returns-then-not-is_settled : goal.returns-then-not-is_settled
returns-then-not-is_settled g c =
    let fs = forms c.args.slots.now in
    let fs' = forms c.put_test.new.slots in
    let side = c.args.side in
    let asked = at_hand fs' (record { test = c.in-Some.test; says = not c.args.turn }) in
    let put : Some (asked ∷ []) ≡ tested g.D.Domain.ops (row_of (ahead c.row_there-row.result)) (not c.args.turn) (kept_seen fs side.registers.first side.registers.count) = search rules in
    other_told g.D.Domain.ops side c.args.state.number c.args.known.now c.args.outputs.now fs fs' _ _ c.args.turn asked _ put c.row_there-row.ensures.row c.in_ok-test.ensures.kept c.if-not-is_settled.ensures

pub returns : goal.returns
returns g c =
    let fs = forms c.args.slots.now in
    let fs' = forms c.put_test.new.slots in
    let side = c.args.side in
    let asked = at_hand fs' (record { test = c.in-Some.test; says = not c.args.turn }) in
    let put : Some (asked ∷ []) ≡ tested g.D.Domain.ops (row_of (ahead c.row_there-row.result)) (not c.args.turn) (kept_seen fs side.registers.first side.registers.count) = search rules in
    other_told g.D.Domain.ops side c.args.state.number c.args.known.now c.args.outputs.now fs fs' _ _ c.args.turn asked _ put c.row_there-row.ensures.row c.in_ok-test.ensures.kept c.if-not-is_settled.ensures
