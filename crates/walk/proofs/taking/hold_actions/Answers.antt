use Rattle.std.proofs.Common.{◌≡◌, map, rules}
use Rattle.std.proofs.lemmas.Result.{err_from_is_err_and}
use Rattle.expression.specs.Words.{item_of}
use Rattle.machine.specs.Machine.{store, emit}
use Rattle.machine.specs.Reading.{transition_of, acting}
use Rattle.machine.specs.Views.{ahead}
use Rattle.workspace.specs.Views.{forms}
use Rattle.walk.proofs.Held.{after_store, over_store, after_emit, over_emit}
use Rattle.walk.proofs.taking.hold_actions.Goals as goal

pub loop-part-preserved-in-Continue-1 : goal.loop-part-preserved-in-Continue-1
loop-part-preserved-in-Continue-1 g c =
    let e = c.in_ok-hold_store-in-Store.ensures in
    let is : transition_of (ahead c.loop-part.row) ≡ acting (store c.in-Store.register (map item_of c.in-Store.value.now)) (transition_of (ahead c.next_part.new.self)) = search rules in
    after_store g.D.Domain.ops c.args.side (forms c.args.slots.now) _ _ _ (forms c.loop-part.slots) _ _ _ _ c.loop-part.invariant _ _ is (forms c.hold_store.new.slots) c.hold_store.new.pending e.held e.count e.kept

pub returns-in_err-hold_store-in-Store-clause-held : goal.returns-in_err-hold_store-in-Store-clause-held
returns-in_err-hold_store-in-Store-clause-held g c =
    let e = c.in_err-hold_store-in-Store.ensures in
    let is : transition_of (ahead c.loop-part.row) ≡ acting (store c.in-Store.register (map item_of c.in-Store.value.now)) (transition_of (ahead c.next_part.new.self)) = search rules in
    let p = err_from_is_err_and c.from_residual.result c.from_residual.ensures.1 in
    let n = over_store g.D.Domain.ops c.args.side (forms c.args.slots.now) _ _ _ (forms c.loop-part.slots) _ _ _ _ c.loop-part.invariant _ _ is e.held in
    rw p.1 n

pub loop-part-preserved-in-Continue-branch-2 : goal.loop-part-preserved-in-Continue-branch-2
loop-part-preserved-in-Continue-branch-2 g c =
    let e = c.in_ok-append_output-in-Emit.ensures in
    let is : transition_of (ahead c.loop-part.row) ≡ acting (emit c.in-Emit.port (map item_of c.in-Emit.value.now)) (transition_of (ahead c.next_part.new.self)) = search rules in
    after_emit g.D.Domain.ops c.args.side (forms c.args.slots.now) _ _ _ (forms c.loop-part.slots) _ _ _ _ c.loop-part.invariant _ _ is (forms c.append_output.new.slots) c.append_output.new.outputs e.appended e.kept

pub returns-in_err-append_output-in-Emit-clause-held : goal.returns-in_err-append_output-in-Emit-clause-held
returns-in_err-append_output-in-Emit-clause-held g c =
    let e = c.in_err-append_output-in-Emit.ensures in
    let is : transition_of (ahead c.loop-part.row) ≡ acting (emit c.in-Emit.port (map item_of c.in-Emit.value.now)) (transition_of (ahead c.next_part.new.self)) = search rules in
    let p = err_from_is_err_and c.from_residual-in_err-append_output-in-Emit.result c.from_residual-in_err-append_output-in-Emit.ensures.1 in
    let n = over_emit g.D.Domain.ops c.args.side (forms c.args.slots.now) _ _ _ (forms c.loop-part.slots) _ _ _ _ c.loop-part.invariant _ _ is e.appended in
    rw p.1 n
