use Rattle.std.proofs.lemmas.Result.{err_from_is_err_and}
use Rattle.workspace.specs.Views.{forms}
use Rattle.machine.specs.Which.{which_number}
use Rattle.rules.proofs.Comparing.{compare_over, compare_unequal, compare_more, compare_end}
use Rattle.rules.proofs.ending.check_registers.Goals as goal

pub returns-in_err-registers-clause-same : goal.returns-in_err-registers-clause-same
returns-in_err-registers-clause-same g c =
    let p = err_from_is_err_and c.from_residual.result c.from_residual.ensures.1 in
    let v = compare_over g.D.Domain.ops c.args.symbols c.args.words.now c.args.from c.args.reached (which_number c.args.machine) (forms c.args.slots.now) c.loop-register.register c.loop-register.registers (forms c.loop-register.slots) c.loop-register.invariant c.loop-register-test.true c.in_err-registers.ensures.value in
    rw (p.1, p.2) v

pub returns-then-not-same-clause-same : goal.returns-then-not-same-clause-same
returns-then-not-same-clause-same g c =
    let e = c.in_ok-registers.ensures in
    let v = compare_unequal g.D.Domain.ops c.args.symbols c.args.words.now c.args.from c.args.reached (which_number c.args.machine) (forms c.args.slots.now) c.loop-register.register c.loop-register.registers (forms c.loop-register.slots) c.loop-register.invariant c.loop-register-test.true (forms c.work_out_register.new.slots) e.value e.kept.1 c.same.result c.same.ensures c.if-not-same.true in
    v

pub loop-register-preserved : goal.loop-register-preserved
loop-register-preserved g c =
    let e = c.in_ok-registers.ensures in
    compare_more g.D.Domain.ops c.args.symbols c.args.words.now c.args.from c.args.reached (which_number c.args.machine) (forms c.args.slots.now) c.loop-register.register c.loop-register.registers (forms c.loop-register.slots) c.loop-register.invariant c.loop-register-test.true (forms c.work_out_register.new.slots) e.value e.kept.1 c.same.result c.same.ensures c.in_ok-registers.registers c.if-not-same.false e.kept.0

pub returns-clause-same : goal.returns-clause-same
returns-clause-same g c =
    let v = compare_end g.D.Domain.ops c.args.symbols c.args.words.now c.args.from c.args.reached (which_number c.args.machine) (forms c.args.slots.now) c.loop-register.register c.loop-register.registers (forms c.loop-register.slots) c.loop-register.invariant c.loop-register-test.false in
    v
