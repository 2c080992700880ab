use Rattle.workspace.specs.Views.{forms}
use Rattle.rules.proofs.Filling.{fill_more}
use Rattle.rules.proofs.registers.work_out_registers.Goals as goal

pub loop-i-preserved : goal.loop-i-preserved
loop-i-preserved g c =
    let e = c.in_ok-registers.ensures in
    fill_more g.D.Domain.ops c.args.words.now c.args.from c.args.group (forms c.args.slots.now) c.loop-i.i c.loop-i.registers (forms c.loop-i.slots) c.loop-i.invariant
    c.in_ok-registers.registers (forms c.work_out_register.new.slots) c.loop-i-test.true e.value e.kept.0 e.kept.1
