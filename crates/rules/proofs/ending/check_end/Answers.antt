use Rattle.std.proofs.lemmas.Result.{err_from_is_err_and}
use Rattle.workspace.specs.Views.{forms}
use Rattle.rules.proofs.PairParts.{kept_parts, found_first}
use Rattle.rules.proofs.Reached.{readable_claim, substitution_over, first_unequal, readable_second, second_unequal, readable_facts, facts_judged}
use Rattle.rules.proofs.ending.check_end.Goals as goal

pub work_out_registers-requires : goal.work_out_registers-requires
work_out_registers-requires g c =
    let k = c.args.pair.now.counts in
    let ws = c.args.pair.now.words.now in
    let parts = kept_parts k ws c.args.pair.now.fit c.args.pair.now.kept in
    let n = c.symbol_count in
    let rs = c.substitution_registers in
    record {
      readable = readable_claim g.D.Domain.ops k c.args.pair.now.fit ws c.args.claim.now c.args.known.now parts n.result n.ensures rs.result rs.ensures (forms c.args.slots.now) c.requires.substituted;
    }

pub returns-in_err-work_out_registers : goal.returns-in_err-work_out_registers
returns-in_err-work_out_registers g c =
    let k = c.args.pair.now.counts in
    let ws = c.args.pair.now.words.now in
    let parts = kept_parts k ws c.args.pair.now.fit c.args.pair.now.kept in
    let n = c.symbol_count in
    let rs = c.substitution_registers in
    let p = err_from_is_err_and c.from_residual.result c.from_residual.ensures.1 in
    let v = substitution_over g.D.Domain.ops k c.args.pair.now.fit ws c.args.claim.now c.args.known.now parts n.result n.ensures rs.result rs.ensures (forms c.args.slots.now) c.in_err-work_out_registers.ensures.values in
    rw (p.1, p.2) v

pub check_registers-requires : goal.check_registers-requires
check_registers-requires g c =
    let k = c.args.pair.now.counts in
    let ws = c.args.pair.now.words.now in
    let parts = kept_parts k ws c.args.pair.now.fit c.args.pair.now.kept in
    record {
      readable = (found_first k ws parts c.first_registers-from.result c.first_registers-from.ensures).1;
    }

pub returns-in_err-behind_first : goal.returns-in_err-behind_first
returns-in_err-behind_first g c =
    let k = c.args.pair.now.counts in
    let ws = c.args.pair.now.words.now in
    let parts = kept_parts k ws c.args.pair.now.fit c.args.pair.now.kept in
    let n = c.symbol_count in
    let rs = c.substitution_registers in
    let e = c.in_ok-work_out_registers.ensures in
    let p = err_from_is_err_and c.from_residual-in_err-behind_first.result c.from_residual-in_err-behind_first.ensures.1 in
    let v = first_unequal g.D.Domain.ops k c.args.pair.now.fit ws c.args.claim.now c.args.known.now parts n.result n.ensures rs.result rs.ensures (forms c.args.slots.now) (forms c.work_out_registers.new.slots) e.values e.kept.1 c.first_registers-from.result c.first_registers-from.ensures _ _ c.in_err-behind_first.ensures.same in
    rw (p.1, p.2) v

pub check_registers-requires-2 : goal.check_registers-requires-2
check_registers-requires-2 g c =
    let k = c.args.pair.now.counts in
    let ws = c.args.pair.now.words.now in
    let parts = kept_parts k ws c.args.pair.now.fit c.args.pair.now.kept in
    let n = c.symbol_count in
    let rs = c.substitution_registers in
    let e = c.in_ok-work_out_registers.ensures in
    let a = c.in_ok-behind_first.ensures in
    record {
      readable = readable_second g.D.Domain.ops k c.args.pair.now.fit ws c.args.claim.now c.args.known.now parts n.result n.ensures rs.result rs.ensures (forms c.args.slots.now) (forms c.work_out_registers.new.slots) e.values e.kept.1 c.first_registers-from.result c.first_registers-from.ensures
          c.in_ok-behind_first.behind_first (forms c.check_registers.new.slots) a.same a.kept c.second_registers-from.result c.second_registers-from.ensures;
    }

pub returns-in_err-behind_second : goal.returns-in_err-behind_second
returns-in_err-behind_second g c =
    let k = c.args.pair.now.counts in
    let ws = c.args.pair.now.words.now in
    let parts = kept_parts k ws c.args.pair.now.fit c.args.pair.now.kept in
    let n = c.symbol_count in
    let rs = c.substitution_registers in
    let e = c.in_ok-work_out_registers.ensures in
    let a = c.in_ok-behind_first.ensures in
    let p = err_from_is_err_and c.from_residual-in_err-behind_second.result c.from_residual-in_err-behind_second.ensures.1 in
    let v = second_unequal g.D.Domain.ops k c.args.pair.now.fit ws c.args.claim.now c.args.known.now parts n.result n.ensures rs.result rs.ensures (forms c.args.slots.now) (forms c.work_out_registers.new.slots) e.values e.kept.1 c.first_registers-from.result c.first_registers-from.ensures
    c.in_ok-behind_first.behind_first (forms c.check_registers.new.slots) a.same a.kept c.second_registers-from.result c.second_registers-from.ensures _ _ c.in_err-behind_second.ensures.same in
    rw (p.1, p.2) v

pub check_facts-requires : goal.check_facts-requires
check_facts-requires g c =
    let k = c.args.pair.now.counts in
    let ws = c.args.pair.now.words.now in
    let parts = kept_parts k ws c.args.pair.now.fit c.args.pair.now.kept in
    let n = c.symbol_count in
    let rs = c.substitution_registers in
    let e = c.in_ok-work_out_registers.ensures in
    let a = c.in_ok-behind_first.ensures in
    let b = c.in_ok-behind_second.ensures in
    record {
      readable = readable_facts g.D.Domain.ops k c.args.pair.now.fit ws c.args.claim.now c.args.known.now parts n.result n.ensures rs.result rs.ensures (forms c.args.slots.now) (forms c.work_out_registers.new.slots) e.values e.kept.1 c.first_registers-from.result c.first_registers-from.ensures
          c.in_ok-behind_first.behind_first (forms c.check_registers.new.slots) a.same a.kept c.second_registers-from.result c.second_registers-from.ensures
          c.in_ok-behind_second.behind_second (forms c.check_registers-2.new.slots) b.same b.kept c.fact_count.result c.fact_count.ensures;
    }

pub returns : goal.returns
returns g c =
    let k = c.args.pair.now.counts in
    let ws = c.args.pair.now.words.now in
    let parts = kept_parts k ws c.args.pair.now.fit c.args.pair.now.kept in
    let n = c.symbol_count in
    let rs = c.substitution_registers in
    let e = c.in_ok-work_out_registers.ensures in
    let a = c.in_ok-behind_first.ensures in
    let b = c.in_ok-behind_second.ensures in
    facts_judged g.D.Domain.ops k c.args.pair.now.fit ws c.args.claim.now c.args.known.now parts n.result n.ensures rs.result rs.ensures (forms c.args.slots.now) (forms c.work_out_registers.new.slots) e.values e.kept.1 c.first_registers-from.result c.first_registers-from.ensures
    c.in_ok-behind_first.behind_first (forms c.check_registers.new.slots) a.same a.kept c.second_registers-from.result c.second_registers-from.ensures
    c.in_ok-behind_second.behind_second (forms c.check_registers-2.new.slots) b.same b.kept c.fact_count.result c.fact_count.ensures
    c.check_facts.result c.check_facts.ensures.settles
