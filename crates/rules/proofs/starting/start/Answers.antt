use Rattle.std.proofs.Common.{◌≡◌}
use Rattle.std.proofs.lemmas.Result.{err_from_is_err_and}
use Rattle.workspace.specs.Views.{forms}
use Rattle.walk.specs.Seen.{kept_seen}
use Rattle.rules.specs.Kept.{kept_pair}
use Rattle.rules.specs.Expressions.{registers_at, facts_at}
use Rattle.rules.proofs.PairParts.{kept_parts, found_first, found_second, found_facts}
use Rattle.rules.proofs.Begun.{first_over, second_over, all_begun, still_there, few_known}
use Rattle.rules.proofs.starting.start.Goals as goal

pub work_out_registers-requires : goal.work_out_registers-requires
work_out_registers-requires g c =
    let k = c.args.pair.now.counts in
    let ws = c.args.pair.now.words.now in
    let parts = kept_parts k ws c.args.pair.now.fit c.args.pair.now.kept in
    record { readable = (found_first k ws parts c.first_registers.result c.first_registers.ensures).1 }

pub returns-in_err-behind_first-clause-starts : goal.returns-in_err-behind_first-clause-starts
returns-in_err-behind_first-clause-starts g c =
    let k = c.args.pair.now.counts in
    let ws = c.args.pair.now.words.now in
    let parts = kept_parts k ws c.args.pair.now.fit c.args.pair.now.kept in
    let p = err_from_is_err_and c.from_residual.result c.from_residual.ensures.1 in
    let v = first_over g.D.Domain.ops (kept_pair k ws) (registers_at ws k.one.registers c.first_registers.result) c.in_err-behind_first.ensures.values (found_first k ws parts c.first_registers.result c.first_registers.ensures).0 in
    rw p.1 v

pub work_out_registers-requires-2 : goal.work_out_registers-requires-2
work_out_registers-requires-2 g c =
    let k = c.args.pair.now.counts in
    let ws = c.args.pair.now.words.now in
    let parts = kept_parts k ws c.args.pair.now.fit c.args.pair.now.kept in
    let e = c.in_ok-behind_first.ensures in
    record { readable = (found_second k ws parts c.first_registers.result c.first_registers.ensures c.in_ok-behind_first.behind_first e.kept.0 c.second_registers-from.result c.second_registers-from.ensures).1 }

pub returns-in_err-behind_second-clause-starts : goal.returns-in_err-behind_second-clause-starts
returns-in_err-behind_second-clause-starts g c =
    let k = c.args.pair.now.counts in
    let ws = c.args.pair.now.words.now in
    let parts = kept_parts k ws c.args.pair.now.fit c.args.pair.now.kept in
    let e = c.in_ok-behind_first.ensures in
    let rs₁ = c.first_registers.result in
    let rs₂ = c.second_registers-from.result in
    let p = err_from_is_err_and c.from_residual-in_err-behind_second.result c.from_residual-in_err-behind_second.ensures.1 in
    let v = second_over g.D.Domain.ops (kept_pair k ws) (registers_at ws k.one.registers rs₁) (kept_seen (forms c.work_out_registers.new.slots) 0 k.one.registers) e.values (found_first k ws parts rs₁ c.first_registers.ensures).0
    (registers_at ws k.two.registers rs₂) c.in_err-behind_second.ensures.values (found_second k ws parts rs₁ c.first_registers.ensures c.in_ok-behind_first.behind_first e.kept.0 rs₂ c.second_registers-from.ensures).0 in
    rw p.1 v

pub learn_facts-requires : goal.learn_facts-requires
learn_facts-requires g c =
    let k = c.args.pair.now.counts in
    let ws = c.args.pair.now.words.now in
    let parts = kept_parts k ws c.args.pair.now.fit c.args.pair.now.kept in
    let e = c.in_ok-behind_first.ensures in
    let f = c.in_ok-behind_second.ensures in
    let found = found_facts k ws parts c.first_registers.result c.first_registers.ensures c.in_ok-behind_first.behind_first e.kept.0 c.second_registers-from.result c.second_registers-from.ensures c.in_ok-behind_second.behind_second f.kept.0 c.fact_count.result c.fact_count.ensures in
    record { readable = found.1; few = found.2 }

pub returns : goal.returns
returns g c =
    let o = g.D.Domain.ops in
    let k = c.args.pair.now.counts in
    let ws = c.args.pair.now.words.now in
    let parts = kept_parts k ws c.args.pair.now.fit c.args.pair.now.kept in
    let e = c.in_ok-behind_first.ensures in
    let f = c.in_ok-behind_second.ensures in
    let rs₁ = c.first_registers.result in
    let rs₂ = c.second_registers-from.result in
    let p = c.in_ok-behind_first.behind_first in
    let q = c.in_ok-behind_second.behind_second in
    let n = c.fact_count.result in
    let f₁ = forms c.work_out_registers.new.slots in
    let f₂ = forms c.work_out_registers-2.new.slots in
    let f₃ = forms c.learn_facts.new.slots in
    let first = found_first k ws parts rs₁ c.first_registers.ensures in
    let second = found_second k ws parts rs₁ c.first_registers.ensures p e.kept.0 rs₂ c.second_registers-from.ensures in
    let facts = found_facts k ws parts rs₁ c.first_registers.ensures p e.kept.0 rs₂ c.second_registers-from.ensures q f.kept.0 n c.fact_count.ensures in
    let r = c.learn_facts.result in
    record {
      starts = all_begun o (kept_pair k ws) (registers_at ws k.one.registers rs₁) (kept_seen f₁ 0 k.one.registers) e.values first.0
          (registers_at ws k.two.registers rs₂) (kept_seen f₂ 16 k.two.registers) f.values second.0 (facts_at ws n q) facts.0
          r k f₃ c.learn_facts.ensures.known (still_there k c.args.pair.now.fit f₁ f₂ f₃ f.kept.1 r (λ known. known.count ≡ n) c.learn_facts.ensures.kept);
      few = few_known n f₂ f₃ facts.2 r c.learn_facts.ensures.kept;
    }
