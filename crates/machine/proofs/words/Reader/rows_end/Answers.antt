use Rattle.std.proofs.Common.{arith, rules}
use Rattle.machine.specs.Reading.{rows}
use Rattle.machine.proofs.Exits.{exit_told}
use Rattle.machine.proofs.Steps.{rows_more, rows_refused}
use Rattle.machine.proofs.words.Reader.rows_end.Goals as goal

pub loop-row-init : goal.loop-row-init
unfolding rows
loop-row-init c = search rules

pub returns-in_err-p-clause-reads : goal.returns-in_err-p-clause-reads
returns-in_err-p-clause-reads c =
    let e = c.from_residual.ensures.1 in
    let stop = rows_refused _ _ _ _ _ _ _ _ c.loop-row.invariant.2 (omega arith) c.in_err-p.ensures.reads in
    exit_told _ _ _ e stop

pub loop-row-preserved : goal.loop-row-preserved
loop-row-preserved c = search (rules, rows_more)
