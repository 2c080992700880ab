use Rattle.machine.proofs.Opened.{is_table}
use Rattle.machine.specs.Tables.{table_machine}
use Rattle.walk.proofs.Stepped.{row_read, row_readable, row_goes}
use Rattle.walk.proofs.steps.row_there.Goals as goal

pub returns : goal.returns
returns c =
    let words = c.args.state.table.words.now in
    let number = c.args.state.number in
    let table = is_table c.args.state.table in
    let there = c.args.state.there in
    let e = row_read words number table there c.row_of.result c.unwrap.result c.unwrap.ensures (c.row_of.ensures.encodes (table_machine words) table) in
    record {
      row = e;
      readable = row_readable words number table there _ e;
      targets = row_goes words number table there _ e;
    }
