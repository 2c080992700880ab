use Rattle.std.proofs.Common.{arith}
use Rattle.machine.proofs.Opened.{state_there, state_beyond}
use Rattle.machine.proofs.accepted.Table.state.Goals as goal

pub invariant_of-result : goal.invariant_of-result
invariant_of-result c = record { there = state_there c.args.self c.args.number (omega arith) }

pub returns-then-number-self-clause-none : goal.returns-then-number-self-clause-none
returns-then-number-self-clause-none c = state_beyond c.args.self c.args.number (omega arith)
