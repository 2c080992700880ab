use Rattle.std.proofs.Common.{rules}
use Rattle.machine.proofs.Steps.{transition_at}
use Rattle.machine.proofs.words.Reader.transition_end.Goals as goal

pub returns-in_err-q-clause-reads : goal.returns-in_err-q-clause-reads
returns-in_err-q-clause-reads c = search (rules, transition_at)

pub returns-then-p-q-clause-reads : goal.returns-then-p-q-clause-reads
returns-then-p-q-clause-reads c = let e = transition_at c.args.self.now.limits c.args.self.now.words.now c.actions.left c.actions.stored c.actions.p in search rules

pub returns-else-p-q-clause-reads : goal.returns-else-p-q-clause-reads
returns-else-p-q-clause-reads c = search (rules, transition_at)

pub returns-then-left-eq0-clause-reads : goal.returns-then-left-eq0-clause-reads
returns-then-left-eq0-clause-reads c = search (rules, transition_at)

pub actions-preserved : goal.actions-preserved
actions-preserved c = search (rules, transition_at)
