use Rattle.std.proofs.Common.{[], ◌∷◌, ap, ◌∙◌}
use Rattle.expression.specs.Words.{item_of}
use Rattle.workspace.specs.Views.{forms}
use Rattle.correspondence.specs.Judgement.{form_in_proposal}
use Rattle.rules.specs.Seen.{symbols_seen}
use Rattle.rules.proofs.Symbols.{symbol_item, symbol_expression}
use Rattle.rules.proofs.registers.work_out_symbol.Goals as goal

pub invariant_of-work_out : goal.invariant_of-work_out
invariant_of-work_out g c = record { is = rw c.word.ensures (symbol_expression c.args.symbol c.requires.small) }

pub returns-clause-value : goal.returns-clause-value
returns-clause-value g c =
    let o = g.D.Domain.ops in
    c.work_out.ensures.value ∙ ap (λ i. form_in_proposal o (symbols_seen o c.args.symbols (forms c.args.slots.now)) (i ∷ [])) (ap item_of c.word.ensures ∙ symbol_item c.args.symbol c.requires.small)
