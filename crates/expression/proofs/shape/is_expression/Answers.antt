use Rattle.std.proofs.Common.{rules}
use Rattle.expression.proofs.Shapes.{expression_long, expression_is, lands_short, lands_over, lands_end}
use Rattle.expression.proofs.shape.is_expression.Goals as goal

pub returns-then-words-gt-LONGEST : goal.returns-then-words-gt-LONGEST
returns-then-words-gt-LONGEST c = search (rules, expression_long)

pub returns-then-t-depth : goal.returns-then-t-depth
returns-then-t-depth c = search (rules, expression_is, lands_short, lands_over)

pub returns : goal.returns
returns c = search (rules, expression_is, lands_end)
