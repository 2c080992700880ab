use Rattle.expression.proofs.Splits.{one_split}
use Rattle.expression.proofs.shape.splits_once.Goals as goal

pub returns : goal.returns
returns c = one_split
