use Rattle.expression.proofs.WordsBack.{read_back}
use Rattle.expression.proofs.words.words_read_back.Goals as goal

pub returns : goal.returns
returns c = read_back
