use Rattle.forms.proofs.Merging.{monomial_facts, code_facts}
use Rattle.forms.proofs.theorems.monomial_facts.Goals as goal

pub returns : goal.returns
returns c = record { words = monomial_facts; codes = code_facts }
