use Rattle.std.proofs.Common.{rules, tests}
use Rattle.coverage.specs.Matching.{is_longer}
use Rattle.coverage.proofs.Agreeing.{as_matches}
use Rattle.coverage.proofs.matching.is_match.Goals as goal

pub returns-then-start_of-pair : goal.returns-then-start_of-pair
returns-then-start_of-pair c = rw (as_matches (is_longer c.args.along) c.args.pair c.args.path c.args.claim) (search (rules, tests))
