use Rattle.coverage.proofs.tree.Tree.+first_unmatched.Given as goal

abbrev pub decreases-first_unmatched : goal.decreases-first_unmatched
decreases-first_unmatched l = l.left
