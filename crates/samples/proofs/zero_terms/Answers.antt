use Rattle.std.proofs.Common.{◌≡◌, ℕ, ◌+◌, List, [], ◌∷◌, ◌++◌, replicate, ap₂, ◌∙◌}
use Rattle.std.proofs.lemmas.List.{replicate-append-replicate}
use Rattle.samples.proofs.zero_terms.Goals as goal

-- one element more
replicate-push : {X : Type 0} (n : ℕ) (z x : X) (xs ys : List X) → xs ≡ replicate n z → x ≡ z → ys ≡ xs ++ (x ∷ []) → ys ≡ replicate (n + 1) z
replicate-push n z x xs ys e is p = p ∙ ap₂ (λ us u. us ++ (u ∷ [])) e is ∙ replicate-append-replicate n 1 z

pub loop-preserved : goal.loop-preserved
loop-preserved g c = replicate-push _ _ _ _ _ c.loop.invariant (cc) c.in_ok-push.ensures.items
