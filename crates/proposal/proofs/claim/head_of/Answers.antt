use Rattle.std.proofs.Common.{◌≡◌, ℕ, Bool, true, not, ◌&&◌, ◌||◌, ◌==◌, ◌/◌, ◌%◌, eqb, sym, ◌∙◌, rules}
use Rattle.std.proofs.lemmas.Bool.{eqb-true, and_parts}
use Rattle.expression.specs.Words.{kind, number}
use Rattle.proposal.specs.Reading.{read_claim_head}
use Rattle.proposal.proofs.claim.head_of.Goals as goal

pub returns-then-not-is_head : goal.returns-then-not-is_head
unfolding read_claim_head
returns-then-not-is_head c = search rules

-- the end pair that an infeasible claim has
no_end : (b a : Bool) (f e : ℕ) → f ≡ 1 → (b && (a && (not (eqb f 1) || eqb e 0))) ≡ true → e ≡ 0
no_end b a f e is h =
    let p = (and_parts a _ (and_parts b _ h).1).1 in
    eqb-true e 0 (rw is at p)

pub returns-then-number-eq1 : goal.returns-then-number-eq1
unfolding read_claim_head
returns-then-number-eq1 c =
    let t = sym c.is_head.ensures ∙ c.if-not-is_head.false in
    let flag = rw c.number_of-number.ensures at c.if-number-eq1.true in
    let z = no_end (kind c.args.word == 11) _ (number c.args.word / 65536) (number c.args.word / 256 % 256) flag t in search rules

pub returns : goal.returns
unfolding read_claim_head
returns c = search rules
