use Rattle.std.proofs.Common.{refl}
use Rattle.expression.specs.Run.{meaning}
use Rattle.expression.specs.Shape.{is_expression, split}
use Rattle.expression.specs.Words.{item_of}
use Rattle.forms.specs.Monomials.{K, degree, times_word}
use Rattle.forms.specs.Forms.{sum, difference, product, constant_form, variable}
use Rattle.machine.specs.Reading.{transition, rows, first_rows}
use Rattle.walk.specs.Settled.{settled}
use Rattle.walk.specs.Walk.{in_order, walk}
use Rattle.proposal.specs.Reading.{all_stored, read_pair_head, read_mask, read_facts, read_body, read_pair, read_claim_head, read_path, read_claim}
use Rattle.correspondence.specs.Judgement.{never_taken, same_outputs, same_registers, facts_settled, end_holds, live_rules, infeasible_rules, judge}
use Rattle.correspondence.specs.Coverage.{unmatched, verdict}
use Rattle.correspondence.specs.Calls.{opening, filing}
use Rattle.correspondence.proofs.points.points_hold.Goals as goal

pub returns : goal.returns
unfolding opening transition rows first_rows filing all_stored read_pair_head read_mask read_facts read_body read_pair read_claim_head read_path read_claim judge in_order walk settled never_taken same_outputs same_registers facts_settled end_holds live_rules infeasible_rules unmatched verdict meaning is_expression split item_of sum difference product constant_form variable K degree times_word
returns c = record { forms = c.points_hold.ensures; counter = refl; counter_without = refl }
