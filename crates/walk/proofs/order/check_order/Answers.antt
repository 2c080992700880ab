use Rattle.std.proofs.Common.{◌≡◌, ◌+◌, ◌<◌, ◌≤◌, true, false, ◌&&◌, eqb, ltb, length, get_or, Some, None, ap, ◌∙◌, arith, rules}
use Rattle.machine.specs.Machine.{row_at}
use Rattle.machine.specs.Tables.{table_machine}
use Rattle.walk.specs.Taking.{allowed_target}
use Rattle.walk.proofs.Ordered.{order_end, order_no_turn, order_reset, order_on, early, not_early}
use Rattle.walk.proofs.order.check_order.Goals as goal

pub returns-in_default : goal.returns-in_default
returns-in_default c =
    let lt : c.loop-index.index < length c.args.path.now = omega arith in
    let e : None ≡ allowed_target (row_at (table_machine c.args.start.table.words.now) c.loop-index.state.number) (get_or c.args.path.now c.loop-index.index false) = c.in_default.ensures.target ∙ ap (λ t. allowed_target (row_at (table_machine t.words.now) c.loop-index.state.number) (get_or c.args.path.now c.loop-index.index false)) c.loop-index.invariant.1 in
    order_no_turn c.args.start.table.words.now c.args.path.now c.args.start.number c.loop-index.index c.loop-index.state.number c.loop-index.invariant.0 lt e

pub returns-then-resets_early : goal.returns-then-resets_early
returns-then-resets_early c =
    let lt : c.loop-index.index < length c.args.path.now = omega arith in
    let e : Some c.in-Some.target.number ≡ allowed_target (row_at (table_machine c.args.start.table.words.now) c.loop-index.state.number) (get_or c.args.path.now c.loop-index.index false) = c.in-Some.ensures.target ∙ ap (λ t. allowed_target (row_at (table_machine t.words.now) c.loop-index.state.number) (get_or c.args.path.now c.loop-index.index false)) c.loop-index.invariant.1 in
    let h : true ≡ (eqb c.in-Some.target.number 0 && ltb (c.loop-index.index + 1) (length c.args.path.now)) = search rules in
    let k = early c.in-Some.target.number (c.loop-index.index + 1) (length c.args.path.now) h in
    order_reset c.args.start.table.words.now c.args.path.now c.args.start.number c.loop-index.index c.loop-index.state.number c.loop-index.invariant.0 lt c.in-Some.target.number e k.0 k.1

pub loop-index-preserved : goal.loop-index-preserved
loop-index-preserved c =
    let lt : c.loop-index.index < length c.args.path.now = omega arith in
    let e : Some c.in-Some.target.number ≡ allowed_target (row_at (table_machine c.args.start.table.words.now) c.loop-index.state.number) (get_or c.args.path.now c.loop-index.index false) = c.in-Some.ensures.target ∙ ap (λ t. allowed_target (row_at (table_machine t.words.now) c.loop-index.state.number) (get_or c.args.path.now c.loop-index.index false)) c.loop-index.invariant.1 in
    let h : false ≡ (eqb c.in-Some.target.number 0 && ltb (c.loop-index.index + 1) (length c.args.path.now)) = search rules in
    let k = not_early c.in-Some.target.number (c.loop-index.index + 1) (length c.args.path.now) h in
    (order_on c.args.start.table.words.now c.args.path.now c.args.start.number c.loop-index.index c.loop-index.state.number c.loop-index.invariant.0 lt c.in-Some.target.number e k, c.in-Some.ensures.table ∙ c.loop-index.invariant.1)

pub returns : goal.returns
returns c =
    let past : length c.args.path.now ≤ c.loop-index.index = omega arith in
    order_end c.args.start.table.words.now c.args.path.now c.args.start.number c.loop-index.index c.loop-index.state.number c.loop-index.invariant.0 past
