-- `splice::inpaint_gaps` meets its contract: lists that are turned away end it, and else it is the spans one after the other.
-- Assumes nothing.
use mathlib.Core.Path.{◌≡◌, sym, ◌∙◌}
use mathlib.Core.Bool.{false}
use Rattle.recording.specs.Lent.{held}
use Rattle.splice.specs.Several.{answer_lists, lists_wrong}
use Rattle.splice.proofs.Laws.{as_long, list_refused, list_taken}
use Rattle.splice.proofs.inpaint_gaps.Goals as goal

pub returns-then-lengths_wrong-clause-rule : goal.returns-then-lengths_wrong-clause-rule
returns-then-lengths_wrong-clause-rule c =
    let a = c.args in
    let lists = answer_lists a.numbers.now a.values.now a.orders.now in
    list_refused a.starts.now a.lens.now a.passes a.work.now lists (held a.recording.now) (sym c.lengths_wrong.ensures ∙ c.if-lengths_wrong.true)

pub repair_in_turn-requires : goal.repair_in_turn-requires
repair_in_turn-requires c =
    let long = as_long _ _ _ _ _ (sym c.lengths_wrong.ensures ∙ c.if-lengths_wrong.false) in
    (long.of_lens, long.of_numbers, long.of_values, long.of_orders)

pub returns-clause-rule : goal.returns-clause-rule
returns-clause-rule c =
    let a = c.args in
    let lists = answer_lists a.numbers.now a.values.now a.orders.now in
    let right : lists_wrong a.starts.now a.lens.now lists ≡ false = sym c.lengths_wrong.ensures ∙ c.if-lengths_wrong.false in
    c.repair_in_turn.ensures.rule ∙ list_taken a.starts.now a.lens.now a.passes a.work.now lists (held a.recording.now) right
