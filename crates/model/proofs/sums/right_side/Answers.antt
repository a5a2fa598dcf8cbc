-- `model::sums::right_side` meets its contract. Each loop's invariant: adding what is left gives the whole. Assumes
-- nothing.
use Rattle.model.proofs.sums.Laws.{plus_turn, plus_done, before_start, right_end}
use Rattle.model.proofs.sums.right_side.Goals as goal

pub loop-x-init : goal.loop-x-init
loop-x-init c = before_start _ _ _ _ c.saturating_sub-x.ensures

pub loop-x-preserved : goal.loop-x-preserved
loop-x-preserved c = plus_turn _ _ _ _ _ c.loop-x-test.true c.loop-x.invariant

pub loop-x-2-preserved : goal.loop-x-2-preserved
loop-x-2-preserved c = plus_turn _ _ _ _ _ c.loop-x-2-test.true c.loop-x-2.invariant

pub returns : goal.returns
returns c =
    let before = plus_done _ _ _ _ _ c.loop-x-test.false c.loop-x.invariant in
    right_end _ _ _ _ _ _ _ _ _ c.min-high.ensures before (plus_done _ _ _ _ _ c.loop-x-2-test.false c.loop-x-2.invariant)
