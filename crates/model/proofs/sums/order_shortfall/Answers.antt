-- `model::sums::order_shortfall` meets its contract. The loop's invariant: adding what is left gives the whole. Assumes
-- nothing.
use Rattle.model.proofs.sums.Laws.{plus_turn, plus_done, shortfall_start}
use Rattle.model.proofs.sums.order_shortfall.Goals as goal

pub loop-j-init : goal.loop-j-init
loop-j-init c = shortfall_start _ _ _

pub loop-j-preserved : goal.loop-j-preserved
loop-j-preserved c = plus_turn _ _ _ _ _ c.loop-j-test.true c.loop-j.invariant

pub returns : goal.returns
returns c = plus_done _ _ _ _ _ c.loop-j-test.false c.loop-j.invariant
