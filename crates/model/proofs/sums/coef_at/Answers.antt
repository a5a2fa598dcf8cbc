-- `model::sums::coef_at` meets its contract. The loop's invariant: adding what is left gives the whole. Assumes nothing.
use Rattle.model.proofs.sums.Laws.{plus_turn, plus_done, coef_start}
use Rattle.model.proofs.sums.coef_at.Goals as goal

pub loop-k-init : goal.loop-k-init
loop-k-init c = coef_start _ _ _

pub loop-k-preserved : goal.loop-k-preserved
loop-k-preserved c = plus_turn _ _ _ _ _ c.loop-k-test.true c.loop-k.invariant

pub returns : goal.returns
returns c = plus_done _ _ _ _ _ c.loop-k-test.false c.loop-k.invariant
