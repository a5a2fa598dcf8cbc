-- `model::sums::minus_products` meets its contract. The loop's invariant: taking away what is left gives the whole.
-- Assumes nothing.
use Rattle.model.proofs.sums.Laws.{minus_turn, minus_done}
use Rattle.model.proofs.sums.minus_products.Goals as goal

pub loop-k-preserved : goal.loop-k-preserved
loop-k-preserved c = minus_turn _ _ _ _ _ c.loop-k-test.true c.loop-k.invariant

pub returns : goal.returns
returns c = minus_done _ _ _ _ _ c.loop-k-test.false c.loop-k.invariant
