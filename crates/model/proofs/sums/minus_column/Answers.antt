-- `model::sums::minus_column` meets its contract. The loop's invariant: taking away what is left gives the whole. Assumes
-- nothing.
use native.Mathlib.Omega.{arith}
use Rattle.model.proofs.sums.Laws.{minus_turn, minus_done}
use Rattle.model.proofs.sums.minus_column.Goals as goal

pub loop-k-preserved : goal.loop-k-preserved
loop-k-preserved c = minus_turn _ _ _ _ _ (omega arith) c.loop-k.invariant

pub returns : goal.returns
returns c = minus_done _ _ _ _ _ (omega arith) c.loop-k.invariant

pub returns-2 : goal.returns-2
returns-2 c = minus_done _ _ _ _ _ (omega arith) (minus_turn _ _ _ _ _ (omega arith) c.loop-k.invariant)
