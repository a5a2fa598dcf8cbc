-- `model::banded::forward_solve` meets its contract. The loop's invariant: the first i results stand at y and
-- nothing else changed, and what is left to solve gives the whole. Assumes nothing.
use native.Mathlib.Omega.{arith}
use lib.ListN.{length-set}
use Rattle.model.proofs.banded.Laws.{run_grows, forward_turn, forward_done}
use Rattle.model.proofs.banded.forward_solve.Goals as goal

pub loop-i-preserved : goal.loop-i-preserved
loop-i-preserved c =
    let inv = c.loop-i.invariant in (
      simp length-set inv.0,
      run_grows _ _ _ _ _ (omega arith) inv.1,
      forward_turn _ _ _ _ _ _ _ _ _ inv.1 _ c.loop-i-test.true (omega arith) (omega arith) (omega arith)
          c.forward_at.ensures inv.2,
    )

pub returns : goal.returns
returns c =
    let args = c.args in
    let inv = c.loop-i.invariant in
    forward_done _ _ args.band args.rhs _ _ _ _ _ inv.1 c.loop-i-test.false inv.2
