-- `model::banded::back_solve` meets its contract. The loop's invariant: the results from i on stand at x + i and
-- nothing else changed, and what is left to solve gives the whole. Assumes nothing.
use native.Mathlib.Omega.{arith}
use lib.ListN.{length-set}
use Rattle.model.proofs.banded.Laws.{back_stored, back_turn, back_done}
use Rattle.model.proofs.banded.back_solve.Goals as goal

pub loop-i-preserved : goal.loop-i-preserved
loop-i-preserved c =
    let args = c.args in
    let loop = c.loop-i in
    let inv = loop.invariant in
    let x = args.x in
    let len = args.len in (
      simp length-set inv.0,
      back_stored _ _ x len loop.i inv.1 _ (omega arith) (omega arith) (omega arith) inv.0,
      back_turn _ _ x len loop.i inv.1 _ (omega arith) (omega arith) (omega arith) inv.0 args.band args.y args.p _
          (omega arith) (omega arith) c.backward_at.ensures inv.2,
    )

pub returns : goal.returns
returns c =
    let args = c.args in
    let loop = c.loop-i in
    back_done _ _ args.x args.len loop.i loop.invariant.1 args.band args.y args.p _ (omega arith) loop.invariant.2
