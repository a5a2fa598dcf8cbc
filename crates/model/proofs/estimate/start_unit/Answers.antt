-- `model::estimate::start_unit` meets its contract: it stores 1, and +0 in the p places behind it. Assumes nothing.
use Prim.Native.Nat.{◌+◌}
use lib.ListN.{length-set}
use native.Mathlib.Omega.{arith}
use Rattle.model.proofs.estimate.Laws.{unit_stored, zeros_stored}
use Rattle.model.proofs.estimate.start_unit.Goals as goal

pub returns : goal.returns
returns c =
    let w = c.args.work.now in
    let a = c.args.a in
    let p = c.args.p in
    unit_stored w _ a p (zeros_stored _ _ (a + 1) p _ (rw length-set (omega arith)) (c.fill.ensures.after (λ y h. h)))
