-- `model::estimate::correlate` meets its contract. The loop's invariant: the first lags stand behind the window, which
-- is as it was. Assumes nothing.
use Prim.Native.Nat.{◌+◌, ◌-◌}
use native.Mathlib.Omega.{arith}
use mathlib.Core.Path.{◌≡◌, refl}
use lib.ListN.{length-set}
use Rattle.model.proofs.estimate.Laws.{fill_start, lag_turn, lag_done}
use Rattle.model.proofs.estimate.correlate.Goals as goal

pub loop-lag-init : goal.loop-lag-init
loop-lag-init c = (refl, fill_start _ _ _)

pub loop-lag-preserved : goal.loop-lag-preserved
loop-lag-preserved c =
    let inv = c.loop-lag.invariant in
    let whole : c.args.size - 0 ≡ c.args.size = omega arith in
    (simp length-set inv.0, lag_turn _ _ _ _ _ _ _ _ whole inv.1 c.lag_sum.ensures)

pub returns : goal.returns
returns c =
    let a = c.args in
    let all : c.loop-lag.lag ≡ a.p + 1 = omega arith in
    lag_done a.work.now _ a.size a.g a.len a.p _ all c.loop-lag.invariant.1
