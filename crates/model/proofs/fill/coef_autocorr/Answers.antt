-- `model::fill::coef_autocorr` meets its contract. The loop's invariant: the first sums stand at b, and the
-- coefficients are as they were. Assumes nothing.
use Prim.Native.Nat.{◌+◌, ◌-◌, ◌≤◌}
use native.Mathlib.Omega.{arith}
use mathlib.Core.Path.{◌≡◌, refl}
use lib.ListN.{length-set}
use Rattle.model.proofs.estimate.Laws.{fill_start}
use Rattle.model.proofs.fill.Laws.{coef_turn, coef_done}
use Rattle.model.proofs.fill.coef_autocorr.Goals as goal

pub loop-j-init : goal.loop-j-init
loop-j-init c = (refl, fill_start _ _ _)

pub loop-j-preserved : goal.loop-j-preserved
loop-j-preserved c =
    let a = c.args in
    let inv = c.loop-j.invariant in
    let part : a.a + (a.p + 1) - a.a ≡ a.p + 1 = omega arith in
    let before : a.a + (a.p + 1) ≤ a.b = omega arith in
    (simp length-set inv.0, coef_turn _ _ _ _ _ _ _ _ part before inv.1 c.coef_at.ensures)

pub returns : goal.returns
returns c =
    let a = c.args in
    let all : c.loop-j.j ≡ a.p + 1 = omega arith in
    coef_done a.work.now _ a.a a.b a.p _ all c.loop-j.invariant.1
