-- `model::estimate::raise_order` meets its contract. The loop's invariant: the first j coefficients of the order stand
-- at `copy`, from those that stood at a. Assumes nothing.
use Prim.Native.Nat.{◌+◌, ◌-◌, ◌≤◌}
use native.Mathlib.Omega.{arith}
use mathlib.Core.Path.{◌≡◌, refl}
use lib.ListN.{length, length-set}
use Rattle.model.proofs.estimate.Laws.{fill_start, raise_turn, raise_done}
use Rattle.model.proofs.estimate.raise_order.Goals as goal

pub loop-j-init : goal.loop-j-init
loop-j-init c = (refl, fill_start _ _ _)

pub loop-j-preserved : goal.loop-j-preserved
loop-j-preserved c =
    let a = c.args in
    let inv = c.loop-j.invariant in
    let part : a.a + (a.p + 1) - a.a ≡ a.p + 1 = omega arith in
    let before : a.copy + c.loop-j.j ≤ a.a = omega arith in
    (simp length-set inv.0, raise_turn _ _ _ _ _ _ _ _ _ _ part before inv.1 c.raised_at.ensures)

pub returns : goal.returns
returns c =
    let a = c.args in
    let room : a.a + (a.p + 1) ≤ length a.work.now = omega arith in
    let all : c.loop-j.j ≡ a.p + 1 = omega arith in
    raise_done _ _ _ _ _ _ _ _ room all c.loop-j.invariant.1
