-- `model::fill::right_sides` meets its contract. The loop's invariant: the first right sides stand at `rhs`, and the
-- window and b are as they were. Assumes nothing.
use Prim.Native.Nat.{◌+◌, ◌-◌, ◌≤◌}
use native.Mathlib.Omega.{arith}
use mathlib.Core.Path.{◌≡◌, refl}
use lib.ListN.{length-set}
use Rattle.model.proofs.estimate.Laws.{fill_start}
use Rattle.model.proofs.fill.Laws.{side_turn, side_done}
use Rattle.model.proofs.fill.right_sides.Goals as goal

pub loop-i-init : goal.loop-i-init
loop-i-init c = (refl, fill_start _ _ _)

pub loop-i-preserved : goal.loop-i-preserved
loop-i-preserved c =
    let a = c.args in
    let inv = c.loop-i.invariant in
    let window : a.size - 0 ≡ a.size = omega arith in
    let sums : a.b + (a.p + 1) - a.b ≡ a.p + 1 = omega arith in
    let before : a.size ≤ a.rhs = omega arith in
    let before-too : a.b + (a.p + 1) ≤ a.rhs = omega arith in (
      simp length-set inv.0,
      side_turn a.work.now _ a.size a.g a.len a.b a.rhs a.p _ _ _ _ window sums before before-too
          inv.1 c.right_side.ensures,
    )

pub returns : goal.returns
returns c =
    let a = c.args in
    let all : c.loop-i.i ≡ a.len = omega arith in
    side_done a.work.now _ a.size a.g a.len a.b a.rhs a.p _ all c.loop-i.invariant.1
