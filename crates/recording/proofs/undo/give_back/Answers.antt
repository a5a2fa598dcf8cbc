-- `recording::undo::give_back` meets its contract. Assumes nothing.
use mathlib.Core.Path.{refl}
use native.Mathlib.Omega.{arith}
use Rattle.recording.proofs.undo.Laws.{none_back, place_below, mark_byte, one_back, all_back}
use Rattle.recording.proofs.undo.give_back.Goals as goal

pub loop-i-init : goal.loop-i-init
loop-i-init c = none_back _ _ _ _ _ c.requires

pub bounds-samples-place : goal.bounds-samples-place
bounds-samples-place c = omega (arith, place_below _ _ _ _ _ _ _ _ c.loop-i.invariant c.loop-i-test.true)

pub overflow_cast-marks : goal.overflow_cast-marks
overflow_cast-marks c = omega (arith, mark_byte _ _ _ _ _ _ _ _ c.loop-i.invariant c.loop-i-test.true)

pub bounds-marks-place : goal.bounds-marks-place
bounds-marks-place c = omega (arith, place_below _ _ _ _ _ _ _ _ c.loop-i.invariant c.loop-i-test.true)

pub loop-i-preserved : goal.loop-i-preserved
loop-i-preserved c = one_back _ _ _ _ _ _ _ _ c.loop-i.invariant c.loop-i-test.true _ refl

pub returns : goal.returns
returns c = all_back _ _ _ _ _ _ _ _ c.loop-i.invariant c.loop-i-test.false
