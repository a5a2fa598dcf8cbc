-- `recording::question::marks_say` meets its contract: each turn looks at one element. Assumes nothing.
use Rattle.std.proofs.Common.{refl}
use native.Mathlib.Nat.{add-zero, sub-zero}
use Rattle.recording.proofs.question.Laws.{all_looked, one_other, one_same}
use Rattle.recording.proofs.question.marks_say.Goals as goal

pub loop-i-init : goal.loop-i-init
loop-i-init c = rw (add-zero, sub-zero) refl

pub returns-then-marks-start : goal.returns-then-marks-start
returns-then-marks-start c = one_other _ _ _ _ _ _ c.loop-i.invariant c.loop-i-test.true c.if-marks-start.true

pub loop-i-preserved : goal.loop-i-preserved
loop-i-preserved c = one_same _ _ _ _ _ _ c.loop-i.invariant c.loop-i-test.true c.if-marks-start.false

pub returns : goal.returns
returns c = all_looked _ _ _ _ _ _ c.loop-i.invariant c.loop-i-test.false
