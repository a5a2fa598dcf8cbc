-- `recording::counts::count_block` meets its contract. Assumes nothing.
use native.Mathlib.Omega.{arith}
use native.Mathlib.Nat.{add-zero, sub-zero, zero-add}
use mathlib.Core.Path.{refl}
use Rattle.recording.specs.Counts.{count_of}
use Rattle.recording.proofs.Counting.{counted_one, count_more, count_all}
use Rattle.recording.proofs.counts.count_block.Goals as goal

pub overflow_add-count : goal.overflow_add-count
overflow_add-count c = let most = counted_one _ _ c.counted_mark-count.ensures in omega arith

pub loop-i-init : goal.loop-i-init
unfolding count_of
loop-i-init c = (omega arith, rw (zero-add, add-zero, sub-zero, c.min-size.ensures) refl)

pub loop-i-preserved : goal.loop-i-preserved
loop-i-preserved c =
    let most = counted_one _ _ c.counted_mark-count.ensures in
    (omega arith, count_more _ _ _ _ _ _ _ c.loop-i-test.true c.counted_mark-count.ensures c.loop-i.invariant.1)

pub returns : goal.returns
returns c = count_all _ _ _ _ _ _ c.loop-i-test.false c.loop-i.invariant.1
