-- `recording::counts::recount` meets its contract. Assumes nothing.
use native.Mathlib.Omega.{arith}
use Rattle.recording.proofs.counts.Laws.{none_recounted, all_recounted, block_below, one_recounted, same_block}
use Rattle.recording.proofs.counts.recount.Goals.{then-block-last, else-block-last}
use Rattle.recording.proofs.counts.recount.Goals as goal

pub loop-i-init : goal.loop-i-init
loop-i-init c = none_recounted _ _ _ _ _ c.requires

pub count_block-requires : goal.count_block-requires
count_block-requires c =
    block_below _ _ _ _ _ _ _ _ c.loop-i.invariant c.loop-i-test.true _ c.block_of-block.ensures

pub bounds-counts-block : goal.bounds-counts-block
bounds-counts-block c =
    let below = block_below _ _ _ _ _ _ _ _ c.loop-i.invariant c.loop-i-test.true _ c.block_of-block.ensures in
    omega (arith, below, c.loop-i.auto.counts, c.requires.counted)

pub loop-i-preserved : goal.loop-i-preserved
loop-i-preserved c =
    let h = c.loop-i-test.true in
    let inv = c.loop-i.invariant in
    let read = c.block_of-block.ensures in
    elim c.if-block-last.branch [
      | then-block-last w ↦ rw (w.counts-is, w.last-is) (one_recounted _ _ _ _ _ _ _ _ inv h _ read _ w.count_block.ensures)
      | else-block-last w ↦ rw (w.counts-is, w.last-is) (same_block _ _ _ _ _ _ _ _ inv h _ read w.if-block-last.false)
    ]

pub returns : goal.returns
returns c = all_recounted _ _ _ _ _ _ _ _ c.loop-i.invariant c.loop-i-test.false
