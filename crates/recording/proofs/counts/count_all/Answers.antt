-- `recording::counts::count_all` meets its contract. Assumes nothing.
use native.Mathlib.Omega.{arith}
use Rattle.recording.proofs.Counting.{counts_first, counts_more, counts_all}
use Rattle.recording.proofs.counts.count_all.Goals as goal

pub loop-next-init : goal.loop-next-init
loop-next-init c = counts_first _ c.args.counts.now c.requires

pub loop-next-preserved : goal.loop-next-preserved
loop-next-preserved c = counts_more _ _ _ _ _ _ (omega arith) c.count_block.ensures c.loop-next.invariant

pub returns : goal.returns
returns c = counts_all _ _ _ _ _ (omega arith) c.loop-next.invariant
