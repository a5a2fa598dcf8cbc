-- `wavfile::scan::scan_samples` meets its contract: counts, journal and workspace begin empty. Assumes nothing.
use mathlib.Core.Path.{sym}
use Prim.Native.Nat.{ℕ}
use lib.ListN.{length-replicate}
use Rattle.std.proofs.Common.{rules}
use Rattle.monitor.proofs.Scanning.{told_of_lent}
use Rattle.wavfile.proofs.Scanning.{few_blocks, reports}
use Rattle.wavfile.proofs.scan.scan_samples.Goals as goal

pub slice_bounds-counts-end : goal.slice_bounds-counts-end
slice_bounds-counts-end c = few_blocks _ _ c.block_count-blocks.ensures c.requires

pub slice_bounds-recording-end-2 : goal.slice_bounds-recording-end-2
slice_bounds-recording-end-2 c = sym (length-replicate {0} {A = ℕ} 800996 0)

pub returns : goal.returns
returns c =
    let same = c.scan_opened.ensures.memory in
    told_of_lent _ _ _ _ _ _ _ _ _ (search (rules, same.0)) (search (rules, same.1))
    (reports _ _ _ _ _ _ _ c.requires c.block_count-blocks.ensures c.scan_opened.ensures.rule)
